use Rattle.std.proofs.Common.{◌^◌, ◌<◌, ap, ◌∙◌, rules}
use lib.Bits.{bit_xor}
use Rattle.std.proofs.ByRecursion.{All-from_get_or}
use Rattle.octets.specs.Octets.{AreOctets, little_octets}
use Rattle.octets.proofs.Words.{word-xored}
use Rattle.words.proofs.exclusive_or.Goals as goal

pub returns : goal.returns
returns c =
    let word : c.args.word < 2 ^ 64 = search rules in
    let octets : AreOctets c.args.octets.now = All-from_get_or (λ x. x < 256) c.args.octets.now 0 (λ k h. search rules) in
    c.to_octets.ensures ∙ ap (λ n. little_octets 8 (bit_xor n c.args.word)) c.from_octets.ensures
    ∙ word-xored 8 c.args.octets.now c.args.word c.told-octets octets word
