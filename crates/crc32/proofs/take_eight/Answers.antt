use Rattle.std.proofs.Common.{◌<◌, ap, ◌∙◌, rules}
use lib.Bits.{bit_xor}
use Rattle.std.proofs.ByRecursion.{All-from_get_or}
use Rattle.crc32.specs.Crc32.{steps}
use Rattle.crc32.proofs.Octets.{eight_octets}
use Rattle.crc32.proofs.take_eight.Goals as goal

pub returns : goal.returns
returns c =
    c.divide.ensures ∙ ap (λ n. steps 64 (bit_xor n c.args.c)) c.from_octets.ensures
    ∙ eight_octets c.args.c c.args.octets.now c.told-octets (All-from_get_or (λ x. x < 256) c.args.octets.now 0 (λ k h. search rules))
