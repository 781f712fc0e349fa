use Rattle.std.proofs.Common.{◌≡◌, length, ◌∙◌, rules}
use Rattle.octets.specs.Octets.{written}
use Rattle.ccm.proofs.Words.{numbered_written}
use Rattle.ccm.proofs.numbered_word.Goals as goal

pub returns : goal.returns
returns c =
    let nonce = c.args.nonce.now in
    let long : length nonce ≡ 13 = search rules in
    c.load.ensures ∙ c.put-2.ensures ∙ (λ i. written 14 (c.to_be_bytes.ensures i) (c.put.ensures i)) ∙ numbered_written c.args.flags nonce c.args.number long
