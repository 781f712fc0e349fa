use Rattle.std.proofs.Common.{◌-◌, length, take, drop, refl, ap, ◌∙◌, arith}
use Rattle.std.proofs.lemmas.List.{take_all}
use Rattle.octets.specs.Octets.{written, begins}
use Rattle.octets.proofs.Writing.{written_after}
use Rattle.aes.specs.Aes.{aes128}
use Rattle.ccm.specs.Ccm.{ccm_seal}
use Rattle.ccmp.specs.Ccmp.{head_octets}
use Rattle.ccmp.specs.Laws.{length_sealed}
use Rattle.ccmp.proofs.suites.CcmpSuite.seal.Goals as goal

pub returns : goal.returns
returns c =
    let head = head_octets c.args.key_id c.args.counter in
    let piece = c.args.piece.now in
    let old = c.args.out.now in
    let one = c.put.new.memory in
    let first = c.put.ensures ∙ ap (λ h. written 0 h old) c.head.ensures in
    let key = c.array_at.ensures ∙ take_all 16 c.args.key.now (omega arith) in
    let rest = c.seal.ensures.memory ∙ (λ i. begins (ccm_seal (aes128 (key i)) (c.nonce.ensures i) (c.additional.ensures i) piece) (take (length one - 8) (drop 8 one))) in
    record {
      length = length_sealed c.args.key.now c.args.header.now c.args.key_id c.args.counter piece;
      memory = written_after 8 head _ old one c.seal.new.out refl first rest;
    }
