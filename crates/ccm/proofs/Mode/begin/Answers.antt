use Rattle.std.proofs.Common.{◌≡◌, true, false, ap, ◌∙◌}
use Rattle.ccm.specs.Ccm.{numbered, first_flags, blocks, measured}
use Rattle.ccm.specs.Inner.{under}
use Rattle.ccm.proofs.Additional.{flags_by}
use Rattle.ccm.proofs.Blocks.{begun}
use Rattle.ccm.proofs.Mode.begin.Goals as goal
use Rattle.ccm.proofs.Mode.begin.Goals.{then-is_empty, else-is_empty}

pub returns : goal.returns
returns c =
    let mode = c.args.self.now in
    let xs = mode.additional.now in
    let flags : c.if-is_empty.flags ≡ first_flags xs = elim c.if-is_empty.branch [
      | then-is_empty w ↦ w.flags-is ∙ flags_by xs c.is_empty.result true c.is_empty.ensures w.if-is_empty.true
      | else-is_empty w ↦ w.flags-is ∙ flags_by xs c.is_empty.result false c.is_empty.ensures w.if-is_empty.false
    ] in
    let first = c.numbered_word.ensures ∙ ap (λ f. numbered f mode.nonce.now c.args.size) flags in
    c.chain_additional.ensures
    ∙ begun (under mode.cipher) _ (blocks (measured xs)) c.numbered_word.result c.encrypt_word-first.result first c.encrypt_word-first.ensures
