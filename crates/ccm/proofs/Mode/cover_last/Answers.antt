use Rattle.std.proofs.Common.{◌≡◌, ◌+◌, ◌-◌, ◌*◌, ◌/◌, ◌<◌, ◌≤◌, length, take, drop, sym, ap, ◌∙◌, arith}
use Rattle.std.proofs.lemmas.List.{take_rest, length-drop}
use Rattle.octets.specs.Octets.{written, xored}
use Rattle.aes.specs.Words.{octets}
use Rattle.ccm.specs.Ccm.{block_of, covered}
use Rattle.ccm.specs.Inner.{under, filled, plain}
use Rattle.ccm.proofs.Blocks.{block_last}
use Rattle.ccm.proofs.Covering.{opens, opened_plain, sealed_plain, covered-rest}
use Rattle.ccm.proofs.Stream.{length-covered}
use Rattle.aes.proofs.Quads.{octets-xor}
use Rattle.ccm.proofs.Mode.cover_last.Goals as goal
use Rattle.ccm.proofs.Mode.cover_last.Goals.{then-this-ne0, else-this-ne0}

pub returns : goal.returns
returns g c =
    let mode = c.args.self.now in
    let E = under mode.cipher in
    let nonce = mode.nonce.now in
    let xs = c.args.text.now in
    let i = length xs / 16 in
    let last = take_rest xs (16 * i) in
    let size = length (take (length xs - 16 * i) (drop (16 * i) xs)) in
    let n = ap length last ∙ length-drop (16 * i) xs in
    let some : 16 * i < length xs = c.requires.some in
    let most : length xs ≤ 16 * i + 16 = omega arith in
    let same = length-covered E nonce xs mode.whole in
    let text = c.filled_word-block.ensures ∙ ap filled last in
    let turned = ap (take size) c.store-covered.ensures ∙ covered-rest E nonce xs i c.filled_word-block.result c.stream.result size mode.whole some most n text c.stream.ensures in
    let chosen : octets c.if-this-ne0.plain ≡ block_of (plain (opens g.row.OPENING) E nonce xs) i = elim c.if-this-ne0.branch [
      | then-this-ne0 w ↦ ap octets w.plain-is ∙ w.filled_word-plain.ensures ∙ ap filled turned ∙ sym (block_last (covered E nonce xs) i (omega arith) (omega arith)) ∙ ap (λ l. block_of l i) (opened_plain g.row.OPENING E nonce xs w.if-this-ne0.true)
      | else-this-ne0 w ↦ ap octets w.plain-is ∙ text ∙ sym (block_last xs i (omega arith) most) ∙ ap (λ l. block_of l i) (sealed_plain g.row.OPENING E nonce xs w.if-this-ne0.false)
    ] in
    record {
      memory = c.put.ensures ∙ ap (λ l. written (16 * i) l c.args.out.now) turned;
      mac = c.encrypt_word.ensures ∙ ap E (octets-xor c.args.mac c.if-this-ne0.plain ∙ ap (xored (octets c.args.mac)) chosen);
    }
