use Rattle.std.proofs.Common.{◌≡◌, ◌+◌, ◌*◌, ◌/◌, ◌<◌, ◌≤◌, [], length, get_or, refl, sym, ap, ◌∙◌, arith}
use Rattle.std.proofs.lemmas.List.{take_all}
use Rattle.octets.specs.Octets.{part, begins}
use Rattle.aes.specs.Words.{octets}
use Rattle.ccm.specs.Ccm.{block_of, count_blocks, covered}
use Rattle.ccm.specs.Inner.{under, plain}
use Rattle.ccm.proofs.Blocks.{cut, nothing, something, block_whole, chained_none, chained_next, chained_whole}
use Rattle.ccm.proofs.Covering.{opens, opened_plain, sealed_plain, length_plain, covered-block, block_next, rest_next, chained_all}
use Rattle.ccm.proofs.Finishing.{tail_made}
use Rattle.ccm.proofs.Stream.{length-covered}
use Rattle.ccm.proofs.Mode.cover.Goals as goal
use Rattle.ccm.proofs.Mode.cover.Goals.{then-this-ne0, else-this-ne0}

pub loop-i-init : goal.loop-i-init
loop-i-init g c = (refl, sym (chained_none (under c.args.self.now.cipher) (octets c.begin-mac.result)))

pub loop-i-preserved : goal.loop-i-preserved
loop-i-preserved g c =
    let mode = c.args.self.now in
    let E = under mode.cipher in
    let nonce = mode.nonce.now in
    let xs = c.args.text.now in
    let i = c.loop-i.i in
    let inside : i < length xs / 16 = omega arith in
    let room : 16 * i + 16 ≤ length xs = omega arith in
    let same = length-covered E nonce xs mode.whole in
    let text : octets c.load-block.result ≡ part (16 * i) 16 xs = c.load-block.ensures ∙ ap (λ l. get_or l i []) c.as_chunks.ensures.front ∙ cut (length xs / 16) xs i inside in
    let turned = covered-block E nonce xs i c.load-block.result c.stream.result mode.whole room text c.stream.ensures in
    let chosen : octets c.if-this-ne0.plain ≡ block_of (plain (opens g.row.OPENING) E nonce xs) i = elim c.if-this-ne0.branch [
      | then-this-ne0 w ↦ ap octets w.plain-is ∙ turned ∙ sym (block_whole (covered E nonce xs) i (omega arith)) ∙ ap (λ l. block_of l i) (opened_plain g.row.OPENING E nonce xs w.if-this-ne0.true)
      | else-this-ne0 w ↦ ap octets w.plain-is ∙ text ∙ sym (block_whole xs i room) ∙ ap (λ l. block_of l i) (sealed_plain g.row.OPENING E nonce xs w.if-this-ne0.false)
    ] in (
      block_next (covered E nonce xs) c.args.out.now c.loop-i.out c.put.new.memory c.store.result i (omega arith) c.loop-i.invariant.0 c.put.ensures (c.store.ensures ∙ turned),
      chained_next E (octets c.begin-mac.result) (block_of (plain (opens g.row.OPENING) E nonce xs)) i c.loop-i.mac c.if-this-ne0.plain c.encrypt_word-mac.result c.loop-i.invariant.1 chosen c.encrypt_word-mac.ensures,
    )

pub returns-then-is_empty : goal.returns-then-is_empty
returns-then-is_empty g c =
    let mode = c.args.self.now in
    let E = under mode.cipher in
    let nonce = mode.nonce.now in
    let xs = c.args.text.now in
    let ys = plain (opens g.row.OPENING) E nonce xs in
    let rest = c.as_chunks.result.1.now in
    let none = nothing (length rest) _ c.is_empty.ensures c.if-is_empty.true in
    let size = c.as_chunks.ensures.back_len in
    let same = length-covered E nonce xs mode.whole in
    let long = length_plain (opens g.row.OPENING) E nonce xs mode.whole in
    let all : c.loop-i.i ≡ length ys / 16 = omega arith in
    record {
      memory = c.loop-i.invariant.0 ∙ ap (λ l. begins l c.args.out.now) (take_all (16 * c.loop-i.i) (covered E nonce xs) (omega arith));
      tail = tail_made E nonce mode.additional.now ys _ _ c.tail.result _ (sym long) c.begin-mac.ensures (chained_whole E (octets c.begin-mac.result) ys rest c.loop-i.i _ all (omega arith) none c.loop-i.invariant.1) c.tail.ensures;
    }

pub returns : goal.returns
returns g c =
    let mode = c.args.self.now in
    let E = under mode.cipher in
    let nonce = mode.nonce.now in
    let xs = c.args.text.now in
    let ys = plain (opens g.row.OPENING) E nonce xs in
    let k = length xs / 16 in
    let rest = c.as_chunks.result.1.now in
    let some = something (length rest) _ c.is_empty.ensures c.if-is_empty.false in
    let size = c.as_chunks.ensures.back_len in
    let all : c.loop-i.i ≡ k = omega arith in
    let same = length-covered E nonce xs mode.whole in
    let long = length_plain (opens g.row.OPENING) E nonce xs mode.whole in
    let count : k + 1 ≡ count_blocks ys = omega arith in
    record {
      memory = rest_next (covered E nonce xs) c.args.out.now c.loop-i.out c.cover_last-mac.new.out c.loop-i.i k all (omega arith) c.loop-i.invariant.0 c.cover_last-mac.ensures.memory;
      tail = tail_made E nonce mode.additional.now ys _ _ c.tail-2.result _ (sym long) c.begin-mac.ensures (chained_all E (octets c.begin-mac.result) ys c.loop-i.i k _ _ all count c.loop-i.invariant.1 c.cover_last-mac.ensures.mac) c.tail-2.ensures;
    }
