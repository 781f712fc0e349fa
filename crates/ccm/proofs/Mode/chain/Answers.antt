use Rattle.std.proofs.Common.{◌≡◌, ◌/◌, ◌<◌, [], length, get_or, sym, ap, ◌∙◌, arith}
use Rattle.aes.specs.Words.{octets}
use Rattle.ccm.specs.Ccm.{block_of}
use Rattle.ccm.specs.Inner.{under}
use Rattle.ccm.proofs.Blocks.{cut, something, block_whole, chained_none, chained_next, chained_last}
use Rattle.ccm.proofs.Mode.chain.Goals as goal

pub loop-block-init : goal.loop-block-init
loop-block-init c = sym (chained_none (under c.args.self.now.cipher) (octets c.args.start))

pub loop-block-preserved : goal.loop-block-preserved
loop-block-preserved c =
    let xs = c.args.octets.now in
    let i = c.loop-block.block-index in
    let cuts = c.as_chunks.ensures in
    let before : i < length xs / 16 = omega arith in
    let block = c.load.ensures ∙ ap (λ l. get_or l i []) cuts.front ∙ cut (length xs / 16) xs i before ∙ sym (block_whole xs i (omega arith)) in
    chained_next (under c.args.self.now.cipher) (octets c.args.start) (block_of xs) i _ _ _ c.loop-block.invariant block c.encrypt_word-mac.ensures

pub returns : goal.returns
returns c =
    let xs = c.args.octets.now in
    let rest = c.as_chunks.result.1.now in
    let all : c.loop-block.block-index ≡ length xs / 16 = omega arith in
    chained_last (under c.args.self.now.cipher) (octets c.args.start) xs rest c.loop-block.block-index _ _ _ all c.as_chunks.ensures.back c.as_chunks.ensures.back_len
    (something (length rest) _ c.is_empty.ensures c.if-is_empty.false) c.loop-block.invariant c.filled_word.ensures c.encrypt_word.ensures
