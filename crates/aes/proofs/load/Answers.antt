use Rattle.std.proofs.Common.{ap, ◌∙◌, arith, rules}
use Rattle.std.specs.Int.{w128, from_le_bytes}
use Rattle.std.proofs.lemmas.List.{take_all}
use Rattle.aes.proofs.Quads.{octets-written}
use Rattle.aes.proofs.load.Goals as goal

pub returns : goal.returns
returns c =
    let block = c.args.block.now in
    let same = c.array_at-octets.ensures ∙ take_all 16 block (omega arith) in
    octets-written block c.from_le_bytes.result c.requires (search rules) (c.from_le_bytes.ensures ∙ ap (from_le_bytes w128) same)
