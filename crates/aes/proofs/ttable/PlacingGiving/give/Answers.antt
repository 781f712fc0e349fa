use Rattle.std.proofs.Common.{ap, ◌∙◌}
use Rattle.aes.specs.Words.{seat}
use Rattle.aes.proofs.Quads.{quad-seat}
use Rattle.aes.proofs.ttable.PlacingGiving.give.Goals as goal

pub returns : goal.returns
returns c =
    let row = c.args.row in
    let v = c.substitute in
    quad-seat row v.result c.from_le_bytes.result c.requires v.type_inv c.from_le_bytes.ensures ∙ ap (seat row) v.ensures.value
