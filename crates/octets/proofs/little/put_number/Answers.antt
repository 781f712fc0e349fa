use Rattle.std.proofs.Common.{arith}
use Rattle.std.proofs.lemmas.Grind.{common_steps}
use Rattle.octets.proofs.Widths.{little_taken}
use Rattle.octets.proofs.little.put_number.Goals as goal

pub returns : goal.returns
returns g c =
    let low = little_taken g.row.N c.args.value c.requires.width in
    grind (arith, common_steps, low)
