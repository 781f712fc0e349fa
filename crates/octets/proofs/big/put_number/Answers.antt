use Rattle.std.proofs.Common.{arith}
use Rattle.std.proofs.lemmas.Grind.{common_steps}
use Rattle.octets.proofs.Widths.{big_dropped}
use Rattle.octets.proofs.big.put_number.Goals as goal

pub returns : goal.returns
returns g c =
    let low = big_dropped g.row.N c.args.value c.requires.width in
    grind (arith, common_steps, low)
