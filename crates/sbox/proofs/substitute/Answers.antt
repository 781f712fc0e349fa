use Rattle.std.proofs.Common.{◌<◌, rules}
use Rattle.sbox.specs.Field.{xtime, times, product, power, inverse, turned, affine, sub}
use Rattle.sbox.proofs.Rule.{right, rule, inverse_law}
use Rattle.sbox.proofs.substitute.Goals as goal

pub returns : goal.returns
unfolding right xtime times product power inverse turned affine sub
returns c =
    let octet : c.args.x < 256 = search rules in
    record { value = search (rules, rule); inverse = inverse_law c.args.x octet }
