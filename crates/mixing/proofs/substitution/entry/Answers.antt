use Rattle.std.proofs.Common.{◌<◌, rules}
use Rattle.sbox.specs.Field.{xtime, thrice, times, product, power, inverse, turned, affine, sub}
use Rattle.mixing.specs.Mixing.{table_entry}
use Rattle.mixing.proofs.Rule.{right, rule}
use Rattle.mixing.proofs.substitution.entry.Goals as goal

pub returns : goal.returns
unfolding right xtime thrice times product power inverse turned affine sub table_entry
returns c = let octet : c.args.n < 256 = search rules in search (rules, rule)
