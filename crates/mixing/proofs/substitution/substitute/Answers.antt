use Rattle.std.proofs.Common.{rules}
use Rattle.mixing.specs.Mixing.{substituted}
use Rattle.mixing.proofs.substitution.substitute.Goals as goal

pub returns : goal.returns
unfolding substituted
returns c = search rules
