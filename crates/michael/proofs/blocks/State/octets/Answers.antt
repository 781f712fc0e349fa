use Rattle.std.proofs.Common.{rules}
use Rattle.michael.specs.Michael.{code_octets}
use Rattle.michael.proofs.blocks.State.octets.Goals as goal

pub returns : goal.returns
unfolding code_octets
returns c = search rules
