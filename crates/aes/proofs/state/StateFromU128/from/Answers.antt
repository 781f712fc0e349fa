use Rattle.std.proofs.Common.{refl}
use Rattle.aes.specs.Words.{octets, held}
use Rattle.aes.proofs.state.StateFromU128.from.Goals as goal

pub returns : goal.returns
unfolding octets held
returns c = refl
