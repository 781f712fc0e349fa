use Rattle.std.proofs.Common.{◌++◌}
use Rattle.aes.specs.Words.{held}
use Rattle.aes.proofs.Quads.{quad-xor}
use Rattle.aes.proofs.state.StateBitXor.bitxor.Goals as goal

pub returns : goal.returns
unfolding held
returns c =
    let x = c.args.self in
    let y = c.args.rhs in
    λ i. quad-xor x.a y.a i ++ quad-xor x.b y.b i ++ quad-xor x.c y.c i ++ quad-xor x.d y.d i
