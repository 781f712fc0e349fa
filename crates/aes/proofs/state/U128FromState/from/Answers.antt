use Rattle.std.proofs.Common.{◌<◌, ap, ◌∙◌, arith, rules}
use Rattle.aes.specs.Words.{octets, held}
use Rattle.aes.proofs.Quads.{joined}
use Rattle.aes.proofs.state.U128FromState.from.Goals as goal

pub returns : goal.returns
unfolding held
returns c =
    let s = c.args.s in
    let a : s.a < 4294967296 = search rules in
    let b : s.b < 4294967296 = search rules in
    let c' : s.c < 4294967296 = search rules in
    let d : s.d < 4294967296 = search rules in
    ap octets (omega arith) ∙ joined s.a s.b s.c s.d a b c' d
