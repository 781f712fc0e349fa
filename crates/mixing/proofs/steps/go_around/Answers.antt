use Rattle.std.proofs.Common.{◌≡◌, ◌^◌, ◌<◌, length, get_or, arith, rules}
use lib.Bits.{bit_xor, xor_lt}
use Rattle.mixing.proofs.Chain.{going_more}
use Rattle.mixing.proofs.steps.go_around.Goals as goal

pub loop-n-preserved : goal.loop-n-preserved
loop-n-preserved g c =
    let keys : length c.args.keys.now ≡ g.row.N = search rules in
    let words : length c.args.words.now ≡ g.row.N = search rules in
    let fits : bit_xor c.loop-n.before (get_or c.args.keys.now c.loop-n.n 0) < 2 ^ 16 = xor_lt 16 c.loop-n.before (get_or c.args.keys.now c.loop-n.n 0) (search rules) (search rules) in (
      c.loop-n.invariant.0,
      search rules,
      λ gives acts. going_more gives c.args.keys.now c.args.words.now c.loop-n.n c.loop-n.before c.loop-n.words c.give.result (omega arith) (omega arith) (acts _ _ fits c.give.ensures) (c.loop-n.invariant.2 gives acts),
    )
