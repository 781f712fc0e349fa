use Rattle.std.proofs.Common.{◌≡◌, take, drop, ap, arith, rules}
use Rattle.std.proofs.lemmas.Grind.{common_steps}
use Rattle.ends.specs.Holding.{held, with_places}
use Rattle.admission.proofs.Emptying.{emptied_if, emptied_halves}
use Rattle.admission.proofs.failing.empty.Goals as goal
use Rattle.admission.proofs.failing.empty.Goals.{then-coded, else-coded}

pub returns-then-coded-2 : goal.returns-then-coded-2
returns-then-coded-2 c =
    let s = c.args.state.now in
    let pairwise : c.if-coded.pairwise ≡ emptied_if c.args.coded.pairwise 16 (take 16 s.slots) = elim c.if-coded.branch [ then-coded w ↦ grind (arith, common_steps) | else-coded w ↦ grind (arith, common_steps) ] in
    let group : c.fill-then-coded-2.new.self ≡ emptied_if c.args.coded.group 3 (drop 16 s.slots) = grind (arith, common_steps) in
    ap (with_places (held s)) (emptied_halves c.args.coded s.slots c.if-coded.pairwise c.fill-then-coded-2.new.self (search rules) pairwise group (search rules))

pub returns-else-coded-2 : goal.returns-else-coded-2
returns-else-coded-2 c =
    let s = c.args.state.now in
    let pairwise : c.if-coded.pairwise ≡ emptied_if c.args.coded.pairwise 16 (take 16 s.slots) = elim c.if-coded.branch [ then-coded w ↦ grind (arith, common_steps) | else-coded w ↦ grind (arith, common_steps) ] in
    let group : c.split_at_mut-pairwise.result.1.now ≡ emptied_if c.args.coded.group 3 (drop 16 s.slots) = grind (arith, common_steps) in
    ap (with_places (held s)) (emptied_halves c.args.coded s.slots c.if-coded.pairwise c.split_at_mut-pairwise.result.1.now (search rules) pairwise group (search rules))
