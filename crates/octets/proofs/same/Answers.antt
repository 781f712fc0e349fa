use Rattle.octets.proofs.Comparing.{compare_all, unlike_lengths}
use Rattle.octets.proofs.same.Goals as goal

pub returns : goal.returns
returns c = compare_all c.args.a.now c.args.b.now c.differences.result c.if-a-b.false c.differences.ensures

pub returns-then-a-b : goal.returns-then-a-b
returns-then-a-b c = unlike_lengths c.args.a.now c.args.b.now c.if-a-b.true
