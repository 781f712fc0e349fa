use Rattle.std.proofs.Common.{replicate, Err, ap, ◌∙◌}
use Rattle.std.proofs.lemmas.Result.{err_from_is_err_and}
use Rattle.ends.specs.Places.{suites}
use Rattle.ends.specs.Holding.{held}
use Rattle.ends.specs.Calls.{arrival}
use Rattle.link.proofs.Stepping.{refused_step, group-step, pairwise-step}
use Rattle.link.proofs.link_ends.LinkEnd.arrive.Goals as goal

pub returns-in_err-header-clause-step : goal.returns-in_err-header-clause-step
returns-in_err-header-clause-step g c =
    let S = suites g.P.Suite.means g.G.Suite.means in
    let a = arrival c.args.frame.now c.args.time c.args.working.now c.args.message.now in
    let p = err_from_is_err_and c.from_residual.result c.from_residual.ensures.1 in
    refused_step S (held c.args.self.now.state) a c.coded_suites-coded.result c.coded_suites-coded.ensures c.in_err-header.field-0.0 c.from_residual.result c.drop-guard.new.self.0 c.in_err-header.ensures.value (p.1 ∙ ap Err p.2) c.drop-guard.ensures

pub returns-then-is_group-clause-step : goal.returns-then-is_group-clause-step
returns-then-is_group-clause-step g c =
    let S = suites g.P.Suite.means g.G.Suite.means in
    let a = arrival c.args.frame.now c.args.time c.args.working.now c.args.message.now in
    let over = c.arrive_over in
    group-step S (held c.args.self.now.state) a c.coded_suites-coded.result c.coded_suites-coded.ensures c.is_group.result c.in_ok-header.header (held over.new.state) over.result c.drop-guard-then-is_group.new.self.0 over.new.message c.in_ok-header.ensures.value c.is_group.ensures c.if-is_group.true over.ensures (c.drop-guard-then-is_group.ensures ∙ ap (λ n. replicate n 0) over.auto.working)

pub returns-clause-step : goal.returns-clause-step
returns-clause-step g c =
    let S = suites g.P.Suite.means g.G.Suite.means in
    let a = arrival c.args.frame.now c.args.time c.args.working.now c.args.message.now in
    let over = c.arrive_over-else-is_group in
    pairwise-step S (held c.args.self.now.state) a c.coded_suites-coded.result c.coded_suites-coded.ensures c.is_group.result c.in_ok-header.header (held over.new.state) over.result c.drop-guard-2.new.self.0 over.new.message c.in_ok-header.ensures.value c.is_group.ensures c.if-is_group.false over.ensures (c.drop-guard-2.ensures ∙ ap (λ n. replicate n 0) over.auto.working)
