use Rattle.std.proofs.Common.{Ok, Err, sym, ap, ◌∙◌, subst}
use Rattle.std.proofs.lemmas.Result.{err_from_is_err_and}
use Rattle.ends.specs.declared.refusals.Refusal.TheVariants.{HeadRefused}
use Rattle.ends.specs.Holding.{held}
use Rattle.ends.specs.Calls.{Verdict}
use Rattle.ends.specs.Checks.{settled}
use Rattle.ends.specs.Arrivals.{over_suite}
use Rattle.arriving.specs.Outcomes.{Arrives}
use Rattle.arriving.proofs.Verdicts.{names}
use Rattle.arriving.proofs.Finishing.{finishes, nothing, at_found, unread, by_match}
use Rattle.arriving.proofs.arrivals.arrive_over.Goals as goal

pub returns-in_err-counter : goal.returns-in_err-counter
returns-in_err-counter g c =
    let M = g.S.Suite.means in
    let e = held c.args.state.now in
    let a = c.args.admitted.now in
    let fault = c.in_err-counter.field-0.0 in
    let p = err_from_is_err_and c.from_residual.result c.from_residual.ensures.1 in
    nothing a.coded (settled (over_suite M e a.header.now a.frame.now a.time)) e c.args.message.now (HeadRefused fault) c.from_residual.result (unread M e a.header.now a.frame.now a.time c.body_of.result.now c.body_of.ensures fault c.in_err-counter.ensures.value) (p.1 ∙ ap Err p.2)

pub returns-in_err-place : goal.returns-in_err-place
returns-in_err-place g c =
    let M = g.S.Suite.means in
    let e = held c.args.state.now in
    let a = c.args.admitted.now in
    let read = c.in_ok-counter in
    let refusal = c.in_err-place.field-0.0 in
    let answer = c.from_residual-in_err-place in
    let p = err_from_is_err_and answer.result answer.ensures.1 in
    nothing a.coded (settled (over_suite M e a.header.now a.frame.now a.time)) e c.args.message.now refusal answer.result (by_match M e a.header.now a.frame.now a.time c.body_of.result.now c.body_of.ensures read.counter read.key_id (Err refusal) read.ensures.value c.in_err-place.ensures.value) (p.1 ∙ ap Err p.2)

pub returns : goal.returns
returns g c =
    let M = g.S.Suite.means in
    let e = held c.args.state.now in
    let a = c.args.admitted.now in
    let h = a.header.now in
    let frame = a.frame.now in
    let old = c.args.message.now in
    let read = c.in_ok-counter in
    let q = c.in_ok-place.place in
    let body = c.body_of.result.now in
    let is = by_match M e h frame a.time body c.body_of.ensures read.counter read.key_id (Ok q) read.ensures.value c.in_ok-place.ensures.value in
    let took = c.take_at-taken in
    let end = held c.finish.new.state in
    subst (λ (v : Verdict). Arrives a.coded v e end old took.new.message c.finish.result) (sym is)
    (finishes a.coded e (held took.new.state) end q h.fragment a.time old took.new.message took.result c.finish.result c.finish.ensures.answer c.finish.ensures.holds (settled (at_found M e h frame a.time body c.body_of.ensures read.counter q)) (names M e.role q h frame read.counter a.time (e.at q)) (took.ensures a.time))
