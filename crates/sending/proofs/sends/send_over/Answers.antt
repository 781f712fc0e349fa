use Rattle.std.proofs.Common.{◌≡◌, ℕ, Err, Result, sym, ap, ◌∙◌, subst, arith}
use Rattle.std.proofs.lemmas.Result.{err_from_is_err_and}
use Rattle.suite.specs.declared.sizes.Sizes.{Sizes}
use Rattle.ends.specs.declared.refusals.Refusal.{Refusal}
use Rattle.ends.specs.Holding.{held}
use Rattle.ends.specs.Calls.{sending}
use Rattle.ends.specs.Sends.{judge_send}
use Rattle.sending.specs.Sent.{Leaves, next_counter}
use Rattle.sending.proofs.Deciding.{refused, Grants}
use Rattle.sending.proofs.Finishing.{leaves_refused, leaves-granted}
use Rattle.sending.proofs.sends.send_over.Goals as goal

pub returns-in_err-outgoing : goal.returns-in_err-outgoing
returns-in_err-outgoing g c =
    let M = g.S.Suite.means in
    let e = held c.args.state.now in
    let s = sending c.args.request.now c.args.message.now c.args.frames.now c.args.index.now c.args.working.now in
    let x = c.in_err-outgoing.field-0.0 in
    let exit = err_from_is_err_and c.from_residual.result c.from_residual.ensures.1 in
    let is : c.from_residual.result ≡ Err x = exit.1 ∙ ap (λ (x : Refusal). Err x) exit.2 in
    let why = refused c.sizes.result M.sizes e s x c.sizes.ensures c.in_err-outgoing.ensures.value in
    subst (λ (r : Result ℕ Refusal). Leaves (judge_send M e s) e e r s.frames s.frames s.index s.index) (sym is) (leaves_refused M e s x why)

pub note_sent-requires-clause-few : goal.note_sent-requires-clause-few
note_sent-requires-clause-few g c =
    let w = c.in_ok-outgoing.ensures.granted in
    omega (arith, ap next_counter w.fills, w.next, w.ready.fits.counters, ap (λ (z : Sizes). z.top) c.sizes.ensures, g.met.S.Suite.keeps.bounded.top_most)

pub returns : goal.returns
returns g c =
    let M = g.S.Suite.means in
    let e = held c.args.state.now in
    let s = sending c.args.request.now c.args.message.now c.args.frames.now c.args.index.now c.args.working.now in
    let w = subst (λ (z : Sizes). Grants z e s c.in_ok-outgoing.outgoing) c.sizes.ensures c.in_ok-outgoing.ensures.granted in
    leaves-granted M e s c.in_ok-outgoing.outgoing w (held c.note_sent.new.state) c.carry_out.new.frames c.carry_out.new.index c.note_sent.ensures c.carry_out.ensures.frames c.carry_out.ensures.index
