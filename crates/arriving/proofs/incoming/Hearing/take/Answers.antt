use Rattle.std.proofs.Common.{◌≡◌, take, Some, Ok, Err, sym, ap, ◌∙◌, subst}
use Rattle.std.proofs.lemmas.List.{take_at}
use Rattle.std.proofs.lemmas.Result.{err_from_is_err_and}
use Rattle.ends.specs.Holding.{filling}
use Rattle.ends.specs.Calls.{Verdict}
use Rattle.arriving.specs.Gathering.{gathered}
use Rattle.arriving.specs.Outcomes.{Takes}
use Rattle.arriving.proofs.Verdicts.{refuses, completes}
use Rattle.arriving.proofs.incoming.Hearing.take.Goals as goal

pub returns-in_err-size : goal.returns-in_err-size
returns-in_err-size g c = λ time.
    let p = err_from_is_err_and c.from_residual.result c.from_residual.ensures.1 in
    refuses g.S.Suite.means c.args.self.now.role c.args.self.now.incoming.place c.args.self.now.incoming.header.now c.args.self.now.incoming.frame.now c.args.self.now.incoming.counter time (filling c.args.installation.now)
    c.in_err-size.field-0.0 c.from_residual.result c.args.message.now c.in_err-size.ensures.value (p.1 ∙ ap Err p.2)

pub returns : goal.returns
returns g c = λ time.
    let M = g.S.Suite.means in
    let f = filling c.args.installation.now in
    let h = c.args.self.now.incoming.header.now in
    let whole = c.split_at_mut-whole.result.0.now in
    let size = c.in_ok-size.size in
    let front : take size c.gather.new.working ≡ whole = ap (take size) c.split_at_mut-whole.ensures.value ∙ take_at whole c.split_at_mut-whole.result.1.now size c.split_at_mut-whole.ensures.front_len in
    let all : gathered M c.args.self.now.incoming.place f h c.args.self.now.incoming.frame.now c.args.self.now.incoming.counter ≡ Ok whole = c.in_ok-size.ensures.value.1 ∙ ap Ok front in
    let done = completes M c.args.self.now.role c.args.self.now.incoming.place h c.args.self.now.incoming.frame.now c.args.self.now.incoming.counter time f whole all in
    subst (λ (v : Verdict). Takes v (Some f) (Some (filling c.complete.new.installation)) c.args.message.now c.complete.new.message c.complete.result) (sym done) (c.complete.ensures time)
