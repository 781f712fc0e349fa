use Rattle.std.proofs.Common.{refl}
use Rattle.ends.specs.Places.{suites}
use Rattle.ends.specs.Holding.{held}
use Rattle.ends.specs.Calls.Call.{Remove}
use Rattle.ends.specs.Calls.Verdict.{Empties}
use Rattle.ends.specs.Installs.{remove_checks, judge_remove}
use Rattle.ends.proofs.Granting.{granted-step}
use Rattle.link.proofs.link_ends.LinkEnd.remove.Goals as goal

pub returns-clause-step : goal.returns-clause-step
unfolding judge_remove
returns-clause-step g c =
    let e = held c.args.self.now.state in
    let p = c.args.place in
    granted-step (suites g.P.Suite.means g.G.Suite.means) e (Empties p) refl (Remove p) (remove_checks e p) c.remove.result (held c.remove.new.state) refl (λ w. refl) c.remove.ensures.answered c.remove.ensures.holds
