use Rattle.std.proofs.Common.{refl, ap, ◌∙◌}
use Rattle.suite.specs.declared.sizes.Sizes.{Sizes}
use Rattle.ends.specs.Places.{suites, suite_at}
use Rattle.ends.specs.Holding.{held}
use Rattle.ends.specs.Calls.{installing}
use Rattle.ends.specs.Calls.Call.{Install}
use Rattle.ends.specs.Calls.Verdict.{Fills}
use Rattle.ends.specs.Checks.{first}
use Rattle.ends.specs.Installs.{install_checks, installed, judge_install}
use Rattle.ends.proofs.Granting.{granted-step}
use Rattle.link.proofs.link_ends.LinkEnd.install.Goals as goal

pub returns-clause-step : goal.returns-clause-step
unfolding judge_install
returns-clause-step g c =
    let S = suites g.P.Suite.means g.G.Suite.means in
    let e = held c.args.self.now.state in
    let i = installing c.args.place c.args.key.now c.args.address.now c.args.start c.args.time in
    let checks = install_checks (suite_at S c.args.place).sizes e i in
    granted-step S e (Fills c.args.place (installed i)) refl (Install i) checks c.install.result (held c.install.new.state) refl (λ w. refl) (c.install.ensures.answered ∙ ap (λ (z : Sizes). first (install_checks z e i) tt) c.sizes_at-sizes.ensures.value) c.install.ensures.holds
