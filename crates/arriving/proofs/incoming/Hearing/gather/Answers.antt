use Rattle.std.proofs.Common.{◌≡◌, ◌+◌, ◌++◌, length, take, Ok, ap, arith}
use Rattle.std.proofs.lemmas.Grind.{common_steps}
use mathlib.Core.Path.{transport}
use Rattle.suite.specs.declared.sizes.Sizes.{Sizes}
use Rattle.ends.specs.Holding.{filling}
use Rattle.ends.specs.Checks.{first, raised}
use Rattle.ends.specs.Arrivals.{prior, assembly_checks}
use Rattle.arriving.specs.Gathering.{Gives, refused_at}
use Rattle.arriving.proofs.Opened.{gathers}
use Rattle.arriving.proofs.incoming.Hearing.gather.Goals as goal

pub returns-clause-value : goal.returns-clause-value
returns-clause-value g c =
    let M = g.S.Suite.means in
    let incoming = c.args.self.now.incoming in
    let f = filling c.args.installation.now in
    let h = incoming.header.now in
    let q = incoming.place in
    let size = c.in_ok-size.size in
    let opened = c.open_piece-opened in
    let two = c.assemble.new.working in
    let r = c.assemble.result in
    let code : c.sizes-code.result.code ≡ M.sizes.code = ap (λ (z : Sizes). z.code) c.sizes-code.ensures in
    let before : c.prior.result.now ≡ prior f h = c.prior.ensures.value in
    let told : Ok size ≡ raised (refused_at q h.fragment) opened.result = grind (arith, common_steps) in
    gathers M q f h incoming.frame.now incoming.counter c.in_ok-check_turn.field-0 opened.result size c.args.working.now opened.new.working two r c.in_ok-check_turn.ensures opened.ensures.answer opened.ensures.fits opened.ensures.memory told
    (transport (λ i. Gives (first (assembly_checks q h (code i) (length (before i) + size)) (before i ++ take size opened.new.working)) r two) c.assemble.ensures.value)
