use Rattle.std.proofs.Common.{◌≡◌, get_or, set, None, Option, sym, ap, ◌∙◌, rules}
use Rattle.std.proofs.lemmas.Bool.{cond-true}
use Rattle.ends.specs.declared.refusals.Refusal.TheVariants.{NoMatch}
use Rattle.ends.specs.Places.{exists, index_of}
use Rattle.ends.specs.Holding.{Filling, held, filled, with_places}
use Rattle.ends.specs.Calls.{Verdict}
use Rattle.ends.specs.Checks.{then, or_refuse, settled}
use Rattle.ends.specs.Arrivals.{at_place}
use Rattle.ends.proofs.Tables.{stored}
use Rattle.arriving.proofs.Finishing.{took}
use Rattle.arriving.proofs.incoming.Hearing.take_at.Goals as goal

pub returns : goal.returns
returns g c = λ time.
    let s = c.args.state.now in
    let incoming = c.args.self.now.incoming in
    let q = incoming.place in
    let step = c.take_in in
    let slot = step.new.slot in
    let at = c.index-index.result in
    let is : at ≡ index_of q = c.index-index.ensures.value in
    let verdict : Option Filling → Verdict = λ f. settled (then (or_refuse NoMatch f) (at_place g.S.Suite.means c.args.self.now.role q incoming.header.now incoming.frame.now incoming.counter time)) in
    let was : filled (get_or s.slots at None) ≡ (held s).at q = ap (λ n. filled (get_or s.slots n None)) is ∙ sym (cond-true (exists q) _ _ c.requires.exists) in
    let left : held (record s { slots = set s.slots at slot }) ≡ with_places (held s) _ = ap (λ n. held (record s { slots = set s.slots n slot })) is ∙ ap (with_places (held s)) (stored s.slots q slot c.requires.exists (search rules)) in
    took (held s) (held (record s { slots = set s.slots at slot })) q (filled (get_or s.slots at None)) (filled slot) verdict c.args.message.now step.new.message step.result was (step.ensures time) left
