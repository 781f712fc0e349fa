use Rattle.std.proofs.Common.{◌≡◌, Bool, take, None, Option, ap, ◌∙◌, arith, rules}
use Rattle.std.proofs.lemmas.Grind.{common_steps}
use Rattle.std.proofs.lemmas.List.{length-take-le}
use Rattle.ends.specs.declared.places.Place.TheVariants.{Pairwise}
use Rattle.ends.specs.declared.places.Installation.{Installation}
use Rattle.ends.specs.Holding.{filled, holds, held}
use Rattle.ends.proofs.Tables.{position_lowest, among_pairs}
use Rattle.ends.proofs.roles.State.place_of_peer.Goals as goal

pub returns-clause-value : goal.returns-clause-value
returns-clause-value c =
    let s = c.args.self.now in
    let is_peer : Option Installation → Bool = λ slot. holds c.args.address.now (filled slot) in
    let same : c.map.result ≡ c.find.result = grind (arith, common_steps) in
    same ∙ c.find.ensures.value
    ∙ position_lowest is_peer (take 16 s.slots) None (λ n. holds c.args.address.now ((held s).at (Pairwise n))) 16 (length-take-le 16 s.slots (search rules)) (λ k h. ap (holds c.args.address.now) (among_pairs s.slots k h))
