-- How a proof goes through a decision: what holds where no check refused, and what to show so that none does.
use Rattle.std.proofs.Common.{◌≡◌, ℕ, true, false, List, [], ◌∷◌, Some, None, Ok, Err, Option, Result, sym, refl, ap, ◌∙◌, arith}
use Rattle.std.proofs.lemmas.Bool.{cond_both, cond-false, eqb-true, eq-eqb, true≢false}
use Rattle.ends.specs.declared.places.Place.{Place}
use Rattle.ends.specs.declared.places.Place.TheVariants.{Pairwise, Group}
use Rattle.ends.specs.declared.refusals.Refusal.{Refusal}
use Rattle.ends.specs.Places.{same_place}
use Rattle.ends.specs.Checks.{Check, first, then, or_refuse}

-- no check applies
abbrev pub Passed : List Check → Type 0
Passed [] = Unit {0}
Passed (c ∷ cs) = (c.0 ≡ false) × Passed cs

pub first_walk : {A : Type 0} (P : Result A Refusal → Type 0) → ((r : Refusal) → P (Err r)) → (cs : List Check) (x : A) → (Passed cs → P (Ok x)) → P (first cs x)
first_walk P refused [] x passed = passed tt
first_walk P refused (c ∷ cs) x passed =
    cond_both c.0 (Err c.1) (first cs x) P (λ _. refused c.1) (λ h. first_walk P refused cs x (λ k. passed (h, k)))

pub then_walk : {A B : Type 0} (P : Result B Refusal → Type 0) → ((r : Refusal) → P (Err r)) → (o : Result A Refusal) (next : A → Result B Refusal) → ((x : A) → o ≡ Ok x → P (next x)) → P (then o next)
then_walk P refused (Ok x) next granted = granted x refl
then_walk P refused (Err r) next granted = refused r

-- checks, and what follows them
pub first_then_walk : {A : Type 0} (P : Result A Refusal → Type 0) → ((r : Refusal) → P (Err r)) → (cs : List Check) (next : Unit {0} → Result A Refusal) → (Passed cs → P (next tt)) → P (then (first cs (tt {0})) next)
first_then_walk P refused cs next passed = first_walk (λ o. P (then o next)) refused cs tt passed

pub first_passes : {A : Type 0} (cs : List Check) (x : A) → Passed cs → first cs x ≡ Ok x
first_passes [] x h = refl
first_passes (c ∷ cs) x h = cond-false c.0 (Err c.1) (first cs x) h.0 ∙ first_passes cs x h.1

pub filled : {A : Type 0} (r : Refusal) (o : Option A) (x : A) → or_refuse r o ≡ Ok x → o ≡ Some x
filled r None x h = absurd (let z : ◌≡◌ {A = ℕ} 0 1 = cc in omega arith)
filled r (Some y) x h = cc

-- places by name

pub place_true : (p q : Place) → same_place p q ≡ true → p ≡ q
place_true (Pairwise m) (Pairwise n) h = ap Pairwise (eqb-true m n h)
place_true (Pairwise m) (Group n) h = absurd (true≢false (sym h))
place_true (Group m) (Pairwise n) h = absurd (true≢false (sym h))
place_true (Group m) (Group n) h = ap Group (eqb-true m n h)

pub place_refl : (p : Place) → same_place p p ≡ true
place_refl (Pairwise n) = eq-eqb n n refl
place_refl (Group n) = eq-eqb n n refl
