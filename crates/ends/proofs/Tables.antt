-- The tables of an end as a function of the place, and a look through them.
use Rattle.std.proofs.Common.{◌≡◌, ℕ, zero, suc, ◌<◌, ◌≤◌, Bool, true, false, cond, ltb, ◌⊎◌, List, get_or, take, replicate, Some, None, Option, sym, refl, ap, ◌∙◌, inl, inr, arith, rules, set, length}
use mathlib.Core.Path.{fun_ext}
use Rattle.std.specs.List.{position, position_or_len}
use Rattle.std.proofs.lemmas.Bool.{cases_eq, cond-true}
use Rattle.std.proofs.lemmas.List.Sums.{fails_before_first, passes_at_first}
use Rattle.std.proofs.lemmas.List.{get_or-take}
use borrow.Author.Tests.{ltb-true, ltb-false}
use Rattle.ends.specs.declared.places.Place.{Place}
use Rattle.ends.specs.declared.places.Place.TheVariants.{Pairwise, Group}
use Rattle.ends.specs.declared.places.Installation.{Installation}
use Rattle.ends.specs.declared.roles.State.{State}
use Rattle.ends.specs.Places.{exists, index_of}
use Rattle.ends.specs.Holding.{filled, table, held, put, with_place, with_places, lowest, lowest_or}

-- empty slots hold nothing, nor does what is past their end
pub none_there : (k n : ℕ) → filled (get_or (replicate k None) n None) ≡ None
none_there zero n = refl
none_there (suc k) zero = refl
none_there (suc k) (suc n) = none_there k n

pub cond_same : {A : Type 0} (b : Bool) (x : A) → cond b x x ≡ x
cond_same true x = refl
cond_same false x = refl

-- a slot stored in its place
pub stored : (slots : List (Option Installation)) (p : Place) (slot : Option Installation) → exists p ≡ true → length slots ≡ 19 → table (set slots (index_of p) slot) ≡ put (table slots) p (filled slot)
stored slots p slot there long = fun_ext (go p there)
  where
    go : (p : Place) → exists p ≡ true → (q : Place) → table (set slots (index_of p) slot) q ≡ put (table slots) p (filled slot) q
    go (Pairwise m) e (Pairwise n) = search rules
    go (Pairwise m) e (Group n) = search rules
    go (Group m) e (Pairwise n) = search rules
    go (Group m) e (Group n) = search rules

-- so an end that holds it there
pub placed : (s : State) (p : Place) (slot : Option Installation) (n : ℕ) → n ≡ index_of p → exists p ≡ true → length s.slots ≡ 19
    → held (record { role = s.role; own = s.own; slots = set s.slots n slot; sequence = s.sequence; last_failure = s.last_failure; block_end = s.block_end }) ≡ with_place (held s) p (filled slot)
placed s p slot n at there long = rw at (ap (with_places (held s)) (stored s.slots p slot there long))

-- no slot holds anything
pub all_empty : table (replicate 19 None) ≡ λ p. None
all_empty = fun_ext go
  where
    go : (p : Place) → table (replicate 19 None) p ≡ None
    go p = ap (λ o. cond (exists p) o None) (none_there 19 (index_of p)) ∙ cond_same (exists p) None

none_below : (test : ℕ → Bool) (i : ℕ) → ((k : ℕ) → k < i → test k ≡ false) → lowest i test ≡ None
none_below test zero h = refl
none_below test (suc i) h = ap (λ o. lowest_or o (test i) i) (none_below test i (λ k l. h k (omega arith))) ∙ ap (λ b. cond b (Some i) None) (h i (omega arith))

-- none below, and here: that is the lowest of all
lowest_found : (test : ℕ → Bool) (i n : ℕ) → i < n → lowest i test ≡ None → test i ≡ true → lowest n test ≡ Some i
lowest_found test i zero h e t = absurd (omega arith)
lowest_found test i (suc n) h e t = here (cases_eq i n) (λ l. lowest_found test i n l e t)
  where
    here : (i ≡ n) ⊎ (i ≡ n → ⊥) → (i < n → lowest n test ≡ Some i) → lowest_or (lowest n test) (test n) n ≡ Some i
    here (inl s) below = ap (λ k. lowest_or (lowest k test) (test k) k) (sym s) ∙ ap (λ o. lowest_or o (test i) i) e ∙ ap (λ b. cond b (Some i) None) t
    here (inr s) below = ap (λ o. lowest_or o (test n) n) (below (omega arith))

-- the first element that passes stands at the lowest number that does
module _ {X : Type 0} (p : X → Bool) (xs : List X) (d : X) (test : ℕ → Bool) (n : ℕ) (long : length xs ≡ n) (same : (k : ℕ) → k < n → p (get_or xs k d) ≡ test k) where
  abbrev first : ℕ
  first = position_or_len p xs

  found : (b : Bool) → ltb first (length xs) ≡ b → cond b (Some first) None ≡ lowest n test
  found true e =
      let inside : first < length xs = omega (arith, ltb-true) in
      sym (lowest_found test first n (omega arith) (none_below test first (λ k l. sym (same k (omega arith)) ∙ fails_before_first p xs k d l)) (sym (same first (omega arith)) ∙ passes_at_first p xs d inside))
  found false e =
      let outside : length xs ≤ first = omega (arith, ltb-false) in
      sym (none_below test n (λ k l. sym (same k l) ∙ fails_before_first p xs k d (omega arith)))

  pub position_lowest : position p xs ≡ lowest n test
  position_lowest = found (ltb first (length xs)) refl

-- a pairwise place among the slots before those of the groups
pub among_pairs : (slots : List (Option Installation)) (n : ℕ) → n < 16 → filled (get_or (take 16 slots) n None) ≡ table slots (Pairwise n)
among_pairs slots n h =
    let there : exists (Pairwise n) ≡ true = search rules in
    ap filled (get_or-take 16 slots n None h) ∙ sym (cond-true (exists (Pairwise n)) _ None there)
