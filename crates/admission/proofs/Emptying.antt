-- The slots of an end once those of the suites with a code are emptied.
use Rattle.std.proofs.Common.{◌≡◌, ℕ, ◌+◌, ◌-◌, ◌<◌, ◌≤◌, Bool, true, false, cond, List, ◌++◌, length, get_or, take, drop, replicate, None, Option, sym, refl, ap, ◌∙◌, arith, rules}
use mathlib.Core.Path.{fun_ext}
use Rattle.std.proofs.lemmas.List.{take-append-drop, get_or_append_left, get_or-append_right}
use Rattle.std.proofs.lemmas.Bool.Decides.{nat_tests}
use Rattle.ends.specs.declared.places.Place.{Place}
use Rattle.ends.specs.declared.places.Place.TheVariants.{Pairwise, Group}
use Rattle.ends.specs.declared.places.Installation.{Installation}
use Rattle.ends.specs.declared.roles.CodedSuites.{CodedSuites}
use Rattle.ends.specs.Places.{exists}
use Rattle.ends.specs.Holding.{Filling, filled, table}
use Rattle.ends.specs.Steps.{emptied}
use Rattle.ends.proofs.Tables.{none_there, cond_same}

-- what the slots hold, read apart: those of the pairwise places and those of the groups
abbrev pub tables : List (Option Installation) → List (Option Installation) → Place → Option Filling
tables pairwise group (Pairwise n) = cond (exists (Pairwise n)) (filled (get_or pairwise n None)) None
tables pairwise group (Group n) = cond (exists (Group n)) (filled (get_or group (n - 1) None)) None

module _ (pairwise group : List (Option Installation)) (long : length pairwise ≡ 16) where
  behind : (n : ℕ) → 0 < n → get_or (pairwise ++ group) (n + 15) None ≡ get_or group (n - 1) None
  behind n h =
      let far : 16 ≤ n + 15 = omega arith in
      let at : n + 15 - 16 ≡ n - 1 = omega arith in
      get_or-append_right pairwise group 16 (n + 15) None long far ∙ ap (λ k. get_or group k None) at

  pub apart : table (pairwise ++ group) ≡ tables pairwise group
  apart = fun_ext go
    where
      go : (q : Place) → table (pairwise ++ group) q ≡ tables pairwise group q
      go (Pairwise n) = grind (arith, nat_tests, get_or_append_left pairwise group None n)
      go (Group n) = grind (arith, nat_tests, behind n)

abbrev pub emptied_if : Bool → ℕ → List (Option Installation) → List (Option Installation)
emptied_if b n slots = cond b (replicate n None) slots

one_emptied : (b there : Bool) (k n : ℕ) (slots : List (Option Installation)) → cond there (filled (get_or (emptied_if b k slots) n None)) None ≡ cond b None (cond there (filled (get_or slots n None)) None)
one_emptied true there k n slots = ap (λ o. cond there o None) (none_there k n) ∙ cond_same there None
one_emptied false there k n slots = refl

-- the slots of each half are emptied, or left
pub emptied_halves : (c : CodedSuites) (slots pairwise group : List (Option Installation)) → length slots ≡ 19 → pairwise ≡ emptied_if c.pairwise 16 (take 16 slots) → group ≡ emptied_if c.group 3 (drop 16 slots) → length pairwise ≡ 16 → table (pairwise ++ group) ≡ emptied c (table slots)
emptied_halves c slots pairwise group long e d few =
    apart pairwise group few
    ∙ (λ i. tables (e i) (d i))
    ∙ fun_ext go
    ∙ ap (emptied c) (sym (apart (take 16 slots) (drop 16 slots) (search rules)) ∙ ap table (take-append-drop 16 slots))
  where
    go : (q : Place) → tables (emptied_if c.pairwise 16 (take 16 slots)) (emptied_if c.group 3 (drop 16 slots)) q ≡ emptied c (tables (take 16 slots) (drop 16 slots)) q
    go (Pairwise n) = one_emptied c.pairwise (exists (Pairwise n)) 16 n (take 16 slots)
    go (Group n) = one_emptied c.group (exists (Group n)) 3 (n - 1) (drop 16 slots)
