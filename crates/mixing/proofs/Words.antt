-- A list that calls of one closure made, which keeps what it captures.
use Rattle.std.proofs.Common.{◌≡◌, ℕ, zero, suc, ◌+◌, ◌<◌, ◌≤◌, List, get_or, inl, inr, sym, ap, ◌∙◌, subst, arith}
use Rattle.std.specs.Array.{IsFromFnResultFrom}
use Rattle.std.specs.Fn.{Mut, Called}
use Rattle.std.proofs.lemmas.Bool.{cases_lt}

pub filled : {F : Type 0} (g : Mut F (ℕ × Unit {0}) ℕ) (f : F) (h : ℕ → ℕ) → ((i y : ℕ) (q : F) → Called g f (i, tt) y q → (q ≡ f) × (y ≡ h i)) → (ys : List ℕ) (i n : ℕ) → IsFromFnResultFrom g f ys i n → (j : ℕ) → i ≤ j → j < i + n → get_or ys j 0 ≡ h j
filled g f h acts ys i zero made j from below = absurd (omega arith)
filled g f h acts ys i (suc n) made j from below =
    let called = acts i made.1 made.0 made.3 in
    elim (cases_lt i j) [
      | inl later ↦ filled g f h acts ys (i + 1) n (subst (λ p. IsFromFnResultFrom g p ys (i + 1) n) called.0 made.4) j (omega arith) (omega arith)
      | inr here ↦ let same : j ≡ i = omega arith in ap (λ k. get_or ys k 0) same ∙ made.2.1 0 ∙ called.1 ∙ ap h (sym same)
    ]
