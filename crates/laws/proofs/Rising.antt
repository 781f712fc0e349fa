-- Numbers that rise, and so differ; counting gives such numbers.
use Rattle.std.proofs.Common.{◌≡◌, ℕ, zero, suc, ◌+◌, ◌<◌, ◌≤◌, List, [], ◌∷◌, ◌++◌, arith}
use Rattle.std.specs.List.{range_with_len, AllByRecursion}
use Rattle.std.proofs.ByRecursion.{All-append, All-weaker}
use Rattle.laws.specs.Words.{Differ, Rise}

pub counting_low : (a n : ℕ) → AllByRecursion (λ x. a ≤ x) (range_with_len a n)
counting_low a zero = tt
counting_low a (suc n) = (omega arith, All-weaker (λ x. a + 1 ≤ x) (λ x. a ≤ x) (λ x h. omega arith) (range_with_len (a + 1) n) (counting_low (a + 1) n))

pub counting_high : (a n : ℕ) → AllByRecursion (λ x. x < a + n) (range_with_len a n)
counting_high a zero = tt
counting_high a (suc n) =
    (omega arith, All-weaker (λ x. x < a + 1 + n) (λ x. x < a + suc n) (λ x h. omega arith) (range_with_len (a + 1) n) (counting_high (a + 1) n))

pub counting_rises : (a n : ℕ) → Rise (range_with_len a n)
counting_rises a zero = tt
counting_rises a (suc n) =
    (All-weaker (λ x. a + 1 ≤ x) (λ x. a < x) (λ x h. omega arith) (range_with_len (a + 1) n) (counting_low (a + 1) n), counting_rises (a + 1) n)

-- numbers below a bound, and then numbers from it on
pub rise_append : (xs ys : List ℕ) (bound : ℕ) → Rise xs → Rise ys → AllByRecursion (λ x. x < bound) xs → AllByRecursion (λ y. bound ≤ y) ys → Rise (xs ++ ys)
rise_append [] ys bound h k low high = k
rise_append (x ∷ xs) ys bound h k low high =
    (All-append (λ y. x < y) xs ys h.0 (All-weaker (λ y. bound ≤ y) (λ y. x < y) (λ y j. let i : x < bound = low.0 in omega arith) ys high), rise_append xs ys bound h.1 k low.1 high)

pub rise_differ : (xs : List ℕ) → Rise xs → Differ xs
rise_differ [] h = tt
rise_differ (x ∷ xs) h = (All-weaker (λ y. x < y) (λ y. x ≡ y → ⊥) (λ y k e. omega arith) xs h.0, rise_differ xs h.1)
