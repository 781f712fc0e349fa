-- Numbers of up to eight octets, through the word of eight octets that they fit into.
use Rattle.std.proofs.Common.{◌≡◌, ℕ, zero, suc, ◌+◌, ◌-◌, ◌*◌, ◌/◌, ◌%◌, ◌^◌, ◌≤◌, [], ◌∷◌, ◌++◌, reverse, length, take, drop, replicate, sym, refl, ap, ◌∙◌, pow-suc, arith}
use Rattle.std.specs.Int.{w64, from_le_bytes, from_be_bytes, to_le_bytes, to_be_bytes}
use mathlib.Core.List.{reverse_aux}
use Rattle.std.proofs.lemmas.List.{length-reverse, reverse-append, take-append-drop, drop_at, take_all, length-drop, length-append, length-take-le}
use Rattle.std.proofs.Math.Nat.{mul_comm, mul_right_comm}
use Rattle.octets.specs.Octets.{Octets, little, big, little_octets, big_octets}
use Rattle.octets.proofs.Numbers.{length-little_octets}
use Rattle.octets.proofs.Writing.{spelled}

little-append : (xs ys : Octets) → little (xs ++ ys) ≡ little xs + 256 ^ length xs * little ys
little-append [] ys = omega arith
little-append (x ∷ xs) ys =
    let p = pow-suc 256 (length xs) in
    let rest = little-append xs ys in
    let more : 256 ^ suc (length xs) * little ys ≡ 256 * (256 ^ length xs * little ys) = rw (p, mul_right_comm) (mul_comm _ 256) in
    omega arith

-- what stands behind, or before, counts nothing where it is 0
none_more : (a p k : ℕ) → k ≡ 0 → a + p * k ≡ a
none_more a p k none = ap (λ m. a + p * m) none ∙ omega arith

little_zeros : (n k : ℕ) → little (drop n (replicate k 0)) ≡ 0
little_zeros zero zero = refl
little_zeros zero (suc k) = omega (arith, little_zeros zero k)
little_zeros (suc n) zero = refl
little_zeros (suc n) (suc k) = little_zeros n k

zeros_onto : (n k : ℕ) (xs : Octets) → little xs ≡ 0 → little (reverse_aux (take n (replicate k 0)) xs) ≡ 0
zeros_onto zero k xs none = none
zeros_onto (suc n) zero xs none = none
zeros_onto (suc n) (suc k) xs none = zeros_onto n k (0 ∷ xs) (omega arith)

-- std's words for a number of eight octets are ours
little_of_eight : (xs : Octets) → length xs ≡ 8 → from_le_bytes w64 xs ≡ little xs
little_of_eight xs long = let spelt = ap little (spelled 8 xs long) in omega arith

big_of_eight : (xs : Octets) → length xs ≡ 8 → from_be_bytes w64 xs ≡ big xs
big_of_eight xs long = let spelt = ap big (spelled 8 xs long) in omega arith

eight_little : (v : ℕ) → to_le_bytes w64 v ≡ little_octets 8 v
eight_little v = search arith

-- the lowest octets of a number are the first of more of its octets
take-little_octets : (n m v : ℕ) → n ≤ m → take n (little_octets m v) ≡ little_octets n v
take-little_octets zero m v few = refl
take-little_octets (suc n) zero v few = absurd (omega arith)
take-little_octets (suc n) (suc m) v few = ap (λ xs. (v % 256) ∷ xs) (take-little_octets n m (v / 256) (omega arith))

-- the last of a reversed list are its first, reversed
drop-reverse : (n : ℕ) (xs : Octets) → n ≤ length xs → drop (length xs - n) (reverse xs) ≡ reverse (take n xs)
drop-reverse n xs few =
    let parts = ap reverse (sym (take-append-drop n xs)) ∙ reverse-append (take n xs) (drop n xs) in
    let size = length-reverse (drop n xs) ∙ length-drop n xs in
    ap (drop (length xs - n)) parts ∙ drop_at (reverse (drop n xs)) (reverse (take n xs)) (length xs - n) size

pub little_taken : (n v : ℕ) → n ≤ 8 → take n (to_le_bytes w64 v) ≡ little_octets n v
little_taken n v few = ap (take n) (eight_little v) ∙ take-little_octets n 8 v few

pub big_dropped : (n v : ℕ) → n ≤ 8 → take (8 - (8 - n)) (drop (8 - n) (to_be_bytes w64 v)) ≡ big_octets n v
big_dropped n v few =
    let eight = eight_little v in
    let whole : drop (8 - n) (to_be_bytes w64 v) ≡ big_octets n v =
    ap (λ xs. drop (8 - n) (reverse xs)) eight ∙ drop-reverse n (little_octets 8 v) few ∙ ap reverse (take-little_octets n 8 v few) in
    ap (take (8 - (8 - n))) whole ∙ take_all (8 - (8 - n)) (big_octets n v) (omega (arith, length-reverse (little_octets n v), length-little_octets n v))

-- octets with zeros behind them, or before them
module _ (n : ℕ) (xs : Octets) (few : n ≤ 8) (long : length xs ≡ n) where
  pub little_filled : from_le_bytes w64 (xs ++ drop n (replicate 8 0)) ≡ little xs
  little_filled =
      let rest : Octets = drop n (replicate 8 0) in
      let size : length (xs ++ rest) ≡ 8 = omega (arith, length-append xs rest, length-drop {A = ℕ} n (replicate 8 0)) in
      little_of_eight (xs ++ rest) size ∙ little-append xs rest ∙ none_more (little xs) (256 ^ length xs) (little rest) (little_zeros n 8)

  pub big_filled : from_be_bytes w64 (take (8 - n) (replicate 8 0) ++ xs) ≡ big xs
  big_filled =
      let front : Octets = take (8 - n) (replicate 8 0) in
      let size : length (front ++ xs) ≡ 8 = omega (arith, length-append front xs, length-take-le {A = ℕ} (8 - n) (replicate 8 0) (omega arith)) in
      big_of_eight (front ++ xs) size ∙ ap little (reverse-append front xs) ∙ little-append (reverse xs) (reverse front)
      ∙ none_more (big xs) (256 ^ length (reverse xs)) (little (reverse front)) (zeros_onto (8 - n) 8 [] refl)
