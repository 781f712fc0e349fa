-- Two lists compared octet by octet, to the end.
use Rattle.std.proofs.Common.{◌≡◌, ℕ, Bool, true, false, eqb, [], ◌∷◌, length, Decides, sym, refl, ap, ◌∙◌, arith}
use lib.Bits.{bit_or, bit_xor, or_add_and, xor_add_and, and_le_l, and_le_r, xor_self, or_zero_l}
use Rattle.std.specs.List.{fold, zip}
use Rattle.std.specs.Str.{bytes_eq}
use Rattle.std.proofs.lemmas.Slice.Eq.{bytes_eq-Decides}
use Rattle.std.proofs.lemmas.Bool.{eqb-true, eq-eqb}
use Rattle.octets.specs.Octets.{Octets}

or_zero : (x y : ℕ) → bit_or x y ≡ 0 → (x ≡ 0) × (y ≡ 0)
or_zero x y e = let a = or_add_and x y in let l = and_le_l x y in let r = and_le_r x y in (omega arith, omega arith)

xor_zero : (x y : ℕ) → bit_xor x y ≡ 0 → x ≡ y
xor_zero x y e = let a = xor_add_and x y in let l = and_le_l x y in let r = and_le_r x y in omega arith

-- what differs so far, and where two octets do
abbrev pub differing : ℕ → ℕ × ℕ → ℕ
differing d p = bit_or d (bit_xor p.0 p.1)

-- once something differs it stays so
still : (d : ℕ) (a b : Octets) → fold differing d (zip a b) ≡ 0 → d ≡ 0
still d [] b e = e
still d (x ∷ a) [] e = e
still d (x ∷ a) (y ∷ b) e = (or_zero d (bit_xor x y) (still (differing d (x, y)) a b e)).0

alike : (d : ℕ) (a b : Octets) → length a ≡ length b → fold differing d (zip a b) ≡ 0 → a ≡ b
alike d [] [] same e = refl
alike d [] (y ∷ b) same e = absurd (omega arith)
alike d (x ∷ a) [] same e = absurd (omega arith)
alike d (x ∷ a) (y ∷ b) same e =
    let here = xor_zero x y (or_zero d (bit_xor x y) (still (differing d (x, y)) a b e)).1 in
    let rest = alike (differing d (x, y)) a b (omega arith) e in
    λ i. here i ∷ rest i

of_one : (a : Octets) → fold differing 0 (zip a a) ≡ 0
of_one [] = refl
of_one (x ∷ a) = ap (λ d. fold differing d (zip a a)) (ap (bit_or 0) (xor_self x) ∙ or_zero_l 0) ∙ of_one a

both_decide : (r s : Bool) (P : Type 0) → Decides r P → Decides s P → r ≡ s
both_decide true s P h g = sym (g.1 (h.0 refl))
both_decide false true P h g = h.1 (g.0 refl)
both_decide false false P h g = refl

-- nothing differs exactly where the lists are the same
pub compare_all : (a b : Octets) (d : ℕ) → length a ≡ length b → d ≡ fold differing 0 (zip a b) → eqb d 0 ≡ bytes_eq a b
compare_all a b d same is =
    let whole : Decides (eqb d 0) (a ≡ b) = (
      λ e. alike 0 a b same (sym is ∙ eqb-true d 0 e),
      λ e. eq-eqb d 0 (is ∙ ap (λ c. fold differing 0 (zip a c)) (sym e) ∙ of_one a),
    ) in
    both_decide _ _ (a ≡ b) whole (bytes_eq-Decides a b)

-- lists of other lengths are not the same
pub unlike_lengths : (a b : Octets) → (length a ≡ length b → ⊥) → false ≡ bytes_eq a b
unlike_lengths a b apart =
    both_decide false (bytes_eq a b) (a ≡ b) (λ e. absurd (let z : ◌≡◌ {A = ℕ} 0 1 = cc in omega arith), λ e. absurd (apart (ap length e))) (bytes_eq-Decides a b)
