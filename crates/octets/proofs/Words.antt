-- The exclusive or of octets, one by one and as one number.
use Rattle.std.proofs.Common.{◌≡◌, ℕ, zero, suc, ◌+◌, ◌*◌, ◌^◌, ◌<◌, ◌≤◌, [], ◌∷◌, ◌++◌, length, take, drop, replicate, sym, refl, ap, ◌∙◌, arith}
use lib.Bits.{bit_xor, xor_assoc, xor_self, xor_zero_r, xor_block, xor_lt}
use Rattle.octets.specs.Octets.{Octets, AreOctets, little, little_octets, xored}
use Rattle.octets.proofs.Numbers.{length-little_octets, AreOctets-little, little_from_octets, octets_from_little}

pub take-xored : (n : ℕ) (xs ys : Octets) → take n (xored xs ys) ≡ xored (take n xs) (take n ys)
take-xored zero xs ys = refl
take-xored (suc n) [] ys = refl
take-xored (suc n) (x ∷ xs) [] = refl
take-xored (suc n) (x ∷ xs) (y ∷ ys) = ap (λ l. bit_xor x y ∷ l) (take-xored n xs ys)

xored_nil : (xs : Octets) → xored xs [] ≡ []
xored_nil [] = refl
xored_nil (x ∷ xs) = refl

pub drop-xored : (n : ℕ) (xs ys : Octets) → drop n (xored xs ys) ≡ xored (drop n xs) (drop n ys)
drop-xored zero xs ys = refl
drop-xored (suc n) [] ys = refl
drop-xored (suc n) (x ∷ xs) [] = sym (xored_nil (drop n xs))
drop-xored (suc n) (x ∷ xs) (y ∷ ys) = drop-xored n xs ys

pub length-xored : (xs ys : Octets) → length xs ≤ length ys → length (xored xs ys) ≡ length xs
length-xored [] ys room = refl
length-xored (x ∷ xs) [] room = absurd (omega arith)
length-xored (x ∷ xs) (y ∷ ys) room = ap suc (length-xored xs ys (omega arith))

-- what is added twice is taken away
pub xored_twice : (xs ys : Octets) → length xs ≤ length ys → xored (xored xs ys) ys ≡ xs
xored_twice [] ys room = refl
xored_twice (x ∷ xs) [] room = absurd (omega arith)
xored_twice (x ∷ xs) (y ∷ ys) room =
    let here : bit_xor (bit_xor x y) y ≡ x = xor_assoc x y y ∙ ap (bit_xor x) (xor_self y) ∙ xor_zero_r x in
    λ i. here i ∷ xored_twice xs ys (omega arith) i

pub xored-append : (a b c d : Octets) → length a ≡ length c → xored (a ++ b) (c ++ d) ≡ xored a c ++ xored b d
xored-append [] b [] d e = refl
xored-append [] b (y ∷ c) d e = absurd (omega arith)
xored-append (x ∷ a) b [] d e = absurd (omega arith)
xored-append (x ∷ a) b (y ∷ c) d e = ap (λ l. bit_xor x y ∷ l) (xored-append a b c d (omega arith))

pub xored_zeros : (xs : Octets) → xored xs (replicate (length xs) 0) ≡ xs
xored_zeros [] = refl
xored_zeros (x ∷ xs) = λ i. xor_zero_r x i ∷ xored_zeros xs i

pub zeros_xored : (xs : Octets) → xored (replicate (length xs) 0) xs ≡ xs
zeros_xored [] = refl
zeros_xored (x ∷ xs) = ap (λ l. x ∷ l) (zeros_xored xs)

pub AreOctets-xored : (xs ys : Octets) → AreOctets xs → AreOctets ys → AreOctets (xored xs ys)
AreOctets-xored [] ys p q = tt
AreOctets-xored (x ∷ xs) [] p q = tt
AreOctets-xored (x ∷ xs) (y ∷ ys) p q = (xor_lt 8 x y p.0 q.0, AreOctets-xored xs ys p.1 q.1)

little-xored : (xs ys : Octets) → length xs ≡ length ys → AreOctets xs → AreOctets ys → bit_xor (little xs) (little ys) ≡ little (xored xs ys)
little-xored [] [] e first second = refl
little-xored [] (y ∷ ys) e first second = absurd (omega arith)
little-xored (x ∷ xs) [] e first second = absurd (omega arith)
little-xored (x ∷ xs) (y ∷ ys) e first second =
    let m = little xs in
    let n = little ys in
    let at_x : x + 256 * m ≡ m * 2 ^ 8 + x = omega arith in
    let at_y : y + 256 * n ≡ n * 2 ^ 8 + y = omega arith in
    let back : bit_xor m n * 2 ^ 8 + bit_xor x y ≡ bit_xor x y + 256 * bit_xor m n = omega arith in
    ap (λ a. bit_xor a (y + 256 * n)) at_x ∙ ap (bit_xor (m * 2 ^ 8 + x)) at_y ∙ xor_block 8 m n x y first.0 second.0 ∙ back
    ∙ ap (λ k. bit_xor x y + 256 * k) (little-xored xs ys (omega arith) first.1 second.1)

-- the exclusive or of words is that of their octets
pub word-xored : (n : ℕ) (xs : Octets) (w : ℕ) → length xs ≡ n → AreOctets xs → w < 256 ^ n → little_octets n (bit_xor (little xs) w) ≡ xored xs (little_octets n w)
word-xored n xs w long octets small =
    let ys = little_octets n w in
    let same : length xs ≡ length ys = long ∙ sym (length-little_octets n w) in
    let others = AreOctets-little n w in
    let size : n ≡ length (xored xs ys) = sym (length-xored xs ys (omega arith) ∙ long) in
    ap (λ v. little_octets n (bit_xor (little xs) v)) (sym (little_from_octets n w small)) ∙ ap (little_octets n) (little-xored xs ys same octets others)
    ∙ ap (λ m. little_octets m (little (xored xs ys))) size
    ∙ octets_from_little (xored xs ys) (AreOctets-xored xs ys octets others)
