-- The division taken many bits at a time.
use Rattle.std.proofs.Common.{◌≡◌, ℕ, zero, suc, ◌+◌, ◌*◌, ◌/◌, ◌%◌, ◌^◌, ◌<◌, List, [], ◌∷◌, length, sym, refl, ap, ◌∙◌, mul_assoc, pow-suc, arith}
use lib.Bits.{bit_xor, xor_assoc, xor_comm, xor_shr, xor_mod, xor_shifted, xor_zero_l, xor_zero_r, xor_self}
use Rattle.std.proofs.lemmas.Nat.{pow-add}
use Rattle.octets.specs.Octets.{little_octets}
use Rattle.octets.proofs.Numbers.{length-little_octets}
use Rattle.crc32.specs.Crc32.{step, steps, taken}

-- two pairs under the exclusive or, the parts changed over
xor_across : (a b c d : ℕ) → bit_xor (bit_xor a b) (bit_xor c d) ≡ bit_xor (bit_xor a c) (bit_xor b d)
xor_across a b c d =
    xor_assoc a b (bit_xor c d) ∙ ap (bit_xor a) (sym (xor_assoc b c d) ∙ ap (λ x. bit_xor x d) (xor_comm b c) ∙ xor_assoc c b d)
    ∙ sym (xor_assoc a c (bit_xor b d))

-- the multiple of p by a bit
bit_of : (a b p : ℕ) → a < 2 → b < 2 → bit_xor a b * p ≡ bit_xor (a * p) (b * p)
bit_of zero b p h k =
    let none : zero * p ≡ 0 = omega arith in
    ap (λ x. x * p) (xor_zero_l b) ∙ sym (ap (λ x. bit_xor x (b * p)) none ∙ xor_zero_l (b * p))
bit_of (suc a) zero p h k =
    let none : zero * p ≡ 0 = omega arith in
    ap (λ x. x * p) (xor_zero_r (suc a)) ∙ sym (ap (bit_xor (suc a * p)) none ∙ xor_zero_r (suc a * p))
bit_of (suc a) (suc b) p h k =
    let same : suc b ≡ suc a = omega arith in
    let none : 0 ≡ 0 * p = omega arith in
    ap (λ x. bit_xor (suc a) x * p) same ∙ ap (λ x. x * p) (xor_self (suc a))
    ∙ sym (ap (λ x. bit_xor (suc a * p) (x * p)) same ∙ xor_self (suc a * p) ∙ none)

step-xor : (x y : ℕ) → step (bit_xor x y) ≡ bit_xor (step x) (step y)
step-xor x y =
    let p : ℕ = 0xEDB88320 in
    let half : bit_xor x y / 2 ≡ bit_xor (x / 2) (y / 2) = xor_shr x y 1 in
    let odd : bit_xor x y % 2 ≡ bit_xor (x % 2) (y % 2) = xor_mod x y 1 in
    ap (λ h. bit_xor h (bit_xor x y % 2 * p)) half ∙ ap (λ o. bit_xor (bit_xor (x / 2) (y / 2)) (o * p)) odd
    ∙ ap (bit_xor (bit_xor (x / 2) (y / 2))) (bit_of (x % 2) (y % 2) p (omega arith) (omega arith))
    ∙ xor_across (x / 2) (y / 2) (x % 2 * p) (y % 2 * p)

-- the division is linear
steps-xor : (n x y : ℕ) → steps n (bit_xor x y) ≡ bit_xor (steps n x) (steps n y)
unfolding steps
steps-xor zero x y = refl
steps-xor (suc n) x y = ap (steps n) (step-xor x y) ∙ steps-xor n (step x) (step y)

-- n steps after m steps
pub steps_more : (m n x : ℕ) → steps (m + n) x ≡ steps n (steps m x)
unfolding steps
steps_more zero n x = let none : zero + n ≡ n = omega arith in ap (λ k. steps k x) none
steps_more (suc m) n x = let next : suc m + n ≡ suc (m + n) = omega arith in ap (λ k. steps k x) next ∙ steps_more m n (step x)

-- n steps shift a number of which the lowest n bits are 0
steps_shifted : (n y : ℕ) → steps n (y * 2 ^ n) ≡ y
unfolding steps
steps_shifted zero y = omega arith
steps_shifted (suc n) y =
    let x = y * 2 ^ n in
    let shift : y * 2 ^ suc n ≡ x * 2 = ap (λ m. y * m) (pow-suc 2 n) ∙ sym (mul_assoc y (2 ^ n) 2) in
    let half : x * 2 / 2 ≡ x = omega arith in
    let even : x * 2 % 2 * 0xEDB88320 ≡ 0 = omega arith in
    let one : step (x * 2) ≡ x = ap (λ h. bit_xor h (x * 2 % 2 * 0xEDB88320)) half ∙ ap (bit_xor x) even ∙ xor_zero_r x in
    ap (λ m. steps n (step m)) shift ∙ ap (steps n) one ∙ steps_shifted n y

-- eight steps of x, with y above its lowest octet
pub eight_steps : (x y : ℕ) → steps 8 (bit_xor x (y * 2 ^ 8)) ≡ bit_xor (steps 8 x) y
eight_steps x y = steps-xor 8 x (y * 2 ^ 8) ∙ ap (bit_xor (steps 8 x)) (steps_shifted 8 y)

-- an octet, and a number above it
pub octet-below : (b y : ℕ) → b < 256 → bit_xor b (y * 2 ^ 8) ≡ b + 256 * y
octet-below b y h = let sum : y * 2 ^ 8 + b ≡ b + 256 * y = omega arith in xor_comm b (y * 2 ^ 8) ∙ xor_shifted y 8 b h ∙ sum

octet_and_above : (x : ℕ) → x ≡ bit_xor (x % 256) (x / 256 * 2 ^ 8)
octet_and_above x =
    let sum : x % 256 + 256 * (x / 256) ≡ x = omega arith in
    sym (octet-below (x % 256) (x / 256) (omega arith) ∙ sum)

-- one octet by the first table
pub one-octet : (c b : ℕ) → b < 256 → bit_xor (steps 8 (bit_xor c b % 256)) (c / 256) ≡ taken c b
one-octet c b h =
    let x = bit_xor c b in
    let none : b / 256 ≡ 0 = omega arith in
    let above : x / 256 ≡ c / 256 = xor_shr c b 8 ∙ ap (bit_xor (c / 256)) none ∙ xor_zero_r (c / 256) in
    ap (bit_xor (steps 8 (x % 256))) (sym above) ∙ sym (eight_steps (x % 256) (x / 256)) ∙ ap (steps 8) (sym (octet_and_above x))

-- a number's lowest octet divided apart from what is above it
apart : (n x : ℕ) → bit_xor (steps (8 + n) (x % 256)) (steps n (x / 256)) ≡ steps (8 + n) x
apart n x =
    ap (λ s. bit_xor s (steps n (x / 256))) (steps_more 8 n (x % 256)) ∙ sym (steps-xor n (steps 8 (x % 256)) (x / 256))
    ∙ ap (steps n) (sym (eight_steps (x % 256) (x / 256)) ∙ ap (steps 8) (sym (octet_and_above x))) ∙ sym (steps_more 8 n x)

-- octets divided apart, each by the table of the octets behind it; a is what those before gave
abbrev pub tabled : ℕ → List ℕ → ℕ
tabled a [] = a
tabled a (o ∷ os) = tabled (bit_xor a (steps (8 * suc (length os)) o)) os

-- what is above the lowest octet of a number of n + 1 octets
above-octet : (n x : ℕ) → x < 2 ^ (8 * suc n) → x / 256 < 2 ^ (8 * n)
above-octet n x h =
    let more : 8 * suc n ≡ 8 * n + 8 = omega arith in
    let wide : 2 ^ (8 * suc n) ≡ 2 ^ (8 * n) * 256 = ap (λ k. 2 ^ k) more ∙ pow-add 2 (8 * n) 8 in
    omega arith

-- a number of n octets divided octet by octet
tabled_is : (n a x : ℕ) → x < 2 ^ (8 * n) → tabled a (little_octets n x) ≡ bit_xor a (steps (8 * n) x)
unfolding steps
tabled_is zero a x h = let none : 0 ≡ x = omega arith in sym (xor_zero_r a) ∙ ap (bit_xor a) none
tabled_is (suc n) a x h =
    let o = x % 256 in
    let y = x / 256 in
    let more : 8 * suc n ≡ 8 + 8 * n = omega arith in
    ap (λ k. tabled (bit_xor a (steps (8 * suc k) o)) (little_octets n y)) (length-little_octets n y)
    ∙ tabled_is n (bit_xor a (steps (8 * suc n) o)) y (above-octet n x h) ∙ xor_assoc a (steps (8 * suc n) o) (steps (8 * n) y)
    ∙ ap (bit_xor a) (ap (λ k. bit_xor (steps k o) (steps (8 * n) y)) more ∙ apart (8 * n) x ∙ ap (λ k. steps k x) (sym more))

-- a word divided octet by octet
pub word_apart : (w : ℕ) → w < 2 ^ 64 → tabled (steps 64 (w % 256)) (little_octets 7 (w / 256)) ≡ steps 64 w
word_apart w h = tabled_is 7 (steps 64 (w % 256)) (w / 256) (omega arith) ∙ apart 56 w
