-- The octets of words of 128 bits.
use Rattle.std.proofs.Common.{◌≡◌, ℕ, suc, ◌+◌, ◌*◌, ◌/◌, ◌%◌, ◌^◌, ◌<◌, [], ◌∷◌, ◌++◌, length, drop, replicate, sym, refl, ap, ◌∙◌, arith, append-nil, length-append}
use lib.Bits.{bit_xor}
use Rattle.std.proofs.lemmas.Nat.{shl-shr}
use Rattle.octets.specs.Octets.{Octets, big_octets, written, xored}
use Rattle.octets.proofs.Writing.{written_on}
use Rattle.aes.specs.Words.{quad, octets}
use Rattle.aes.proofs.Quads.{octets-xor}
use Rattle.ccm.specs.Ccm.{numbered, counter_block}
use Rattle.octets.proofs.Words.{xored-append, xored_zeros, zeros_xored}

pub length-octets : (x : ℕ) → length (octets x) ≡ 16
unfolding octets
length-octets x = refl

moved : (v w k : ℕ) → v ≡ w * 2 ^ k → v / 2 ^ k % 2 ^ 32 ≡ w % 2 ^ 32
moved v w k e = ap (λ u. u / 2 ^ k % 2 ^ 32) e ∙ ap (λ u. u % 2 ^ 32) (shl-shr w k)

-- a number of two octets, of which y is the other order, at the end of a block
last_two : (i y : ℕ) → i < 65536 → y ≡ i % 256 * 256 + i / 256 % 256 → octets ((y * 2 ^ 112) % 2 ^ 128) ≡ replicate 14 0 ++ big_octets 2 i
unfolding octets
last_two i y small e =
    let v = (y * 2 ^ 112) % 2 ^ 128 in
    let whole : v ≡ y * 2 ^ 112 = omega arith in
    let a : v % 2 ^ 32 ≡ 0 = omega arith in
    let b : v / 2 ^ 32 % 2 ^ 32 ≡ 0 = moved v (y * 2 ^ 80) 32 (whole ∙ omega arith) ∙ omega arith in
    let c : v / 2 ^ 64 % 2 ^ 32 ≡ 0 = moved v (y * 2 ^ 48) 64 (whole ∙ omega arith) ∙ omega arith in
    let d : v / 2 ^ 96 % 2 ^ 32 ≡ y * 65536 = moved v (y * 65536) 96 (whole ∙ omega arith) ∙ omega arith in
    let q : y * 65536 / 256 ≡ y * 256 = omega arith in
    let r : y * 65536 / 65536 ≡ y = omega arith in
    let s : y * 65536 / 16777216 ≡ i % 256 = omega arith in
    let low : y * 65536 % 256 ≡ 0 = omega arith in
    let next : y * 65536 / 256 % 256 ≡ 0 = ap (λ w. w % 256) q ∙ omega arith in
    let high : y * 65536 / 65536 % 256 ≡ i / 256 % 256 = ap (λ w. w % 256) r ∙ omega arith in
    let last : y * 65536 / 16777216 % 256 ≡ i % 256 = ap (λ w. w % 256) s ∙ omega arith in
    (λ j. quad (a j) ++ quad (b j) ++ quad (c j) ++ quad (d j)) ∙ (λ j. replicate 12 0 ++ (low j ∷ next j ∷ high j ∷ last j ∷ []))

-- the nonce of a counter block that a word holds has 13 octets
nonce_length : (nonce : Octets) (base i : ℕ) → octets base ≡ counter_block nonce i → length nonce ≡ 13
nonce_length nonce base i e =
    omega (arith, ap length e, length-octets base, length-append nonce (big_octets 2 i))

-- the number of a counter block, added to block 0
pub counted : (nonce : Octets) (base i y : ℕ) → octets base ≡ counter_block nonce 0 → i < 65536 → y ≡ i % 256 * 256 + i / 256 % 256 → octets (bit_xor base ((y * 2 ^ 112) % 2 ^ 128)) ≡ counter_block nonce i
counted nonce base i y zero small e =
    let long = nonce_length nonce base 0 zero in
    let front = ap (λ n. xored (1 ∷ nonce) (0 ∷ replicate n 0)) (sym long) ∙ xored_zeros (1 ∷ nonce) in
    octets-xor base ((y * 2 ^ 112) % 2 ^ 128)
    ∙ (λ j. xored (zero j) (last_two i y small e j))
    ∙ xored-append (1 ∷ nonce) (0 ∷ 0 ∷ []) (replicate 14 0) (big_octets 2 i) (ap suc long)
    ∙ ap (λ l. l ++ big_octets 2 i) front

-- the nonce and the number, written after the flags
pub numbered_written : (flags : ℕ) (nonce : Octets) (n : ℕ) → length nonce ≡ 13 → written 14 (big_octets 2 n) (written 1 nonce (replicate 16 flags)) ≡ numbered flags nonce n
numbered_written flags nonce n long =
    let at : 14 ≡ 1 + length nonce = omega arith in
    let both = length-append nonce (big_octets 2 n) in
    let all : 1 + length (nonce ++ big_octets 2 n) ≡ 16 = omega arith in
    ap (λ k. written k (big_octets 2 n) (written 1 nonce (replicate 16 flags))) at
    ∙ written_on 1 nonce (big_octets 2 n) (replicate 16 flags) (omega arith)
    ∙ ap (λ k. flags ∷ ((nonce ++ big_octets 2 n) ++ drop k (replicate 16 flags))) all
    ∙ ap (λ l. flags ∷ l) (append-nil (nonce ++ big_octets 2 n))

pub zeros_added : (x : ℕ) → xored (replicate 16 0) (octets x) ≡ octets x
unfolding octets
zeros_added x = zeros_xored (octets x)
