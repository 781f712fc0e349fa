-- Many octets at once: lists of octets joined, cut into eights, and read as one number.
use Rattle.std.proofs.Common.{◌≡◌, ℕ, zero, suc, ◌+◌, ◌*◌, ◌^◌, List, [], ◌∷◌, ◌++◌, length, take, drop, sym, refl, ap, ◌∙◌, arith}
use lib.Bits.{bit_xor, xor_assoc, xor_comm, xor_zero_r}
use Rattle.std.specs.Simd.{first_chunks}
use Rattle.std.specs.List.{flat_map, fold}
use Rattle.std.proofs.lemmas.List.{append_assoc, drop-drop, take-append-drop}
use Rattle.octets.specs.Octets.{Octets, AreOctets, little}
use Rattle.crc32.specs.Crc32.{steps, taken, remainder}
use Rattle.crc32.proofs.Division.{steps_more, eight_steps, octet-below}

pub remainder-append : (c : ℕ) (xs ys : List ℕ) → remainder c (xs ++ ys) ≡ remainder (remainder c xs) ys
remainder-append c [] ys = refl
remainder-append c (x ∷ xs) ys = remainder-append (taken c x) xs ys

-- lists of octets, one after the other
pub remainder_joined : (c : ℕ) (lists : List (List ℕ)) → fold remainder c lists ≡ remainder c (flat_map (λ octets. octets) lists)
remainder_joined c [] = refl
remainder_joined c (xs ∷ lists) = remainder_joined (remainder c xs) lists ∙ sym (remainder-append c xs (flat_map (λ octets. octets) lists))

-- the first k pieces of n octets, and what is behind them
pub pieces_whole : (n k : ℕ) (xs : List ℕ) → flat_map (λ piece. piece) (first_chunks n k xs) ++ drop (k * n) xs ≡ xs
pieces_whole n zero xs = let none : zero * n ≡ 0 = omega arith in ap (λ m. drop m xs) none
pieces_whole n (suc k) xs =
    let pieces = flat_map (λ piece. piece) (first_chunks n k (drop n xs)) in
    let place : suc k * n ≡ n + k * n = omega arith in
    append_assoc (take n xs) pieces (drop (suc k * n) xs)
    ∙ ap (λ l. take n xs ++ (pieces ++ l)) (ap (λ m. drop m xs) place ∙ sym (drop-drop (k * n) n xs))
    ∙ ap (λ l. take n xs ++ l) (pieces_whole n k (drop n xs)) ∙ take-append-drop n xs

-- octets divided one by one, and as one number
remainder_number : (c : ℕ) (bs : Octets) → AreOctets bs → remainder c bs ≡ steps (8 * length bs) (bit_xor c (little bs))
unfolding steps
remainder_number c [] small = sym (xor_zero_r c)
remainder_number c (b ∷ bs) small =
    let n = little bs in
    let more : 8 + 8 * length bs ≡ 8 * length (b ∷ bs) = omega arith in
    remainder_number (taken c b) bs small.1
    ∙ ap (steps (8 * length bs)) (sym (eight_steps (bit_xor c b) n)) ∙ sym (steps_more 8 (8 * length bs) (bit_xor (bit_xor c b) (n * 2 ^ 8)))
    ∙ ap (λ m. steps m (bit_xor (bit_xor c b) (n * 2 ^ 8))) more
    ∙ ap (steps (8 * length (b ∷ bs))) (xor_assoc c b (n * 2 ^ 8) ∙ ap (bit_xor c) (octet-below b n small.0))

pub eight_octets : (c : ℕ) (bs : List ℕ) → length bs ≡ 8 → AreOctets bs → steps 64 (bit_xor (little bs) c) ≡ remainder c bs
eight_octets c bs e small =
    let count : 64 ≡ 8 * length bs = omega arith in
    ap (steps 64) (xor_comm (little bs) c) ∙ ap (λ k. steps k (bit_xor c (little bs))) count ∙ sym (remainder_number c bs small)
