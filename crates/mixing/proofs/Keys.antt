-- The key of RC4 has sixteen octets, and of the key that it is made from only the first sixteen octets count.
use Rattle.std.proofs.Common.{◌≡◌, ℕ, zero, suc, ◌+◌, ◌-◌, ◌*◌, ◌/◌, ◌%◌, ◌^◌, ◌<◌, List, [], ◌∷◌, length, get_or, take, drop, sym, refl, ap, ◌∙◌, arith, length-set}
use lib.Bits.{bit_and, bit_or, bit_xor, and_le_r}
use Rattle.std.proofs.lemmas.List.{length-append, drop-take, take-take}
use Rattle.octets.specs.Octets.{Octets, AreOctets, little, part}
use Rattle.frame.specs.declared.addresses.Address.{Address}
use Rattle.mixing.specs.Mixing.{plus, word, numbered, octets_of, substituted, turned, chained, around, round_keys, rounds, phase1, six_words, first_keys, last_keys, stirred, phase2, rc4_key}
use Rattle.mixing.proofs.Laying.{length-OctetsOf}

length-chained : (f : ℕ → ℕ) (before : ℕ) (ks ws : List ℕ) → length (chained f before ks ws) ≡ length ws
length-chained f before [] ws = refl
length-chained f before (k ∷ ks) [] = refl
length-chained f before (k ∷ ks) (w ∷ ws) = ap suc (length-chained f (plus w (f (bit_xor before k))) ks ws)

length-around : (f : ℕ → ℕ) (ks ws : List ℕ) → length (around f ks ws) ≡ length ws
length-around f ks ws = length-chained f (get_or ws (length ws - 1) 0) ks ws

length-rounds : (key : Octets) (n : ℕ) (ws : List ℕ) → length (rounds key n ws) ≡ length ws
unfolding rounds
length-rounds key zero ws = refl
length-rounds key (suc i) ws =
    simp length-set (length-around substituted (round_keys key (i % 2)) (rounds key i ws) ∙ length-rounds key i ws)

pub length-phase1 : (key : Octets) (transmitter : Address) (upper : ℕ) → length (phase1 key transmitter upper) ≡ 5
unfolding phase1
length-phase1 key transmitter upper = length-rounds key 8 _

pub length-phase2 : (key : Octets) (ttak : List ℕ) (lower : ℕ) → length ttak ≡ 5 → length (phase2 key ttak lower) ≡ 16
unfolding phase2
length-phase2 key ttak lower five =
    let six = six_words ttak lower in
    let once = around substituted (first_keys key) six in
    let long : length (stirred key six) ≡ 6 =
    length-around turned (last_keys key) once ∙ length-around substituted (first_keys key) six ∙ length-append ttak (plus (get_or ttak 4 0) lower ∷ []) ∙ ap (λ n. n + 1) five in
    let all = length-OctetsOf (stirred key six) in
    omega arith

pub length-rc4_key : (key : Octets) (transmitter : Address) (counter : ℕ) → length (rc4_key key transmitter counter) ≡ 16
unfolding rc4_key
length-rc4_key key transmitter counter = length-phase2 key _ _ (length-phase1 key transmitter (counter / 2 ^ 16))

AreOctets_of : (ws : List ℕ) → AreOctets (octets_of ws)
AreOctets_of [] = tt
AreOctets_of (w ∷ ws) = (omega arith, (omega arith, AreOctets_of ws))

pub AreOctets-phase2 : (key : Octets) (ttak : List ℕ) (lower : ℕ) → AreOctets (phase2 key ttak lower)
unfolding phase2
AreOctets-phase2 key ttak lower =
    let small = and_le_r (bit_or (lower / 256 % 256) 0x20) 0x7f in
    (omega arith, (omega arith, (omega arith, (omega arith, AreOctets_of (stirred key (six_words ttak lower))))))

pub AreOctets-rc4_key : (key : Octets) (transmitter : Address) (counter : ℕ) → AreOctets (rc4_key key transmitter counter)
unfolding rc4_key
AreOctets-rc4_key key transmitter counter = AreOctets-phase2 key _ _

word_part : (key : Octets) (n : ℕ) → n < 8 → word (part 0 16 key) n ≡ word key n
word_part key n h =
    let whole : 2 * n + (16 - 2 * n) ≡ 16 = omega arith in
    let here : drop (2 * n) (take 16 key) ≡ take (16 - 2 * n) (drop (2 * n) key) =
    sym (ap (λ m. drop (2 * n) (take m key)) whole) ∙ drop-take (2 * n) (16 - 2 * n) key in
    ap (λ xs. little (take 2 xs)) here ∙ ap little (take-take 2 (16 - 2 * n) (drop (2 * n) key) (omega arith))

rounds_part : (key : Octets) (n : ℕ) (ws : List ℕ) → rounds (part 0 16 key) n ws ≡ rounds key n ws
unfolding rounds
rounds_part key zero ws = refl
rounds_part key (suc i) ws =
    let at : (k : ℕ) → k < 8 → word (part 0 16 key) k ≡ word key k = word_part key in
    let odd = i % 2 in
    let keys : round_keys (part 0 16 key) odd ≡ round_keys key odd =
    λ j. at odd (omega arith) j ∷ at (odd + 2) (omega arith) j ∷ at (odd + 4) (omega arith) j ∷ at (odd + 6) (omega arith) j ∷ at odd (omega arith) j ∷ [] in
    λ j. numbered i (around substituted (keys j) (rounds_part key i ws j))

pub phase1_part : (key : Octets) (transmitter : Address) (upper : ℕ) → phase1 (part 0 16 key) transmitter upper ≡ phase1 key transmitter upper
unfolding phase1
phase1_part key transmitter upper = rounds_part key 8 _

pub phase2_part : (key : Octets) (ttak : List ℕ) (lower : ℕ) → phase2 (part 0 16 key) ttak lower ≡ phase2 key ttak lower
unfolding phase2
phase2_part key ttak lower =
    let at : (k : ℕ) → k < 8 → word (part 0 16 key) k ≡ word key k = word_part key in
    let first : first_keys (part 0 16 key) ≡ first_keys key =
    λ j. at 0 (omega arith) j ∷ at 1 (omega arith) j ∷ at 2 (omega arith) j ∷ at 3 (omega arith) j ∷ at 4 (omega arith) j ∷ at 5 (omega arith) j ∷ [] in
    let last : last_keys (part 0 16 key) ≡ last_keys key = λ j. at 6 (omega arith) j ∷ at 7 (omega arith) j ∷ 0 ∷ 0 ∷ 0 ∷ 0 ∷ [] in
    let words : stirred (part 0 16 key) (six_words ttak lower) ≡ stirred key (six_words ttak lower) =
    λ j. around turned (last j) (around substituted (first j) (six_words ttak lower)) in
    λ j. (lower / 256 % 256) ∷ bit_and (bit_or (lower / 256 % 256) 0x20) 0x7f ∷ (lower % 256) ∷ (bit_xor (get_or (words j) 5 0) (at 0 (omega arith) j) / 2 % 256) ∷ octets_of (words j)

-- of the key only its first sixteen octets count
pub rc4_key_part : (key : Octets) (transmitter : Address) (counter : ℕ) → rc4_key (part 0 16 key) transmitter counter ≡ rc4_key key transmitter counter
unfolding rc4_key
rc4_key_part key transmitter counter =
    phase2_part key (phase1 (part 0 16 key) transmitter (counter / 2 ^ 16)) (counter % 2 ^ 16)
    ∙ ap (λ ttak. phase2 key ttak (counter % 2 ^ 16)) (phase1_part key transmitter (counter / 2 ^ 16))
