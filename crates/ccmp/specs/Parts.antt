-- The octets that CCMP takes from a header, and those of a head.
use Rattle.std.specs.Prelude.{◌≡◌, ℕ, ◌+◌, ◌*◌, ◌/◌, ◌%◌, ◌^◌, ◌<◌, ◌≤◌, [], ◌∷◌, ◌++◌, length, replicate, bit_and, slice_index, slice_set, refl}
use Rattle.std.proofs.Common.{sym, subst, arith}
use Rattle.std.proofs.Math.Path.{transport}
use Rattle.std.proofs.lemmas.Nat.{and_le_r, or_lt}
use Rattle.octets.specs.Octets.{Octets, AreOctets, little, little_octets, big_octets, part, written}
use Rattle.octets.proofs.Numbers.{AreOctets-append, AreOctets_part, AreOctets-little, AreOctets-big, little-below, little_from_octets}
use Rattle.octets.proofs.Writing.{spelled, length_part}
use Rattle.ccmp.specs.Ccmp.{ccmp_nonce, ccmp_additional, head_octets, counter_in}

-- the additional data written part by part
pub laid_out : (a b last : ℕ) (middle : Octets) → length middle ≡ 18 → slice_set (written 2 middle (a ∷ b ∷ replicate 20 0)) 20 last ≡ a ∷ b ∷ (middle ++ (last ∷ 0 ∷ []))
laid_out a b last middle long =
    let e = spelled 18 middle long in
    transport (λ i. slice_set (written 2 (sym e i) (a ∷ b ∷ replicate 20 0)) 20 last ≡ a ∷ b ∷ (sym e i ++ (last ∷ 0 ∷ []))) refl

pub octets_nonce : (header : Octets) (counter : ℕ) → AreOctets header → AreOctets (ccmp_nonce header counter)
octets_nonce header counter all =
    (omega arith, AreOctets-append (part 10 6 header) (big_octets 6 counter) (AreOctets_part 10 6 header all) (AreOctets-big 6 counter))

pub octets_additional : (header : Octets) → AreOctets header → AreOctets (ccmp_additional header)
octets_additional header all =
    let a = and_le_r (slice_index header 0) 0x8f in
    let b = and_le_r (slice_index header 1) 0xc7 in
    let c = and_le_r (slice_index header 22) 0x0f in
    let b-small = or_lt 8 (bit_and (slice_index header 1) 0xc7) 0x40 (omega arith) (omega arith) in
    (omega arith, (b-small, AreOctets-append (part 4 18 header) (bit_and (slice_index header 22) 0x0f ∷ 0 ∷ []) (AreOctets_part 4 18 header all) (omega arith, (omega arith, tt))))

pub octets_head : (id counter : ℕ) → id ≤ 3 → AreOctets (head_octets id counter)
octets_head id counter small =
    AreOctets-append (little_octets 2 counter) (0 ∷ (id * 64 + 32) ∷ little_octets 4 (counter / 65536)) (AreOctets-little 2 counter) (omega arith, (omega arith, AreOctets-little 4 (counter / 65536)))

-- a counter is read back from the octets of a head, whatever follows
pub counter_back : (id counter : ℕ) (rest : Octets) → counter ≤ 281474976710655 → counter_in (head_octets id counter ++ rest) ≡ counter
counter_back id counter rest top =
    let low : little (little_octets 2 counter) ≡ counter % 65536 = omega arith in
    let high = little_from_octets 4 (counter / 65536) (omega arith) in
    omega arith

pub counter-below : (body : Octets) → 8 ≤ length body → AreOctets body → counter_in body ≤ 281474976710655
counter-below body long all =
    let P : ℕ → Type 0 = λ n. little (part 0 2 body) < 256 ^ n in
    let Q : ℕ → Type 0 = λ n. little (part 4 4 body) < 256 ^ n in
    let low = subst P (length_part 0 2 body (omega arith)) (little-below (part 0 2 body) (AreOctets_part 0 2 body all)) in
    let high = subst Q (length_part 4 4 body (omega arith)) (little-below (part 4 4 body) (AreOctets_part 4 4 body all)) in
    omega arith
