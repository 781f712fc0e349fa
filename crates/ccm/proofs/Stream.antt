-- Counter mode: what each part of a text becomes, and that twice it gives the text again.
use Rattle.std.proofs.Common.{◌≡◌, ℕ, zero, suc, ◌+◌, ◌*◌, ◌/◌, ◌<◌, ◌≤◌, ◌++◌, length, take, drop, refl, ap, ◌∙◌, inl, inr, arith}
use Rattle.std.proofs.ByRecursion.{All-append}
use Rattle.std.proofs.lemmas.List.{length-append, length-drop, take_all, drop_at, take-append-le, drop-append-le}
use Rattle.std.proofs.lemmas.Bool.{cases_lt}
use Rattle.octets.specs.Octets.{Octets, AreOctets, part, xored}
use Rattle.ccm.specs.Ccm.{counter_block, count_blocks, stream, covered}
use Rattle.ccm.specs.Inner.{WholeBlocks}
use Rattle.octets.proofs.Words.{take-xored, drop-xored, length-xored, xored_twice, AreOctets-xored}

pub length-stream : (E : Octets → Octets) (nonce : Octets) (n : ℕ) → WholeBlocks E → length (stream E nonce n) ≡ 16 * n
unfolding stream
length-stream E nonce zero whole = refl
length-stream E nonce (suc n) whole =
    let front = length-stream E nonce n whole in
    let back = whole (counter_block nonce (suc n)) in
    length-append (stream E nonce n) (E (counter_block nonce (suc n))) ∙ omega arith

-- block i of the stream
pub part_stream : (E : Octets → Octets) (nonce : Octets) (n i : ℕ) → WholeBlocks E → i < n → part (16 * i) 16 (stream E nonce n) ≡ E (counter_block nonce (i + 1))
unfolding stream
part_stream E nonce zero i whole h = absurd (omega arith)
part_stream E nonce (suc n) i whole h =
    let s = stream E nonce n in
    let t = E (counter_block nonce (suc n)) in
    let long = length-stream E nonce n whole in
    let size = whole (counter_block nonce (suc n)) in
    let earlier : i < n → part (16 * i) 16 (s ++ t) ≡ E (counter_block nonce (i + 1)) = λ before.
    ap (take 16) (drop-append-le (16 * i) s t (omega arith))
    ∙ take-append-le 16 (drop (16 * i) s) t (omega (arith, length-drop (16 * i) s))
    ∙ part_stream E nonce n i whole before in
    let last : n ≤ i → part (16 * i) 16 (s ++ t) ≡ E (counter_block nonce (i + 1)) = λ after.
    let same : suc n ≡ i + 1 = omega arith in
    ap (take 16) (drop_at s t (16 * i) (omega arith))
    ∙ take_all 16 t (omega arith)
    ∙ ap (λ k. E (counter_block nonce k)) same in
    elim (cases_lt i n) [ inl before ↦ earlier before | inr after ↦ last after ]

pub length-covered : (E : Octets → Octets) (nonce xs : Octets) → WholeBlocks E → length (covered E nonce xs) ≡ length xs
unfolding covered
length-covered E nonce xs whole =
    length-xored xs (stream E nonce (count_blocks xs)) (omega (arith, length-stream E nonce (count_blocks xs) whole))

pub covered_twice : (E : Octets → Octets) (nonce xs : Octets) → WholeBlocks E → covered E nonce (covered E nonce xs) ≡ xs
unfolding covered
covered_twice E nonce xs whole =
    let n = count_blocks xs in
    let long = length-stream E nonce n whole in
    ap (λ k. xored (covered E nonce xs) (stream E nonce ((k + 15) / 16))) (length-covered E nonce xs whole)
    ∙ xored_twice xs (stream E nonce n) (omega arith)

-- block i of a text is under counter block i + 1
pub covered_part : (E : Octets → Octets) (nonce xs : Octets) (i : ℕ) → WholeBlocks E → 16 * i < length xs → part (16 * i) 16 (covered E nonce xs) ≡ xored (part (16 * i) 16 xs) (E (counter_block nonce (i + 1)))
unfolding covered
covered_part E nonce xs i whole inside =
    let s = stream E nonce (count_blocks xs) in
    ap (take 16) (drop-xored (16 * i) xs s)
    ∙ take-xored 16 (drop (16 * i) xs) (drop (16 * i) s)
    ∙ ap (xored (part (16 * i) 16 xs)) (part_stream E nonce (count_blocks xs) i whole (omega arith))

pub AreOctets-stream : (E : Octets → Octets) (nonce : Octets) (n : ℕ) → ((i : ℕ) → AreOctets (E (counter_block nonce i))) → AreOctets (stream E nonce n)
unfolding stream
AreOctets-stream E nonce zero all = tt
AreOctets-stream E nonce (suc n) all =
    All-append (λ x. x < 256) (stream E nonce n) (E (counter_block nonce (suc n))) (AreOctets-stream E nonce n all) (all (suc n))

pub AreOctets-covered : (E : Octets → Octets) (nonce xs : Octets) → ((i : ℕ) → AreOctets (E (counter_block nonce i))) → AreOctets xs → AreOctets (covered E nonce xs)
unfolding covered
AreOctets-covered E nonce xs all text =
    AreOctets-xored xs (stream E nonce (count_blocks xs)) text (AreOctets-stream E nonce (count_blocks xs) all)
