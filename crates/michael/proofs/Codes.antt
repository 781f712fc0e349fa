-- Michael over octets that come in parts; how many words it takes; and that its code is eight octets.
use Rattle.std.proofs.Common.{◌≡◌, ℕ, zero, suc, ◌+◌, ◌-◌, ◌*◌, ◌/◌, ◌%◌, ◌≤◌, lit≤, List, [], ◌∷◌, ◌++◌, map, length, get_or, drop, replicate, sym, refl, ap, ◌∙◌, arith}
use Rattle.std.specs.Int.{w32, from_le_bytes}
use Rattle.std.specs.List.{range_with_len}
use Rattle.std.specs.Simd.{first_chunks}
use Rattle.std.proofs.lemmas.List.{append_assoc, length-append, length-replicate}
use Rattle.octets.specs.Octets.{Octets, AreOctets, little, little_octets}
use Rattle.octets.proofs.Numbers.{AreOctets-append, AreOctets-little}
use Rattle.octets.proofs.Writing.{spelled}
use Rattle.frame.specs.declared.addresses.Address.{Address}
use Rattle.michael.specs.declared.blocks.State.{State}
use Rattle.michael.specs.Michael.{taking, chain, words, padded, key_state, code_octets, ends_in, michael, heading, word_count}

-- words and states over a list whose first part is whole words
pub words_append : (xs ys : Octets) → length xs % 4 ≡ 0 → words (xs ++ ys) ≡ words xs ++ words ys
words_append [] ys whole = refl
words_append (a ∷ []) ys whole = absurd (omega arith)
words_append (a ∷ b ∷ []) ys whole = absurd (omega arith)
words_append (a ∷ b ∷ c ∷ []) ys whole = absurd (omega arith)
words_append (a ∷ b ∷ c ∷ d ∷ xs) ys whole =
    ap (λ ws. little (a ∷ b ∷ c ∷ d ∷ []) ∷ ws) (words_append xs ys (omega arith))

pub chain-append : (s : State) (ws vs : List ℕ) → chain s (ws ++ vs) ≡ chain (chain s ws) vs
chain-append s [] vs = refl
chain-append s (w ∷ ws) vs = chain-append (taking s w) ws vs

pub padded-append : (xs ys : Octets) → length xs % 4 ≡ 0 → padded (xs ++ ys) ≡ xs ++ padded ys
padded-append xs ys whole =
    let long = length-append xs ys in
    let same : length (xs ++ ys) % 4 ≡ length ys % 4 = omega arith in
    append_assoc xs ys (90 ∷ replicate (7 - length (xs ++ ys) % 4) 0)
    ∙ ap (λ n. xs ++ (ys ++ (90 ∷ replicate (7 - n) 0))) same

-- whole words that come first may be taken first
pub ends_in-append : (s : State) (xs ys : Octets) → length xs % 4 ≡ 0 → ends_in s (xs ++ ys) ≡ ends_in (chain s (words xs)) ys
ends_in-append s xs ys whole =
    ap (λ m. chain s (words m)) (padded-append xs ys whole)
    ∙ ap (chain s) (words_append xs (padded ys) whole)
    ∙ chain-append s (words xs) (words (padded ys))

-- a word made of four octets
pub word_of : (x a b c d : ℕ) → x ≡ a + b * 256 + c * 65536 + d * 16777216 → x ≡ little (a ∷ b ∷ c ∷ d ∷ [])
word_of x a b c d e = omega arith

-- chunks of four that come first may be taken first
pub ends_in_chunked : (s : State) (n : ℕ) (xs rest : Octets) → n * 4 ≤ length xs → ends_in (chain s (map (from_le_bytes w32) (first_chunks 4 n xs))) (drop (n * 4) xs ++ rest) ≡ ends_in s (xs ++ rest)
ends_in_chunked s zero xs rest long = refl
ends_in_chunked s (suc n) [] rest long = absurd (omega arith)
ends_in_chunked s (suc n) (a ∷ []) rest long = absurd (omega arith)
ends_in_chunked s (suc n) (a ∷ b ∷ []) rest long = absurd (omega arith)
ends_in_chunked s (suc n) (a ∷ b ∷ c ∷ []) rest long = absurd (omega arith)
ends_in_chunked s (suc n) (a ∷ b ∷ c ∷ d ∷ xs) rest long =
    let four = a ∷ b ∷ c ∷ d ∷ [] in
    let past : suc n * 4 ≡ suc (suc (suc (suc (n * 4)))) = omega arith in
    let taken = chain (taking s (from_le_bytes w32 four)) (map (from_le_bytes w32) (first_chunks 4 n xs)) in
    ap (λ k. ends_in taken (drop k (four ++ xs) ++ rest)) past
    ∙ ends_in_chunked (taking s (from_le_bytes w32 four)) n xs rest (omega arith)
    ∙ ap (λ w. ends_in (taking s w) (xs ++ rest)) (word_of _ a b c d refl)
    ∙ sym (ends_in-append s four (xs ++ rest) refl)

-- the octets of an address, one by one
abbrev each : Address → Octets
each a = map (λ i. get_or a.octets i 0) (range_with_len 0 6)

pub ends_in-heading : (s : State) (destination source : Address) (priority : ℕ) (rest : Octets) → length destination.octets ≡ 6 → length source.octets ≡ 6 → ends_in (chain s (map (from_le_bytes w32) (first_chunks 4 4 (each destination ++ (each source ++ (priority ∷ 0 ∷ 0 ∷ 0 ∷ [])))))) rest ≡ ends_in s (heading destination source priority ++ rest)
ends_in-heading s destination source priority rest ld ls =
    ends_in_chunked s 4 (each destination ++ (each source ++ (priority ∷ 0 ∷ 0 ∷ 0 ∷ []))) rest (lit≤ tt)
    ∙ sym (ap (λ xs. ends_in s ((xs ++ (each source ++ (priority ∷ 0 ∷ 0 ∷ 0 ∷ []))) ++ rest)) (spelled 6 destination.octets ld))
    ∙ sym (ap (λ xs. ends_in s ((destination.octets ++ (xs ++ (priority ∷ 0 ∷ 0 ∷ 0 ∷ []))) ++ rest)) (spelled 6 source.octets ls))

pub length-words : (xs : Octets) → length (words xs) ≡ length xs / 4
length-words [] = refl
length-words (a ∷ []) = refl
length-words (a ∷ b ∷ []) = refl
length-words (a ∷ b ∷ c ∷ []) = refl
length-words (a ∷ b ∷ c ∷ d ∷ xs) = let rest = length-words xs in omega arith

pub length-padded-words : (m : Octets) → length (words (padded m)) ≡ length m / 4 + 2
length-padded-words m =
    let zeros = length-replicate {A = ℕ} (7 - length m % 4) 0 in
    let long = length-append m (90 ∷ replicate (7 - length m % 4) 0) in
    length-words (padded m) ∙ omega arith

pub counted_words : (d s : Address) (p : ℕ) (m : Octets) → length d.octets ≡ 6 → length s.octets ≡ 6 → length (words (padded (heading d s p ++ m))) ≡ word_count (length m)
counted_words d s p m ld ls =
    let source = length-append s.octets (p ∷ 0 ∷ 0 ∷ 0 ∷ []) in
    let front = length-append d.octets (s.octets ++ (p ∷ 0 ∷ 0 ∷ 0 ∷ [])) in
    let long = length-append (heading d s p) m in
    length-padded-words (heading d s p ++ m) ∙ omega arith

pub length-michael : (key m : Octets) → length (michael key m) ≡ 8
unfolding code_octets
length-michael key m = refl

pub AreOctets-michael : (key m : Octets) → AreOctets (michael key m)
unfolding code_octets
AreOctets-michael key m =
    let s = ends_in (key_state key) m in
    AreOctets-append (little_octets 4 s.left) (little_octets 4 s.right) (AreOctets-little 4 s.left) (AreOctets-little 4 s.right)
