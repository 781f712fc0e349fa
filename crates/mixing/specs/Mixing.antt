-- The key mixing of TKIP: from a temporal key, the transmitter's address and a frame's counter to the key of RC4.
-- Words have 16 bits and their sums wrap. Of two octets that make a word the low one comes first.
use Rattle.std.specs.Prelude.{ℕ, zero, suc, ◌+◌, ◌-◌, ◌*◌, ◌/◌, ◌%◌, ◌^◌, List, [], ◌∷◌, ◌++◌, length, bit_and, bit_or, bit_xor, slice_index, slice_set}
use Rattle.octets.specs.Octets.{Octets, little, little_octets, part}
use Rattle.frame.specs.declared.addresses.Address.{Address}
use Rattle.sbox.specs.Field.{xtime, thrice, sub}

abbrev pub low : ℕ → ℕ
low w = w % 256

abbrev pub high : ℕ → ℕ
high w = w / 256 % 256

abbrev pub plus : ℕ → ℕ → ℕ
plus a b = (a + b) % 2 ^ 16

-- word n of octets
abbrev pub word : Octets → ℕ → ℕ
word xs n = little (part (2 * n) 2 xs)

-- the octets of words
abbrev pub octets_of : List ℕ → Octets
octets_of [] = []
octets_of (w ∷ ws) = little_octets 2 w ++ octets_of ws

-- entry n of the table: the substitution of n, twice in the high octet and three times in the low one
unfoldable pub table_entry : ℕ → ℕ
table_entry n = xtime (sub n) * 256 + thrice (sub n)

-- the S-box on words: the entry at the low octet, and that at the high one with its octets exchanged
unfoldable pub substituted : ℕ → ℕ
substituted w = bit_xor (table_entry (low w)) (low (table_entry (high w)) * 256 + high (table_entry (high w)))

-- turned right by one bit
unfoldable pub turned : ℕ → ℕ
turned w = w % 2 * 2 ^ 15 + w / 2

-- words in order: each grows by f of the one before it, as that is by then, under a word of the key
abbrev pub chained : (ℕ → ℕ) → ℕ → List ℕ → List ℕ → List ℕ
chained f before [] ws = ws
chained f before (k ∷ ks) [] = []
chained f before (k ∷ ks) (w ∷ ws) = let grown = plus w (f (bit_xor before k)) in grown ∷ chained f grown ks ws

-- before the first word comes the last
abbrev pub around : (ℕ → ℕ) → List ℕ → List ℕ → List ℕ
around f ks ws = chained f (slice_index ws (length ws - 1)) ks ws

-- the words of the key in a round of phase 1: the even ones (0) or the odd ones (1), and the first of them again
abbrev pub round_keys : Octets → ℕ → List ℕ
round_keys key odd = word key odd ∷ word key (odd + 2) ∷ word key (odd + 4) ∷ word key (odd + 6) ∷ word key odd ∷ []

-- the number of the round is added to the last word
abbrev pub numbered : ℕ → List ℕ → List ℕ
numbered i ws = slice_set ws 4 (plus (slice_index ws 4) i)

abbrev pub rounded : Octets → ℕ → List ℕ → List ℕ
rounded key i ws = numbered i (around substituted (round_keys key (i % 2)) ws)

-- the first n rounds
unfoldable pub rounds : Octets → ℕ → List ℕ → List ℕ
rounds key zero ws = ws
rounds key (suc i) ws = rounded key i (rounds key i ws)

-- phase 1 starts from the upper 32 bits of the counter and the transmitter's address
abbrev pub started : Address → ℕ → List ℕ
started transmitter upper =
    (upper % 2 ^ 16) ∷ (upper / 2 ^ 16) ∷ word transmitter.octets 0 ∷ word transmitter.octets 1 ∷ word transmitter.octets 2 ∷ []

-- phase 1: five words, the TTAK
unfoldable pub phase1 : Octets → Address → ℕ → List ℕ
phase1 key transmitter upper = rounds key 8 (started transmitter upper)

-- the first step of phase 2: a sixth word brings in the lower 16 bits of the counter
abbrev pub six_words : List ℕ → ℕ → List ℕ
six_words ttak lower = ttak ++ (plus (slice_index ttak 4) lower ∷ [])

-- the second step: once around with the S-box and six words of the key, once with turns and the other two
abbrev pub first_keys : Octets → List ℕ
first_keys key = word key 0 ∷ word key 1 ∷ word key 2 ∷ word key 3 ∷ word key 4 ∷ word key 5 ∷ []

abbrev pub last_keys : Octets → List ℕ
last_keys key = word key 6 ∷ word key 7 ∷ 0 ∷ 0 ∷ 0 ∷ 0 ∷ []

abbrev pub stirred : Octets → List ℕ → List ℕ
stirred key ws = around turned (last_keys key) (around substituted (first_keys key) ws)

-- the third step: TSC1 and TSC0 with an octet between them that keeps weak keys away, an octet of the last word under the
-- key's first, and the six words
abbrev pub front : ℕ → ℕ → Octets
front mixed lower = high lower ∷ bit_and (bit_or (high lower) 0x20) 0x7f ∷ low lower ∷ low (mixed / 2) ∷ []

abbrev pub seeded : Octets → List ℕ → ℕ → Octets
seeded key ws lower = front (bit_xor (slice_index ws 5) (word key 0)) lower ++ octets_of ws

unfoldable pub phase2 : Octets → List ℕ → ℕ → Octets
phase2 key ttak lower = seeded key (stirred key (six_words ttak lower)) lower

-- the key of RC4 for the frame with a counter of 48 bits; the temporal key is the first 16 octets of the key
unfoldable pub rc4_key : Octets → Address → ℕ → Octets
rc4_key key transmitter counter = phase2 key (phase1 key transmitter (counter / 2 ^ 16)) (counter % 2 ^ 16)
