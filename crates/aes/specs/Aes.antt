-- AES-128 of FIPS 197. A state is sixteen octets, of which octet i stands in row i % 4 of column i / 4.
use Rattle.std.specs.Prelude.{ℕ, zero, suc, ◌+◌, ◌*◌, ◌/◌, ◌%◌, List, [], ◌∷◌, ◌++◌, map, bit_xor, slice_index, slice_index_or}
use Rattle.octets.specs.Octets.{xored}
use Rattle.sbox.specs.Field.{sub, xtime, thrice}
use Rattle.std.specs.List.{range_with_len}

-- the octet of s in row r of column c, the columns counted round
abbrev pub at : List ℕ → ℕ → ℕ → ℕ
at s r c = slice_index s (r + c % 4 * 4)

-- each octet is substituted
unfoldable pub sub_bytes : List ℕ → List ℕ
sub_bytes s = map sub s

-- row r is moved left by r columns
unfoldable pub shift_rows : List ℕ → List ℕ
shift_rows s = map (λ i. at s (i % 4) (i / 4 + i % 4)) (range_with_len 0 16)

-- the column a b c d, times the matrix of the rows 2 3 1 1, 1 2 3 1, 1 1 2 3 and 3 1 1 2
abbrev pub mix_column : ℕ → ℕ → ℕ → ℕ → List ℕ
mix_column a b c d =
    bit_xor (bit_xor (bit_xor (xtime a) (thrice b)) c) d ∷ bit_xor (bit_xor (bit_xor a (xtime b)) (thrice c)) d
    ∷ bit_xor (bit_xor (bit_xor a b) (xtime c)) (thrice d) ∷ bit_xor (bit_xor (bit_xor (thrice a) b) c) (xtime d) ∷ []

-- column c of s, mixed
abbrev pub mixed_at : List ℕ → ℕ → List ℕ
mixed_at s c = mix_column (at s 0 c) (at s 1 c) (at s 2 c) (at s 3 c)

-- each column is mixed
unfoldable pub mix_columns : List ℕ → List ℕ
mix_columns s = mixed_at s 0 ++ mixed_at s 1 ++ mixed_at s 2 ++ mixed_at s 3

-- the round key is added
unfoldable pub add_round_key : List ℕ → List ℕ → List ℕ
add_round_key s k = xored s k

-- word c of a round key: its four octets
abbrev pub word_at : List ℕ → ℕ → List ℕ
word_at k c = at k 0 c ∷ at k 1 c ∷ at k 2 c ∷ at k 3 c ∷ []

-- SubWord of RotWord of a word: its octets moved round by one place and substituted
abbrev pub turned_word : List ℕ → List ℕ
turned_word w = map sub (slice_index w 1 ∷ slice_index w 2 ∷ slice_index w 3 ∷ slice_index w 0 ∷ [])

-- the round constants: 1, and each next is twice the one before
unfoldable pub rcon : ℕ → ℕ
rcon zero = 1
rcon (suc n) = xtime (rcon n)

-- the round key after k: to each word of k the new word before it is added, and to the first the last of k, turned and with
-- the round constant x
unfoldable pub next_key : ℕ → List ℕ → List ℕ
next_key x k =
    let a = xored (word_at k 0) (xored (turned_word (word_at k 3)) (x ∷ 0 ∷ 0 ∷ 0 ∷ [])) in
    let b = xored (word_at k 1) a in
    let c = xored (word_at k 2) b in
    let d = xored (word_at k 3) c in
    a ++ b ++ c ++ d

-- round key n: the first is the key itself
unfoldable pub round_key : List ℕ → ℕ → List ℕ
round_key key zero = key
round_key key (suc n) = next_key (rcon n) (round_key key n)

-- the key expansion: eleven round keys
unfoldable pub expanded : List ℕ → List (List ℕ)
expanded key = map (round_key key) (range_with_len 0 11)

-- a round
unfoldable pub round : List ℕ → List ℕ → List ℕ
round k s = add_round_key (mix_columns (shift_rows (sub_bytes s))) k

-- the last round, which mixes no columns
unfoldable pub last_round : List ℕ → List ℕ → List ℕ
last_round k s = add_round_key (shift_rows (sub_bytes s)) k

-- the state s after n rounds, under the round keys ks
unfoldable pub rounds : List (List ℕ) → List ℕ → ℕ → List ℕ
rounds ks s zero = s
rounds ks s (suc n) = round (slice_index_or ks (suc n) []) (rounds ks s n)

-- the block b encrypted under the round keys ks
unfoldable pub encrypted : List (List ℕ) → List ℕ → List ℕ
encrypted ks b = last_round (slice_index_or ks 10 []) (rounds ks (add_round_key b (slice_index_or ks 0 [])) 9)

-- AES-128 of the block b under the key
abbrev pub aes128 : List ℕ → List ℕ → List ℕ
aes128 key b = encrypted (expanded key) b
