-- RC4. A state is a permutation of the octets, the table, with two places in it, i and j. The key schedule makes
-- the first state of a key, and each step of the generator gives one octet of the key stream.
use Rattle.std.specs.Prelude.{◌≡◌, ℕ, zero, suc, ◌+◌, ◌%◌, List, [], ◌∷◌, ◌++◌, length, slice_index, slice_set}
use Rattle.std.specs.List.{range_with_len}
use Rattle.octets.specs.Octets.{xored}
use Rattle.rc4.specs.declared.Rc4.{Rc4}

-- the entries at i and j exchanged
abbrev pub swapped : List ℕ → ℕ → ℕ → List ℕ
swapped table i j = slice_set (slice_set table i (slice_index table j)) j (slice_index table i)

-- Turn i of the key schedule: j moves on by the entry at i and by the key's octet, the key repeated as often as needed,
abbrev pub key_move : List ℕ → ℕ → List ℕ × ℕ → ℕ
key_move key i s = (s.1 + slice_index s.0 i + slice_index key (i % length key)) % 256

-- and the entries at i and the new j are exchanged.
abbrev pub key_turn : List ℕ → ℕ → List ℕ × ℕ → List ℕ × ℕ
key_turn key i s = (swapped s.0 i (key_move key i s), key_move key i s)

-- the table and j after the first n turns
unfoldable pub key_turns : List ℕ → ℕ → List ℕ × ℕ
key_turns key zero = (range_with_len 0 256, 0)
key_turns key (suc i) = key_turn key i (key_turns key i)

-- the state that a key sets up
unfoldable pub scheduled : List ℕ → Rc4
scheduled key = record { table = (key_turns key 256).0; i = 0; j = 0 }

-- A step of the generator: i moves on by one,
abbrev pub next_i : Rc4 → ℕ
next_i s = (s.i + 1) % 256

-- j by the entry at the new i,
abbrev pub next_j : Rc4 → ℕ
next_j s = (s.j + slice_index s.table (next_i s)) % 256

-- and the entries at both are exchanged.
unfoldable pub stepped : Rc4 → Rc4
stepped s = record { table = swapped s.table (next_i s) (next_j s); i = next_i s; j = next_j s }

-- The octet that a step gives: the entry at the sum of the entries at i and j.
unfoldable pub output : Rc4 → ℕ
output s = slice_index s.table ((slice_index s.table s.i + slice_index s.table s.j) % 256)

-- the state after n steps
abbrev pub after : ℕ → Rc4 → Rc4
after zero s = s
after (suc n) s = after n (stepped s)

-- the next n octets of the key stream
abbrev pub keystream : Rc4 → ℕ → List ℕ
keystream s zero = []
keystream s (suc n) = output (stepped s) ∷ keystream (stepped s) n

-- octets under the key stream from a state on
abbrev pub masked : Rc4 → List ℕ → List ℕ
masked s octets = xored octets (keystream s (length octets))

-- octets under a key
abbrev pub covered : List ℕ → List ℕ → List ℕ
covered key octets = masked (scheduled key) octets

-- What comes of `octets` at a state, and the state then, go on from any octets that led to that state:
-- the two lists taken one after the other are the joined list taken at once.
pub record GoesOn (from : Rc4) (octets made : List ℕ) (to : Rc4) : Type 0 where
  pub stream : (s : Rc4) (before : List ℕ) → after (length before) s ≡ from → masked s (before ++ octets) ≡ masked s before ++ made
  pub state : (s : Rc4) (before : List ℕ) → after (length before) s ≡ from → after (length (before ++ octets)) s ≡ to
