-- Michael, the message code of TKIP: eight octets over the octets of a message, under a key of eight octets.
use Rattle.std.specs.Prelude.{ℕ, ◌+◌, ◌-◌, ◌*◌, ◌/◌, ◌%◌, ◌^◌, List, [], ◌∷◌, ◌++◌, length, replicate, bit_or, bit_xor}
use Rattle.octets.specs.Octets.{Octets, little, little_octets, part}
use Rattle.frame.specs.declared.addresses.Address.{Address}
use Rattle.michael.specs.declared.blocks.State.{State}

-- a word with its bits rotated k places up, and down
abbrev pub rotl : ℕ → ℕ → ℕ
rotl k x = bit_or (x * 2 ^ k % 2 ^ 32) (x / 2 ^ (32 - k))

abbrev pub rotr : ℕ → ℕ → ℕ
rotr k x = bit_or (x / 2 ^ k) (x * 2 ^ (32 - k) % 2 ^ 32)

-- a word with the two octets of each half exchanged
abbrev pub xswap : ℕ → ℕ
xswap x = little (x / 256 % 256 ∷ x % 256 ∷ x / 16777216 % 256 ∷ x / 65536 % 256 ∷ [])

-- the right word takes f of the left by exclusive or, and then the left adds the right
abbrev pub step : (ℕ → ℕ) → State → State
step f s =
    let right = bit_xor s.right (f s.left) in
    record { left = (s.left + right) % 2 ^ 32; right = right }

-- the block function
abbrev pub block : State → State
block s = step (rotr 2) (step (rotl 3) (step xswap (step (rotl 17) s)))

-- a state that takes a word, and one that takes words in turn
abbrev pub taking : State → ℕ → State
taking s w = block (record { left = bit_xor s.left w; right = s.right })

abbrev pub chain : State → List ℕ → State
chain s [] = s
chain s (w ∷ ws) = chain (taking s w) ws

-- octets in words, the least significant octet first; fewer than four at the end make no word
abbrev pub words : Octets → List ℕ
words [] = []
words (a ∷ []) = []
words (a ∷ b ∷ []) = []
words (a ∷ b ∷ c ∷ []) = []
words (a ∷ b ∷ c ∷ d ∷ rest) = little (a ∷ b ∷ c ∷ d ∷ []) ∷ words rest

-- octets with 0x5A after them, and then four to seven zeros, up to a multiple of four
abbrev pub padded : Octets → Octets
padded m = m ++ (90 ∷ replicate (7 - length m % 4) 0)

-- the words of a key, and the octets of the code
abbrev pub key_state : Octets → State
key_state key = record { left = little (part 0 4 key); right = little (part 4 4 key) }

unfoldable pub code_octets : State → Octets
code_octets s = little_octets 4 s.left ++ little_octets 4 s.right

-- the state that octets and their padding end in
abbrev pub ends_in : State → Octets → State
ends_in s m = chain s (words (padded m))

-- the code of octets under a key
abbrev pub michael : Octets → Octets → Octets
michael key m = code_octets (ends_in (key_state key) m)

-- what stands before a message: destination, source, priority and three zeros
abbrev pub heading : Address → Address → ℕ → Octets
heading destination source priority = destination.octets ++ (source.octets ++ (priority ∷ 0 ∷ 0 ∷ 0 ∷ []))

abbrev pub heading_length : ℕ
heading_length = 16

-- how many words a message of n octets makes, with what stands before it and the padding
abbrev pub word_count : ℕ → ℕ
word_count n = (heading_length + n) / 4 + 2
