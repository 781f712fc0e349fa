-- Octets in memory: which numbers they are, and what a write leaves.
use Rattle.std.specs.Prelude.{ℕ, zero, suc, ◌+◌, ◌*◌, ◌/◌, ◌%◌, ◌<◌, List, [], ◌∷◌, ◌++◌, reverse, length, take, drop, bit_xor}
use Rattle.std.specs.List.{AllByRecursion}

abbrev pub Octets : Type 0
Octets = List ℕ

-- a list of numbers is one of octets where each is below 256
abbrev pub AreOctets : Octets → Type 0
AreOctets xs = AllByRecursion (λ x. x < 256) xs

-- the number that octets write, the least significant first, and the most significant first
abbrev pub little : Octets → ℕ
little [] = 0
little (x ∷ xs) = x + 256 * little xs

abbrev pub big : Octets → ℕ
big xs = little (reverse xs)

-- the n lowest octets of a number, in the same two orders
abbrev pub little_octets : ℕ → ℕ → Octets
little_octets zero v = []
little_octets (suc n) v = (v % 256) ∷ little_octets n (v / 256)

abbrev pub big_octets : ℕ → ℕ → Octets
big_octets n v = reverse (little_octets n v)

-- the exclusive or of two lists, octet by octet, as far as both go
abbrev pub xored : Octets → Octets → Octets
xored [] ys = []
xored (x ∷ xs) [] = []
xored (x ∷ xs) (y ∷ ys) = bit_xor x y ∷ xored xs ys

-- the n octets of a memory that stand at a place
abbrev pub part : ℕ → ℕ → Octets → Octets
part at n xs = take n (drop at xs)

-- a memory once octets were written at a place: the rest is as before
abbrev pub written : ℕ → Octets → Octets → Octets
written at xs old = take at old ++ (xs ++ drop (at + length xs) old)

-- a memory once octets were written at its start
abbrev pub begins : Octets → Octets → Octets
begins xs old = xs ++ drop (length xs) old
