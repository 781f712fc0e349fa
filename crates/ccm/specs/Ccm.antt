-- CCM with a tail of 8 octets and a length field of 2, over a block cipher E, which makes a block of sixteen octets of each.
-- A nonce has 13 octets.
use Rattle.std.specs.Prelude.{◌≡◌, ℕ, zero, suc, ◌+◌, ◌-◌, ◌*◌, ◌/◌, cond, List, [], ◌∷◌, ◌++◌, map, length, take, drop, replicate, Some, None, Option, ◌==◌}
use Rattle.std.specs.List.{range_with_len}
use Rattle.std.specs.Str.{bytes_eq}
use Rattle.octets.specs.Octets.{Octets, big_octets, part, begins, xored}

-- block i of octets, which zeros follow
unfoldable pub block_of : Octets → ℕ → Octets
block_of xs i = part (16 * i) 16 (xs ++ replicate 16 0)

-- how many blocks some octets fill, the last of them perhaps in part
abbrev pub count_blocks : Octets → ℕ
count_blocks xs = (length xs + 15) / 16

abbrev pub blocks : Octets → List Octets
blocks xs = map (block_of xs) (range_with_len 0 (count_blocks xs))

-- a block of an octet of flags, the nonce, and a number in two octets, the high one first
abbrev pub numbered : ℕ → Octets → ℕ → Octets
numbered flags nonce n = flags ∷ (nonce ++ big_octets 2 n)

-- the flags of the first block: 3 × 8 for a tail of 8, 1 for a length field of 2, and 64 where there is additional data
abbrev pub first_flags : Octets → ℕ
first_flags additional = cond (length additional == 0) 0x19 0x59

-- additional data, if any, after its length in two octets
abbrev pub measured : Octets → Octets
measured additional = cond (length additional == 0) [] (big_octets 2 (length additional) ++ additional)

-- what is authenticated: the first block, with the length of the message, the additional data and the message
abbrev pub authentication_blocks : Octets → Octets → Octets → List Octets
authentication_blocks nonce additional message =
    numbered (first_flags additional) nonce (length message) ∷ (blocks (measured additional) ++ blocks message)

-- each block is added to what came of those before it, and encrypted
unfoldable pub chained : (Octets → Octets) → Octets → List Octets → Octets
chained E x [] = x
chained E x (b ∷ bs) = chained E (E (xored x b)) bs

-- the CBC-MAC
abbrev pub cbc_mac : (Octets → Octets) → List Octets → Octets
cbc_mac E bs = chained E (replicate 16 0) bs

abbrev pub counter_block : Octets → ℕ → Octets
counter_block nonce i = numbered 1 nonce i

-- the key stream: counter blocks 1 to n, encrypted
unfoldable pub stream : (Octets → Octets) → Octets → ℕ → Octets
stream E nonce zero = []
stream E nonce (suc n) = stream E nonce n ++ E (counter_block nonce (suc n))

-- octets under the key stream, which also takes it away
unfoldable pub covered : (Octets → Octets) → Octets → Octets → Octets
covered E nonce xs = xored xs (stream E nonce (count_blocks xs))

-- the tail: the first eight octets of the CBC-MAC, under counter block 0
unfoldable pub ccm_tail : (Octets → Octets) → Octets → Octets → Octets → Octets
ccm_tail E nonce additional message =
    take 8 (xored (cbc_mac E (authentication_blocks nonce additional message)) (E (counter_block nonce 0)))

unfoldable pub ccm_seal : (Octets → Octets) → Octets → Octets → Octets → Octets
ccm_seal E nonce additional message = covered E nonce message ++ ccm_tail E nonce additional message

-- what is sealed, without its tail, the key stream taken away
abbrev pub uncovered : (Octets → Octets) → Octets → Octets → Octets
uncovered E nonce sealed = covered E nonce (take (length sealed - 8) sealed)

-- the message, where its tail is that of what was sealed
unfoldable pub ccm_open : (Octets → Octets) → Octets → Octets → Octets → Option Octets
ccm_open E nonce additional sealed =
    cond (bytes_eq (ccm_tail E nonce additional (uncovered E nonce sealed)) (drop (length sealed - 8) sealed)) (Some (uncovered E nonce sealed)) None

-- what open leaves in a memory: the message at its start, or as many zeros
abbrev pub left_by_ccm_open : Octets → Option Octets → Octets → Octets
left_by_ccm_open sealed (Some message) old = begins message old
left_by_ccm_open sealed None old = begins (replicate (length sealed - 8) 0) old

-- open gives a message exactly when sealing it gives what was opened
abbrev pub OpensExactly : (Octets → Octets) → Octets → Octets → Octets → Type 0
OpensExactly E nonce additional sealed =
    (message : Octets) → (ccm_open E nonce additional sealed ≡ Some message → ccm_seal E nonce additional message ≡ sealed) × (ccm_seal E nonce additional message ≡ sealed → ccm_open E nonce additional sealed ≡ Some message)
