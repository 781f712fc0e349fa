-- CCMP: AES-128 in CCM over a piece of a data frame.
-- The head of a sealed piece has eight octets:
--    0, 1   the two lowest counter octets, the lowest first
--    2      zero
--    3      key ID × 64 + 32: bit 5 is the mark
--    4-7    the other four counter octets, the lowest first
use Rattle.std.specs.Prelude.{ℕ, ◌+◌, ◌*◌, ◌/◌, ◌%◌, cond, [], ◌∷◌, ◌++◌, length, drop, Some, None, Ok, Err, Option, Result, ◌==◌, bit_and, bit_or, nat_lt, slice_index}
use Rattle.octets.specs.Octets.{Octets, little, little_octets, big_octets, part}
use Rattle.frame.specs.declared.addresses.Address.{Address}
use Rattle.suite.specs.Meaning.{Meaning, meaning}
use Rattle.suite.specs.declared.sizes.Direction.{Direction}
use Rattle.suite.specs.declared.sizes.Sizes.{Sizes}
use Rattle.suite.specs.declared.faults.HeadFault.{HeadFault}
use Rattle.suite.specs.declared.faults.HeadFault.TheVariants.{Short, Unmarked}
use Rattle.suite.specs.declared.faults.OpenFault.{OpenFault}
use Rattle.suite.specs.declared.faults.OpenFault.TheVariants.{Long, Unequal}
use Rattle.aes.specs.Aes.{aes128}
use Rattle.ccm.specs.Ccm.{ccm_seal, ccm_open}

abbrev pub ccmp_sizes : Sizes
ccmp_sizes = record { head = 8; tail = 8; code = 0; key = 16; top = 281474976710655 }

-- a message has no code
abbrev pub ccmp_code : Octets → Direction → Address → Address → ℕ → Octets → Octets
ccmp_code key direction destination source priority message = []

-- the nonce: priority 0, Address 2, and the counter, the highest octet first
abbrev pub ccmp_nonce : Octets → ℕ → Octets
ccmp_nonce header counter = 0 ∷ (part 10 6 header ++ big_octets 6 counter)

-- the additional data: frame control with subtype, retry, power management and more data masked and protected set;
-- Address 1, 2 and 3; sequence control with the sequence number masked
abbrev pub ccmp_additional : Octets → Octets
ccmp_additional header =
    bit_and (slice_index header 0) 0x8f ∷ bit_or (bit_and (slice_index header 1) 0xc7) 0x40 ∷ (part 4 18 header ++ (bit_and (slice_index header 22) 0x0f ∷ 0 ∷ []))

abbrev pub head_octets : ℕ → ℕ → Octets
head_octets id counter = little_octets 2 counter ++ (0 ∷ (id * 64 + 32) ∷ little_octets 4 (counter / 65536))

-- the counter that a head names
abbrev pub counter_in : Octets → ℕ
counter_in body = little (part 0 2 body) + 65536 * little (part 4 4 body)

abbrev pub ccmp_seal : Octets → Octets → ℕ → ℕ → Octets → Octets
ccmp_seal key header id counter piece =
    head_octets id counter ++ ccm_seal (aes128 key) (ccmp_nonce header counter) (ccmp_additional header) piece

-- octet 2 and the five lowest bits of octet 3 are not read
abbrev pub ccmp_head : Octets → Result (ℕ × ℕ) HeadFault
ccmp_head body =
    cond (nat_lt (length body) 17) (Err Short) (cond (slice_index body 3 / 32 % 2 == 1) (Ok (counter_in body, slice_index body 3 / 64)) (Err Unmarked))

abbrev pub piece_or_unequal : Option Octets → Result Octets OpenFault
piece_or_unequal (Some piece) = Ok piece
piece_or_unequal None = Err Unequal

-- what CCM makes of a body beyond its head, under the nonce that the head names
abbrev pub opened_in : Octets → Octets → Octets → Option Octets
opened_in key header body = ccm_open (aes128 key) (ccmp_nonce header (counter_in body)) (ccmp_additional header) (drop 8 body)

-- the longest body has a piece of 2,312 octets
abbrev pub ccmp_open : Octets → Octets → Octets → Result Octets OpenFault
ccmp_open key header body = cond (nat_lt 2328 (length body)) (Err Long) (piece_or_unequal (opened_in key header body))

abbrev pub ccmp : Meaning
ccmp = meaning ccmp_sizes ccmp_code ccmp_seal ccmp_head ccmp_open
