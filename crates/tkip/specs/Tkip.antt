-- TKIP as a suite: RC4 under a key mixed for each frame, CRC-32 behind the piece, Michael over the message.
use Rattle.std.specs.Prelude.{ℕ, ◌+◌, ◌-◌, ◌*◌, ◌/◌, cond, ◌∷◌, ◌++◌, length, take, drop, Ok, Err, Result, bit_and, bit_or, nat_lt, slice_index}
use Rattle.std.specs.Str.{bytes_eq}
use Rattle.octets.specs.Octets.{Octets, little, little_octets, part}
use Rattle.frame.specs.Addresses.{address_at}
use Rattle.frame.specs.Headers.{has_bit}
use Rattle.frame.specs.declared.addresses.Address.{Address}
use Rattle.crc32.specs.Crc32.{check_octets}
use Rattle.rc4.specs.Rc4.{covered}
use Rattle.michael.specs.Michael.{michael, heading}
use Rattle.mixing.specs.Mixing.{rc4_key}
use Rattle.suite.specs.Meaning.{Meaning, meaning}
use Rattle.suite.specs.declared.sizes.Sizes.{Sizes}
use Rattle.suite.specs.declared.sizes.Direction.{Direction}
use Rattle.suite.specs.declared.sizes.Direction.TheVariants.{FromBase, FromLogger}
use Rattle.suite.specs.declared.faults.HeadFault.{HeadFault}
use Rattle.suite.specs.declared.faults.HeadFault.TheVariants.{Short, Unmarked}
use Rattle.suite.specs.declared.faults.OpenFault.{OpenFault}
use Rattle.suite.specs.declared.faults.OpenFault.TheVariants.{Long, Unequal}

abbrev pub tkip_sizes : Sizes
tkip_sizes = record { head = 8; tail = 4; code = 8; key = 32; top = 0xFFFF_FFFF_FFFF }

-- octet n of a counter, the least significant being octet 0
abbrev pub tsc : ℕ → ℕ → ℕ
tsc n counter = slice_index (little_octets 6 counter) n

-- the head: TSC1, TSC1 with bit 5 set and bit 7 clear, TSC0, the key ID with the mark, TSC2 to TSC5
abbrev pub head_octets : ℕ → ℕ → Octets
head_octets id counter =
    tsc 1 counter ∷ bit_and (bit_or (tsc 1 counter) 0x20) 0x7f ∷ tsc 0 counter ∷ (id * 64 + 32) ∷ part 2 4 (little_octets 6 counter)

-- the counter that a head names
abbrev pub counter_in : Octets → ℕ
counter_in body = little (slice_index body 2 ∷ slice_index body 0 ∷ part 4 4 body)

-- octets under the RC4 key of a frame: the key is mixed for the transmitter, Address 2, and the counter
unfoldable pub under : Octets → Octets → ℕ → Octets → Octets
under key header counter octets = covered (rc4_key key (address_at 10 header) counter) octets

abbrev pub tkip_seal : Octets → Octets → ℕ → ℕ → Octets → Octets
tkip_seal key header id counter piece = head_octets id counter ++ under key header counter (piece ++ check_octets piece)

-- the mark is bit 5 of the fourth octet, and the key ID its bits 6 and 7
abbrev pub tkip_head : Octets → Result (ℕ × ℕ) HeadFault
tkip_head body =
    cond (nat_lt (length body) 13) (Err Short) (cond (has_bit (slice_index body 3) 32) (Ok (counter_in body, slice_index body 3 / 64)) (Err Unmarked))

-- what stands in a body beyond its head, RC4 taken away: the piece, and then its CRC-32
abbrev pub bared : Octets → Octets → Octets → Octets
bared key header body = under key header (counter_in body) (drop 8 body)

abbrev pub piece_in : Octets → Octets → Octets → Octets
piece_in key header body = take (length body - 12) (bared key header body)

abbrev pub check_in : Octets → Octets → Octets → Octets
check_in key header body = drop (length body - 12) (bared key header body)

abbrev pub tkip_open : Octets → Octets → Octets → Result Octets OpenFault
tkip_open key header body =
    cond (nat_lt 2324 (length body)) (Err Long) (cond (bytes_eq (check_octets (piece_in key header body)) (check_in key header body)) (Ok (piece_in key header body)) (Err Unequal))

-- the code key of each direction
abbrev pub code_key : Direction → Octets → Octets
code_key FromBase key = part 16 8 key
code_key FromLogger key = part 24 8 key

abbrev pub tkip_code : Octets → Direction → Address → Address → ℕ → Octets → Octets
tkip_code key direction destination source priority message =
    michael (code_key direction key) (heading destination source priority ++ message)

abbrev pub tkip : Meaning
tkip = meaning tkip_sizes tkip_code tkip_seal tkip_head tkip_open
