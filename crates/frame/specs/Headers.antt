-- The header of a data frame: 24 octets.
--    0      0x08, a data frame
--    1      flags: to DS bit 0, from DS bit 1, more fragments bit 2, protected bit 6, order bit 7
--    2, 3   duration, zeros
--    4-9, 10-15, 16-21   Address 1, 2 and 3
--    22, 23 sequence control: sequence number × 16 + fragment number, the low octet first
use Rattle.std.specs.Prelude.{ℕ, ◌+◌, ◌*◌, ◌/◌, ◌%◌, Bool, cond, ◌∷◌, ◌++◌, length, Ok, Err, Result, ◌==◌, nat_lt, slice_index}
use Rattle.octets.specs.Octets.{Octets, little, little_octets, part}
use Rattle.frame.specs.Addresses.{address_at}
use Rattle.frame.specs.declared.headers.Header.{Header}
use Rattle.frame.specs.declared.headers.HeaderFault.{HeaderFault}
use Rattle.frame.specs.declared.headers.HeaderFault.TheVariants.{Short, NotData}

abbrev pub header_length : ℕ
header_length = 24

-- a flag's worth where it is set
abbrev pub worth : Bool → ℕ → ℕ
worth flag n = cond flag n 0

abbrev pub flags_octet : Header → ℕ
flags_octet h = worth h.to_ds 1 + worth h.from_ds 2 + worth h.more_fragments 4 + worth h.protected 64 + worth h.order 128

abbrev pub header_octets : Header → Octets
header_octets h =
    8 ∷ flags_octet h ∷ 0 ∷ 0 ∷ (h.address1.octets ++ (h.address2.octets ++ (h.address3.octets ++ little_octets 2 (h.sequence * 16 + h.fragment))))

-- whether the bit of this worth is set
abbrev pub has_bit : ℕ → ℕ → Bool
has_bit octet n = octet / n % 2 == 1

-- sequence number × 16 + fragment number
abbrev pub control_in : Octets → ℕ
control_in frame = little (part 22 2 frame)

abbrev pub fields_in : Octets → Header
fields_in frame =
    record { to_ds = has_bit (slice_index frame 1) 1; from_ds = has_bit (slice_index frame 1) 2; more_fragments = has_bit (slice_index frame 1) 4; protected = has_bit (slice_index frame 1) 64; order = has_bit (slice_index frame 1) 128; address1 = address_at 4 frame; address2 = address_at 10 frame; address3 = address_at 16 frame; sequence = control_in frame / 16; fragment = control_in frame % 16 }

-- what the first octets of a frame say
abbrev pub header_in : Octets → Result Header HeaderFault
header_in frame = cond (nat_lt (length frame) header_length) (Err Short) (cond (slice_index frame 0 == 8) (Ok (fields_in frame)) (Err NotData))
