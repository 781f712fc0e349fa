-- The CRC-32 of IEEE 802.3: the remainder of the octets, each taken from its least significant bit on,
-- divided by the polynomial 0xEDB88320 (the coefficient of the highest power is its least significant bit).
use Rattle.std.specs.Prelude.{ℕ, zero, suc, ◌*◌, ◌/◌, ◌%◌, List, bit_xor}
use Rattle.std.specs.List.{fold}
use Rattle.octets.specs.Octets.{little_octets}

-- One bit of the division: the lowest bit is shifted out, and where it was 1 the polynomial is subtracted.
abbrev pub step : ℕ → ℕ
step c = bit_xor (c / 2) (c % 2 * 0xEDB88320)

-- n bits of it
unfoldable pub steps : ℕ → ℕ → ℕ
steps zero c = c
steps (suc n) c = steps n (step c)

-- One octet joins the remainder at its low end, and its eight bits are divided.
abbrev pub taken : ℕ → ℕ → ℕ
taken c b = steps 8 (bit_xor c b)

-- the octets one after the other
abbrev pub remainder : ℕ → List ℕ → ℕ
remainder c octets = fold taken c octets

-- The remainder starts as 32 ones, and its complement is the CRC-32.
abbrev pub crc32 : List ℕ → ℕ
crc32 octets = bit_xor (remainder 0xFFFF_FFFF octets) 0xFFFF_FFFF

-- the CRC-32 as it is sent behind the octets: its four octets, the least significant first
abbrev pub check_octets : List ℕ → List ℕ
check_octets octets = little_octets 4 (crc32 octets)
