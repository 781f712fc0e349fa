-- Addresses of stations: six octets.
use Rattle.std.specs.Prelude.{ℕ, ◌%◌, Bool, ◌==◌, slice_index}
use Rattle.octets.specs.Octets.{Octets, big, part}
use Rattle.frame.specs.declared.addresses.Address.{Address}

-- the address that stands at a place of a frame
abbrev pub address_at : ℕ → Octets → Address
address_at at frame = record { octets = part at 6 frame }

-- as a number, the first octet highest
abbrev pub number : Address → ℕ
number a = big a.octets

-- a group of stations: bit 0 of the first octet
abbrev pub is_group : Address → Bool
is_group a = slice_index a.octets 0 % 2 == 1
