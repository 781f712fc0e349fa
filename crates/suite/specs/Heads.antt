-- What the heads of TKIP and CCMP have in common: their fourth octet has the mark, bit 5, and the key ID, bits 6 and 7.
use Rattle.std.specs.Prelude.{ℕ, ◌+◌, ◌*◌, ◌/◌, ◌%◌, cond, length, Ok, Err, Result, ◌==◌, nat_lt, slice_index}
use Rattle.octets.specs.Octets.{Octets}
use Rattle.suite.specs.declared.faults.HeadFault.{HeadFault}
use Rattle.suite.specs.declared.faults.HeadFault.TheVariants.{Short, Unmarked}

abbrev pub key_id_octet : ℕ → ℕ
key_id_octet id = id * 64 + 32

-- the key ID in a body that has so many octets at least
abbrev pub key_id_in : ℕ → Octets → Result ℕ HeadFault
key_id_in least body =
    cond (nat_lt (length body) least) (Err Short) (cond (slice_index body 3 / 32 % 2 == 1) (Ok (slice_index body 3 / 64)) (Err Unmarked))
