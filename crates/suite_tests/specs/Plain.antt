-- A suite for tests: the head is the counter and the key ID, the piece stands in the clear, the tail is the first octet
-- of the key. The mark is that the key ID is below four.
use Rattle.std.specs.Prelude.{ℕ, ◌-◌, ◌%◌, cond, [], ◌∷◌, ◌++◌, length, Ok, Err, Result, ◌==◌, nat_lt, slice_index}
use Rattle.octets.specs.Octets.{Octets, part}
use Rattle.frame.specs.declared.addresses.Address.{Address}
use Rattle.suite.specs.Meaning.{Meaning, meaning}
use Rattle.suite.specs.declared.sizes.Sizes.{Sizes}
use Rattle.suite.specs.declared.sizes.Direction.{Direction}
use Rattle.suite.specs.declared.faults.HeadFault.{HeadFault}
use Rattle.suite.specs.declared.faults.HeadFault.TheVariants.{Short, Unmarked}
use Rattle.suite.specs.declared.faults.OpenFault.{OpenFault}
use Rattle.suite.specs.declared.faults.OpenFault.TheVariants.{Long, Unequal}

abbrev pub plain_sizes : Sizes
plain_sizes = record { head = 2; tail = 1; code = 1; key = 4; top = 255 }

abbrev pub plain_code : Octets → Direction → Address → Address → ℕ → Octets → Octets
plain_code key direction destination source priority message = (length message % 256) ∷ []

abbrev pub plain_seal : Octets → Octets → ℕ → ℕ → Octets → Octets
plain_seal key header id counter piece = counter ∷ id ∷ (piece ++ (slice_index key 0 ∷ []))

abbrev pub plain_head : Octets → Result (ℕ × ℕ) HeadFault
plain_head body =
    cond (nat_lt (length body) 4) (Err Short) (cond (nat_lt (slice_index body 1) 4) (Ok (slice_index body 0, slice_index body 1)) (Err Unmarked))

abbrev pub plain_open : Octets → Octets → Octets → Result Octets OpenFault
plain_open key header body =
    cond (nat_lt 2315 (length body)) (Err Long) (cond (slice_index body (length body - 1) == slice_index key 0) (Ok (part 2 (length body - 3) body)) (Err Unequal))

abbrev pub plain : Meaning
plain = meaning plain_sizes plain_code plain_seal plain_head plain_open
