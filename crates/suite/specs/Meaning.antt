-- What a suite means: its five numbers and its four functions, which depend on what they are given and on nothing else.
use Rattle.std.specs.Prelude.{ℕ, ◌-◌, length, replicate, Ok, Err, Result}
use Rattle.octets.specs.Octets.{Octets, begins}
use Rattle.frame.specs.declared.addresses.Address.{Address}
use Rattle.suite.specs.declared.sizes.Sizes.{Sizes}
use Rattle.suite.specs.declared.sizes.Direction.{Direction}
use Rattle.suite.specs.declared.faults.HeadFault.{HeadFault}
use Rattle.suite.specs.declared.faults.OpenFault.{OpenFault}
use Rattle.suite.specs.declared.faults.OpenFault.TheVariants.{Long, Unequal}

pub record Meaning : Type 0 where
  pub sizes : Sizes
  -- key, direction, destination, source, priority, message: the code of the message
  pub code : Octets → Direction → Address → Address → ℕ → Octets → Octets
  -- key, header, key ID, counter, piece: the sealed body
  pub seal : Octets → Octets → ℕ → ℕ → Octets → Octets
  -- body: its counter and key ID
  pub head : Octets → Result (ℕ × ℕ) HeadFault
  -- key, header, body: the piece
  pub opens : Octets → Octets → Octets → Result Octets OpenFault

-- a meaning from its parts
abbrev pub meaning : Sizes → (Octets → Direction → Address → Address → ℕ → Octets → Octets) → (Octets → Octets → ℕ → ℕ → Octets → Octets) → (Octets → Result (ℕ × ℕ) HeadFault) → (Octets → Octets → Octets → Result Octets OpenFault) → Meaning
meaning sizes code seal head opens = record { sizes = sizes; code = code; seal = seal; head = head; opens = opens }

-- the longest piece that is sealed
abbrev pub longest_piece : ℕ
longest_piece = 2312

-- how many octets a body has between its head and its tail
abbrev pub inner_length : Sizes → Octets → ℕ
inner_length z body = length body - z.head - z.tail

-- what open answers: the piece's length, or the fault
abbrev pub length_or_fault : Result Octets OpenFault → Result ℕ OpenFault
length_or_fault (Ok piece) = Ok (length piece)
length_or_fault (Err fault) = Err fault

-- what open leaves in a memory: the piece at its start; nothing new where the body is too long; and zeros in place of
-- what came out of a body that no piece gives
abbrev pub left_by_open : Sizes → Octets → Result Octets OpenFault → Octets → Octets
left_by_open z body (Ok piece) old = begins piece old
left_by_open z body (Err Long) old = old
left_by_open z body (Err Unequal) old = begins (replicate (inner_length z body) 0) old
