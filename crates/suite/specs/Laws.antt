-- What binds a suite. Keys, headers, bodies, pieces and messages are lists of octets (numbers below 256) of the lengths
-- that are asked for: of other lists the laws say nothing.
use Rattle.std.specs.Prelude.{◌≡◌, ℕ, ◌+◌, ◌^◌, ◌<◌, ◌≤◌, length, drop, Ok, Err, Result}
use Rattle.octets.specs.Octets.{Octets, AreOctets}
use Rattle.frame.specs.Headers.{header_length}
use Rattle.frame.specs.declared.addresses.Address.{Address}
use Rattle.suite.specs.Meaning.{Meaning, longest_piece, length_or_fault}
use Rattle.suite.specs.declared.sizes.Sizes.{Sizes}
use Rattle.suite.specs.declared.sizes.Direction.{Direction}
use Rattle.suite.specs.declared.faults.HeadFault.{HeadFault}
use Rattle.suite.specs.declared.faults.HeadFault.TheVariants.{Short, Unmarked}
use Rattle.suite.specs.declared.faults.OpenFault.{OpenFault}
use Rattle.suite.specs.declared.faults.OpenFault.TheVariants.{Long, Unequal}

-- octets, as many as asked for
pub record OctetsOf (n : ℕ) (xs : Octets) : Type 0 where
  pub long : length xs ≡ n
  pub octets : AreOctets xs

-- the limits on the five numbers
pub record Bounded (z : Sizes) : Type 0 where
  pub head_most : z.head ≤ 8
  pub tail_most : z.tail ≤ 8
  pub code_most : z.code ≤ 8
  pub key_most : z.key ≤ 32
  pub top_most : z.top < 2 ^ 48

-- what a code is reckoned of
pub record Codable (M : Meaning) (key : Octets) (destination source : Address) (priority : ℕ) (message : Octets) : Type 0 where
  pub key_fits : OctetsOf M.sizes.key key
  pub destination_fits : OctetsOf 6 destination.octets
  pub source_fits : OctetsOf 6 source.octets
  pub priority_fits : priority < 256
  pub message_fits : AreOctets message

-- what can be sealed
pub record Sealable (M : Meaning) (key header : Octets) (id counter : ℕ) (piece : Octets) : Type 0 where
  pub key_fits : OctetsOf M.sizes.key key
  pub header_fits : OctetsOf header_length header
  pub id_fits : id ≤ 3
  pub counter_fits : counter ≤ M.sizes.top
  pub some : 1 ≤ length piece
  pub most : length piece ≤ longest_piece
  pub piece_fits : AreOctets piece

-- a body that head accepts, under a key and a header
pub record Openable (M : Meaning) (key header body : Octets) (id counter : ℕ) : Type 0 where
  pub key_fits : OctetsOf M.sizes.key key
  pub header_fits : OctetsOf header_length header
  pub body_fits : AreOctets body
  pub accepted : M.head body ≡ Ok (counter, id)

-- head refuses exactly a body that is too short (short), or else one without the mark (unmarked); what it reads is in range
abbrev pub Heads : Sizes → Octets → Result (ℕ × ℕ) HeadFault → Type 0
Heads z body (Ok (counter, id)) = (z.head + 1 + z.tail ≤ length body) × (counter ≤ z.top) × (id ≤ 3)
Heads z body (Err Short) = length body < z.head + 1 + z.tail
Heads z body (Err Unmarked) = z.head + 1 + z.tail ≤ length body

-- what open answers fits the body: the length of what stands between head and tail; long for a body that no piece could
-- fill; otherwise unequal
abbrev pub Opens : Sizes → Octets → Result ℕ OpenFault → Type 0
Opens z body (Ok n) = (z.head + n + z.tail ≡ length body) × (1 ≤ n) × (n ≤ longest_piece)
Opens z body (Err Long) = z.head + longest_piece + z.tail < length body
Opens z body (Err Unequal) = length body ≤ z.head + longest_piece + z.tail

-- sealing this piece gives this body beyond its first octets, the head
abbrev pub SealsTo : Meaning → Octets → Octets → ℕ → ℕ → Octets → Octets → Type 0
SealsTo M key header id counter piece body =
    drop M.sizes.head (M.seal key header id counter piece) ≡ drop M.sizes.head body

pub record Keeps (M : Meaning) : Type 0 where
  pub bounded : Bounded M.sizes
  pub code_length : (key : Octets) (direction : Direction) (destination source : Address) (priority : ℕ) (message : Octets) → Codable M key destination source priority message → length (M.code key direction destination source priority message) ≡ M.sizes.code
  pub code_octets : (key : Octets) (direction : Direction) (destination source : Address) (priority : ℕ) (message : Octets) → Codable M key destination source priority message → AreOctets (M.code key direction destination source priority message)
  pub seal_length : (key header : Octets) (id counter : ℕ) (piece : Octets) → Sealable M key header id counter piece → length (M.seal key header id counter piece) ≡ M.sizes.head + length piece + M.sizes.tail
  pub seal_octets : (key header : Octets) (id counter : ℕ) (piece : Octets) → Sealable M key header id counter piece → AreOctets (M.seal key header id counter piece)
  pub head_says : (body : Octets) → AreOctets body → Heads M.sizes body (M.head body)
  -- head reads from a sealed body the counter and the key ID that it was sealed with
  pub head_of_sealed : (key header : Octets) (id counter : ℕ) (piece : Octets) → Sealable M key header id counter piece → 1 ≤ counter → M.head (M.seal key header id counter piece) ≡ Ok (counter, id)
  -- open gives a piece exactly when sealing it, under the counter and key ID read, gives the body beyond its head
  pub opens_sealed : (key header body piece : Octets) (id counter : ℕ) → Openable M key header body id counter → Sealable M key header id counter piece → SealsTo M key header id counter piece body → M.opens key header body ≡ Ok piece
  pub sealed_if_opens : (key header body piece : Octets) (id counter : ℕ) → Openable M key header body id counter → M.opens key header body ≡ Ok piece → Sealable M key header id counter piece × SealsTo M key header id counter piece body
  pub open_says : (key header body : Octets) (id counter : ℕ) → Openable M key header body id counter → Opens M.sizes body (length_or_fault (M.opens key header body))

-- no second piece seals to a body
abbrev pub OnePiece : Meaning → Type 0
OnePiece M =
    (key header body piece other : Octets) (id counter : ℕ) → Openable M key header body id counter → Sealable M key header id counter piece → SealsTo M key header id counter piece body → Sealable M key header id counter other → SealsTo M key header id counter other body → piece ≡ other

-- a body that is longer than any sealed one is refused as long
abbrev pub LongRefused : Meaning → Type 0
LongRefused M =
    (key header body : Octets) (id counter : ℕ) → Openable M key header body id counter → M.sizes.head + longest_piece + M.sizes.tail < length body → M.opens key header body ≡ Err Long
