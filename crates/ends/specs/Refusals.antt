-- The refusals by number, and the one for a frame without a data frame's header.
use Rattle.std.specs.Prelude.{ℕ}
use Rattle.frame.specs.declared.headers.HeaderFault.{HeaderFault}
use Rattle.frame.specs.declared.headers.HeaderFault.TheVariants.{Short, NotData}
use Rattle.ends.specs.declared.refusals.Refusal.{Refusal}
use Rattle.ends.specs.declared.refusals.Refusal.TheVariants.{ClockRange, NoSuchPlace, WrongAddress, KeyLength, StartAboveTop, SuiteBlocked, PlaceTaken, PlaceEmpty, MessageLength, PieceLength, CountersSpent, MemoryShort, FrameLength, NotForThisEnd, Unprotected, ArrivalBlocked, HeadRefused, NoMatch, Replayed, OutOfTurn, OpenRefused, AssembledLength, CodeFailed, BlockBegun}

abbrev pub refusal_number : Refusal → ℕ
refusal_number ClockRange = 1
refusal_number NoSuchPlace = 2
refusal_number WrongAddress = 3
refusal_number KeyLength = 4
refusal_number StartAboveTop = 5
refusal_number SuiteBlocked = 6
refusal_number PlaceTaken = 7
refusal_number PlaceEmpty = 8
refusal_number MessageLength = 9
refusal_number PieceLength = 10
refusal_number CountersSpent = 11
refusal_number MemoryShort = 12
refusal_number FrameLength = 13
refusal_number NotForThisEnd = 14
refusal_number Unprotected = 15
refusal_number ArrivalBlocked = 16
refusal_number (HeadRefused fault) = 17
refusal_number NoMatch = 18
refusal_number (Replayed place fragment) = 19
refusal_number (OutOfTurn place fragment) = 20
refusal_number (OpenRefused place fragment fault) = 21
refusal_number (AssembledLength place fragment) = 22
refusal_number (CodeFailed place fragment) = 23
refusal_number (BlockBegun place fragment) = 24

abbrev pub header_refusal : HeaderFault → Refusal
header_refusal Short = FrameLength
header_refusal NotData = NotForThisEnd
