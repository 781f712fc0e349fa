-- How long the piece of a body is, or why there is none.
use Rattle.std.specs.Prelude.{ℕ, length, Ok, Err, Result}
use Rattle.octets.specs.Octets.{Octets}
use Rattle.suite.specs.declared.faults.HeadFault.{HeadFault}
use Rattle.suite.specs.declared.faults.OpenFault.{OpenFault}
use Rattle.suite.specs.declared.faults.PieceFault.{PieceFault}
use Rattle.suite.specs.declared.faults.PieceFault.TheVariants.{Head, Open}

-- from what head and open answer
abbrev pub piece_length : Result (ℕ × ℕ) HeadFault → Result Octets OpenFault → Result ℕ PieceFault
piece_length (Ok p) (Ok piece) = Ok (length piece)
piece_length (Ok p) (Err fault) = Err (Open fault)
piece_length (Err fault) opened = Err (Head fault)
