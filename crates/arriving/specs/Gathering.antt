-- The octets that stand in working memory once a piece was opened and joined to what came before it.
use Rattle.std.specs.Prelude.{◌≡◌, ℕ, ◌≤◌, true, ◌++◌, length, take, drop, is_ok, Ok, Err, Result}
use Rattle.octets.specs.Octets.{Octets}
use Rattle.frame.specs.Headers.{header_length}
use Rattle.frame.specs.declared.headers.Header.{Header}
use Rattle.suite.specs.Meaning.{Meaning}
use Rattle.suite.specs.declared.faults.OpenFault.{OpenFault}
use Rattle.suite.specs.declared.faults.PieceFault.{PieceFault}
use Rattle.suite.specs.declared.faults.PieceFault.TheVariants.{Head, Open}
use Rattle.ends.specs.declared.places.Place.{Place}
use Rattle.ends.specs.declared.refusals.Refusal.{Refusal}
use Rattle.ends.specs.declared.refusals.Refusal.TheVariants.{HeadRefused, OpenRefused}
use Rattle.ends.specs.Holding.{Filling}
use Rattle.ends.specs.Checks.{first, then, last_time}
use Rattle.ends.specs.Arrivals.{turn_checks, opened, prior, assembly_checks}

-- of a frame that was admitted, the time and the length
pub record Admissible (time frame : ℕ) : Type 0 where
  pub clock : time ≤ last_time
  pub least : header_length ≤ frame
  pub most : frame ≤ 2352

-- a frame whose head the suite read, and which fits a working memory
pub record Ready (M : Meaning) (frame : Octets) : Type 0 where
  pub accepted : is_ok (M.head (drop header_length frame)) ≡ true
  pub least : header_length ≤ length frame
  pub most : length frame ≤ 2352

-- what a function answers that writes octets to the start of a memory: how many, or why there are none
abbrev pub Gives : {E : Type 0} → Result Octets E → Result ℕ E → Octets → Type 0
Gives octets (Ok n) memory = (n ≤ length memory) × (octets ≡ Ok (take n memory))
Gives octets (Err fault) memory = octets ≡ Err fault

-- how long an opened piece is, or its fault; and that fault as a refusal at a place
abbrev pub piece_length : Result Octets OpenFault → Result ℕ PieceFault
piece_length (Ok piece) = Ok (length piece)
piece_length (Err fault) = Err (Open fault)

abbrev pub refused_at : Place → ℕ → PieceFault → Refusal
refused_at q fragment (Head fault) = HeadRefused fault
refused_at q fragment (Open fault) = OpenRefused q fragment fault

-- a piece in turn, behind what came before it, where their lengths allow it
abbrev pub gathered : Meaning → Place → Filling → Header → Octets → ℕ → Result Octets Refusal
gathered M q f h frame counter =
    then (first (turn_checks q f h counter) (tt {0})) (λ _.
    then (opened M q f h frame) (λ piece.
    first (assembly_checks q h M.sizes.code (length (prior f h ++ piece))) (prior f h ++ piece)))
