use Rattle.std.proofs.Common.{◌≡◌, ◌++◌, drop}
use Rattle.octets.specs.Octets.{Octets}
use Rattle.michael.specs.Stages.{comes_to}
use Rattle.michael.proofs.stages.Addressed.few.Given as goal

abbrev pub invariant-loop-octet : goal.invariant-loop-octet
invariant-loop-octet l =
    (rest : Octets) → comes_to l.stage (drop l.octet-index l.octets ++ rest) ≡ comes_to l.initial.stage (l.octets ++ rest)
