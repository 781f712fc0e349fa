use Rattle.std.proofs.Common.{◌≡◌}
use Rattle.vectors.specs.Repeating.{repeated}
use Rattle.vectors.proofs.michael_cases.repeated.Given as goal

abbrev pub invariant-loop : goal.invariant-loop
invariant-loop l = l.state ≡ repeated l.counter l.initial.state
