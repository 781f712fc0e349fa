use Rattle.std.proofs.Common.{◌≡◌}
use Rattle.mixing.specs.Mixing.{rounds}
use Rattle.mixing.proofs.Phase1.mix.Given as goal

abbrev pub invariant-loop-i : goal.invariant-loop-i
invariant-loop-i l = l.words ≡ rounds l.temporal l.i l.initial.words
