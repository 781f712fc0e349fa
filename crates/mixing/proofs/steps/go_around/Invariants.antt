use Rattle.std.proofs.Common.{◌≡◌, ℕ, ◌^◌, ◌<◌, length}
use Rattle.mixing.proofs.Chain.{Going}
use Rattle.mixing.proofs.steps.go_around.Given as goal

abbrev pub invariant-loop-n : goal.invariant-loop-n
invariant-loop-n g l =
    goal.F-IsAlwaysCallable g l.give
    × (length l.words ≡ length l.initial.words)
    × ((gives : ℕ → ℕ) → ((x y : ℕ) → x < 2 ^ 16 → goal.F-post g l.give x y → y ≡ gives x) → Going gives l.keys l.initial.words l.n l.before l.words)
