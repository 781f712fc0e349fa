use Rattle.std.proofs.Common.{◌≡◌, ℕ, List, length}
use Rattle.rc4.specs.Rc4.{key_turns}
use Rattle.rc4.proofs.Rc4.keyed.Given as goal

abbrev pub invariant-loop-i : goal.invariant-loop-i
invariant-loop-i l =
    (◌≡◌ {A = List ℕ × ℕ} (l.state.table, l.j) (key_turns l.key (length l.yielded))) × (l.state.i ≡ 0) × (l.state.j ≡ 0)
