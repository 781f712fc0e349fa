use Rattle.std.proofs.Common.{◌≡◌, ℕ, ◌+◌, ◌<◌, [], map, length, get_or}
use Rattle.aes.specs.Aes.{round_key}
use Rattle.aes.specs.Words.{held}
use Rattle.aes.proofs.Aes128.expand.Given as goal

abbrev pub invariant-loop-n : goal.invariant-loop-n
invariant-loop-n l = (length l.keys ≡ 11) × ((k : ℕ) → k < l.n + 1 → get_or (map held l.keys) k [] ≡ round_key l.key k)
