use Rattle.std.proofs.Common.{◌≡◌}
use Rattle.aes.specs.Aes.{rounds}
use Rattle.aes.specs.Words.{held, round_keys}
use Rattle.aes.proofs.Aes128.encrypt_word.Given as goal

abbrev pub invariant-loop-key : goal.invariant-loop-key
invariant-loop-key l = held l.s ≡ rounds (round_keys l.self) (held l.initial.s) l.key-index
