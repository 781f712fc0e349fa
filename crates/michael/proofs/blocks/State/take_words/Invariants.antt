use Rattle.std.proofs.Common.{◌≡◌, map, drop}
use Rattle.std.specs.Int.{w32, from_le_bytes}
use Rattle.michael.specs.Michael.{chain}
use Rattle.michael.proofs.blocks.State.take_words.Given as goal

abbrev pub invariant-loop-word : goal.invariant-loop-word
invariant-loop-word l =
    chain l.state (map (from_le_bytes w32) (drop l.word-index l.words)) ≡ chain l.initial.state (map (from_le_bytes w32) l.words)
