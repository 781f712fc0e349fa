-- The block function applied n times over.
use Rattle.std.specs.Prelude.{ℕ, zero, suc}
use Rattle.michael.specs.declared.blocks.State.{State}
use Rattle.michael.specs.Michael.{block}

abbrev pub repeated : ℕ → State → State
repeated zero s = s
repeated (suc n) s = block (repeated n s)
