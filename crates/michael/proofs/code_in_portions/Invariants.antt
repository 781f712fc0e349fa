use Rattle.std.proofs.Common.{◌≡◌, drop}
use Rattle.std.specs.List.{flat_map}
use Rattle.michael.specs.Stages.{comes_to}
use Rattle.michael.proofs.code_in_portions.Given as goal

abbrev pub invariant-loop-portion : goal.invariant-loop-portion
invariant-loop-portion l =
    comes_to l.stage (flat_map (λ x. x.now) (drop l.portion-index l.portions)) ≡ comes_to l.initial.stage (flat_map (λ x. x.now) l.portions)
