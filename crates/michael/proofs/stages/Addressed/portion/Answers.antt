use Rattle.std.proofs.Common.{◌++◌, sym, ap, ◌∙◌}
use Rattle.std.proofs.lemmas.List.{append_assoc}
use Rattle.michael.specs.Stages.{comes_to}
use Rattle.michael.proofs.stages.Addressed.portion.Goals as goal

pub returns : goal.returns
returns c rest =
    let stage = c.args.self in
    let first = c.split_at.result.0.now in
    let others = c.split_at.result.1.now in
    c.many.ensures rest
    ∙ c.few.ensures (others ++ rest)
    ∙ ap (comes_to stage) (sym (append_assoc first others rest))
    ∙ sym (ap (λ xs. comes_to stage (xs ++ rest)) c.split_at.ensures.by_index.0)
