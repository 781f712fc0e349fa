use Rattle.std.proofs.Common.{ap, ◌∙◌, rules}
use Rattle.mixing.specs.Mixing.{substituted, around, numbered}
use Rattle.mixing.proofs.steps.round.Goals as goal

pub returns : goal.returns
returns c =
    ap (numbered c.args.i) (c.go_around.ensures substituted (λ x y small called. search rules) ∙ ap (λ keys. around substituted keys c.args.words.now) c.round_keys.ensures)
