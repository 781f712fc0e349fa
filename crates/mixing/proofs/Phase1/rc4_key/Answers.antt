use Rattle.std.proofs.Common.{◌≡◌, [], ◌∷◌, ◌++◌, length, get_or, sym, ap, ◌∙◌, rules}
use Rattle.octets.proofs.Writing.{spelled}
use Rattle.mixing.specs.Mixing.{plus, stirred, seeded, phase2}
use Rattle.mixing.proofs.Keys.{phase2_part}
use Rattle.mixing.proofs.Phase1.rc4_key.Goals as goal

pub returns : goal.returns
unfolding phase2
returns c =
    let temporal = c.array_at-temporal.result in
    let ttak = c.args.self.now.words in
    let lower = c.args.lower in
    let five : length ttak ≡ 5 = search rules in
    let six = ap (λ ws. ws ++ (plus (get_or ttak 4 0) lower ∷ [])) (sym (spelled 5 ttak five)) in
    c.seed.ensures ∙ ap (λ ws. seeded temporal ws lower) (c.stir.ensures ∙ ap (stirred temporal) six)
    ∙ ap (λ key. phase2 key ttak lower) c.array_at-temporal.ensures
    ∙ phase2_part c.args.key.now ttak lower
