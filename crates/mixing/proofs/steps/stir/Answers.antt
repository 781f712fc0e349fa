use Rattle.std.proofs.Common.{◌≡◌, [], ◌∷◌, get_or, ap, ◌∙◌, rules}
use Rattle.mixing.specs.Mixing.{substituted, turned, around, first_keys, last_keys}
use Rattle.mixing.proofs.Chain.{turned_from_or}
use Rattle.mixing.proofs.steps.stir.Goals as goal

pub returns : goal.returns
returns c =
    let key = c.args.key.now in
    let at = c.words_of.result in
    let first : (get_or at 0 0 ∷ get_or at 1 0 ∷ get_or at 2 0 ∷ get_or at 3 0 ∷ get_or at 4 0 ∷ get_or at 5 0 ∷ []) ≡ first_keys key =
    ap (λ ws. get_or ws 0 0 ∷ get_or ws 1 0 ∷ get_or ws 2 0 ∷ get_or ws 3 0 ∷ get_or ws 4 0 ∷ get_or ws 5 0 ∷ []) c.words_of.ensures in
    let last : (get_or at 6 0 ∷ get_or at 7 0 ∷ 0 ∷ 0 ∷ 0 ∷ 0 ∷ []) ≡ last_keys key =
    ap (λ ws. get_or ws 6 0 ∷ get_or ws 7 0 ∷ 0 ∷ 0 ∷ 0 ∷ 0 ∷ []) c.words_of.ensures in
    c.go_around-2.ensures turned (λ x y small called. search (rules, turned_from_or))
    ∙ ap (λ ws. around turned (get_or at 6 0 ∷ get_or at 7 0 ∷ 0 ∷ 0 ∷ 0 ∷ 0 ∷ []) ws) (c.go_around.ensures substituted (λ x y small called. search rules))
    ∙ (λ i. around turned (last i) (around substituted (first i) c.args.words.now))
