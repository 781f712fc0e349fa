use Rattle.std.proofs.Common.{◌<◌, [], ◌∷◌, ◌++◌, get_or, refl, ap, ◌∙◌, rules}
use Rattle.sbox.specs.Field.{sub}
use Rattle.aes.specs.Aes.{next_key}
use Rattle.aes.specs.Words.{quad, held}
use Rattle.aes.proofs.Quads.{quad-written, quad-sum, quad-octet}
use Rattle.aes.proofs.next_key.Goals as goal

pub returns : goal.returns
unfolding held next_key
returns c =
    let key = c.args.key in
    let x = c.args.x in
    let octet : x < 256 = search rules in
    let turned =
    quad-written _ _ _ _ _ c.substitute.type_inv c.substitute-2.type_inv c.substitute-3.type_inv c.substitute-4.type_inv c.from_le_bytes-turned.ensures
    ∙ (λ i. c.substitute.ensures.value i ∷ c.substitute-2.ensures.value i ∷ c.substitute-3.ensures.value i ∷ c.substitute-4.ensures.value i ∷ [])
    ∙ ap (λ w. sub (get_or w 1 0) ∷ sub (get_or w 2 0) ∷ sub (get_or w 3 0) ∷ sub (get_or w 0 0) ∷ []) c.to_le_bytes.ensures
    in
    let constant = ap quad c.from.ensures ∙ quad-octet x octet in
    let first = quad-sum key.a _ _ _ refl (quad-sum c.from_le_bytes-turned.result c.from.result _ _ turned constant) in
    let second = quad-sum key.b _ _ _ refl first in
    let third = quad-sum key.c _ _ _ refl second in
    let fourth = quad-sum key.d _ _ _ refl third in
    λ i. first i ++ second i ++ third i ++ fourth i
