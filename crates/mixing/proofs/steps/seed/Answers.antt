use Rattle.std.proofs.Common.{◌∙◌, ap, rules}
use Rattle.octets.specs.Octets.{written}
use Rattle.mixing.proofs.Laying.{mapped}
use Rattle.mixing.proofs.steps.seed.Goals as goal

pub returns : goal.returns
returns c =
    let octets = c.as_flattened.ensures.value ∙ mapped _ _ c.args.words.now c.map.result 6 c.map.ensures.items (search rules) (λ p q w y called. search rules) in
    c.put-2.ensures ∙ ap (λ l. written 4 l c.put.new.memory) octets ∙ search rules
