use Rattle.std.proofs.Common.{arith, rules}
use Rattle.std.proofs.lemmas.List.FromFn.{fill_by_all}
use Rattle.mixing.specs.Mixing.{word}
use Rattle.mixing.proofs.Words.{filled}
use Rattle.mixing.proofs.steps.words_of.Goals as goal

pub returns : goal.returns
returns g c =
    let octets = c.args.octets.now in
    let made = c.from_fn.ensures.items in
    fill_by_all (word octets) c.from_fn.result g.row.N 0 made.long (λ k below. filled _ _ (word octets) (λ i y q called. search rules) _ 0 g.row.N made.each k (omega arith) (omega arith))
