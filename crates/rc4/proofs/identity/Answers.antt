use Rattle.std.proofs.Common.{◌∙◌, map-id, rules}
use Rattle.std.proofs.lemmas.List.FromFn.{fill_by_all}
use Rattle.rc4.proofs.identity.Goals as goal

pub returns : goal.returns
returns c =
    let items = c.from_fn.ensures.items in
    fill_by_all (λ k. k) c.from_fn.result 256 0 items.long (λ k h. let called = (items.at k 0 h).2 in search rules) ∙ map-id _
