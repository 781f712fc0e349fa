use Rattle.std.proofs.Common.{ap, ◌∙◌}
use Rattle.rc4.specs.Rc4.{scheduled, masked, covered}
use Rattle.rc4.proofs.Stream.{masked_twice}
use Rattle.rc4.proofs.cover.Goals as goal

pub returns-clause-twice : goal.returns-clause-twice
returns-clause-twice c =
    let key = c.args.key.now in
    let xs = c.args.octets.now in
    ap (covered key) (c.apply.ensures.octets ∙ ap (λ s. masked s xs) c.keyed-state.ensures) ∙ masked_twice (scheduled key) xs
