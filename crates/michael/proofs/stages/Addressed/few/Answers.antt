use Rattle.std.proofs.Common.{◌+◌, ◌++◌, drop, sym, ◌∙◌}
use Rattle.octets.specs.Octets.{Octets}
use Rattle.std.proofs.lemmas.List.{at_drop_more}
use Rattle.michael.specs.Stages.{comes_to}
use Rattle.michael.proofs.stages.Addressed.few.Goals as goal

pub loop-octet-preserved : goal.loop-octet-preserved
loop-octet-preserved c rest =
    let octets = c.args.octets.now in
    let i = c.loop-octet.octet-index in
    c.octet-stage.ensures (drop (i + 1) octets ++ rest)
    ∙ sym (at_drop_more (λ (xs : Octets). comes_to c.loop-octet.stage (xs ++ rest)) octets i 0 c.loop-octet-test.true)
    ∙ c.loop-octet.invariant rest
