use Rattle.std.proofs.Common.{◌≡◌, ◌+◌, List, [], ◌++◌, drop, sym, ap, ◌∙◌, Bor}
use Rattle.std.specs.List.{flat_map}
use Rattle.std.proofs.lemmas.List.{at_drop_more, at_drop_all}
use Rattle.octets.specs.Octets.{Octets}
use Rattle.michael.specs.Michael.{ends_in, heading, key_state, code_octets}
use Rattle.michael.specs.Stages.{comes_to}
use Rattle.michael.proofs.code_in_portions.Goals as goal

pub loop-portion-preserved : goal.loop-portion-preserved
loop-portion-preserved c =
    let portions = c.args.portions.now in
    let i = c.loop-portion.portion-index in
    c.portion-stage.ensures (flat_map (λ x. x.now) (drop (i + 1) portions))
    ∙ sym (at_drop_more (λ (ps : List (Bor Octets)). comes_to c.loop-portion.stage (flat_map (λ x. x.now) ps)) portions i _ c.loop-portion-test.true)
    ∙ c.loop-portion.invariant

pub returns : goal.returns
returns c =
    let portions = c.args.portions.now in
    let before = heading c.args.heading.now.destination c.args.heading.now.source c.args.heading.now.priority in
    let used-up = at_drop_all (λ (ps : List (Bor Octets)). comes_to c.loop-portion.stage (flat_map (λ x. x.now) ps)) portions c.loop-portion.portion-index c.loop-portion-test.false in
    let begun = ◌∙◌ {b = ends_in c.new.result.state (before ++ flat_map (λ x. x.now) portions)} (c.address-stage.ensures (flat_map (λ x. x.now) portions)) (ap (λ s. ends_in s (before ++ flat_map (λ x. x.now) portions)) c.new.ensures) in
    let same : comes_to c.loop-portion.stage [] ≡ ends_in (key_state c.args.key.now) (before ++ flat_map (λ x. x.now) portions) = sym used-up ∙ c.loop-portion.invariant ∙ begun in
    ◌∙◌ {b = code_octets (comes_to c.loop-portion.stage [])} c.end.ensures (ap code_octets same)
