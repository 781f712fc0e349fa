use Rattle.std.proofs.Common.{◌≡◌, refl, ap, ◌∙◌, add-one, arith}
use Rattle.mixing.specs.Mixing.{rounded, rounds, phase1}
use Rattle.mixing.proofs.Keys.{phase1_part}
use Rattle.mixing.proofs.Phase1.mix.Goals as goal

pub loop-i-init : goal.loop-i-init
unfolding rounds
loop-i-init c = refl

pub loop-i-preserved : goal.loop-i-preserved
unfolding rounds
loop-i-preserved c = rw (add-one c.loop-i.i) (c.round.ensures ∙ ap (rounded c.array_at-temporal.result c.loop-i.i) c.loop-i.invariant)

pub returns : goal.returns
unfolding phase1
returns c =
    let temporal = c.array_at-temporal.result in
    let all : c.loop-i.i ≡ 8 = omega arith in
    c.loop-i.invariant ∙ ap (λ n. rounds temporal n c.start-words.result) all ∙ ap (rounds temporal 8) c.start-words.ensures
    ∙ ap (λ key. phase1 key c.args.transmitter.now c.args.upper) c.array_at-temporal.ensures
    ∙ phase1_part c.args.key.now c.args.transmitter.now c.args.upper
