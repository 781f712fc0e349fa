use Rattle.std.proofs.Common.{◌≡◌, ◌<◌, length, refl, ◌∙◌, arith, rules}
use Rattle.aes.specs.Aes.{rounds}
use Rattle.aes.specs.Words.{round_keys}
use Rattle.aes.proofs.Rounds.{round_is, last_is, more, whole, key_at, inner_key}
use Rattle.aes.proofs.Aes128.encrypt_word.Goals as goal

pub loop-key-init : goal.loop-key-init
unfolding rounds
loop-key-init c = refl

pub loop-key-preserved : goal.loop-key-preserved
unfolding round_keys
loop-key-preserved c =
    let keys = c.args.self.now.keys in
    let long : length keys ≡ 11 = search rules in
    let n = c.loop-key.key-index in
    let within : n < 9 = omega arith in
    more (round_keys c.args.self.now) _ n _ _ _ (inner_key keys n _ long within) c.loop-key.invariant
    (c.round-s.ensures ∙ round_is _ c.loop-key.s)

pub returns : goal.returns
unfolding round_keys
returns c =
    let keys = c.args.self.now.keys in
    let long : length keys ≡ 11 = search rules in
    let nine : c.loop-key.key-index ≡ 9 = omega arith in
    whole (round_keys c.args.self.now) _ _ _ _ _ _ _ c.loop-key.key-index c.from.ensures (key_at keys 0 _ (omega arith)) c.bitxor-s.ensures
    c.loop-key.invariant nine (key_at keys 10 _ (omega arith)) (c.into.ensures ∙ c.round.ensures ∙ last_is _ c.loop-key.s)
