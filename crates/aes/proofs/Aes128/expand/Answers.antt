use Rattle.std.proofs.Common.{◌≡◌, ℕ, ◌+◌, ◌<◌, List, [], map, length, get_or, set, sym, refl, ap, ◌∙◌, subst, add-one, arith, rules, length-set}
use Rattle.std.proofs.lemmas.List.FromFn.{fill_by_all}
use Rattle.std.proofs.lemmas.List.{length-map, map-set}
use Rattle.std.proofs.lemmas.List.Edits.{fill_by_more}
use Rattle.sbox.specs.Field.{xtime}
use Rattle.aes.proofs.Rules.{constant, rcon_rule}
use Rattle.aes.specs.Aes.{rcon, next_key, round_key, expanded}
use Rattle.aes.specs.Words.{held, round_keys}
use Rattle.aes.specs.declared.state.State.{State}
use Rattle.aes.proofs.Rounds.{key_at}
use Rattle.aes.proofs.Aes128.expand.Goals as goal

-- round key n + 1, from the constant and round key n
next : (key : List ℕ) (n x : ℕ) (k v : List ℕ) → x ≡ rcon n → k ≡ round_key key n → v ≡ next_key x k → v ≡ round_key key (n + 1)
unfolding round_key
next key n x k v p q r = r ∙ (λ i. next_key (p i) (q i)) ∙ ap (round_key key) (sym (add-one n))

-- one more round key is written
more : (f : ℕ → List ℕ) (ks : List State) (n : ℕ) (b : State) → n < length ks → held b ≡ f n
    → ((k : ℕ) → k < n → get_or (map held ks) k [] ≡ f k) → (k : ℕ) → k < n + 1 → get_or (map held (set ks n b)) k [] ≡ f k
more f ks n b within is below =
    let within' : n < length (map held ks) = rw (length-map ks held) within in
    subst (λ xs. (k : ℕ) → k < n + 1 → get_or xs k [] ≡ f k) (ap (set (map held ks) n) (sym is) ∙ sym (map-set held ks n b))
    (fill_by_more f (map held ks) n [] within' below)

pub loop-n-init : goal.loop-n-init
unfolding round_key
loop-n-init c = (refl, λ k h. let none : k ≡ 0 = omega arith in rw none (c.from-keys.ensures ∙ c.load.ensures))

pub loop-n-preserved : goal.loop-n-preserved
unfolding constant rcon xtime
loop-n-preserved c =
    let inv = c.loop-n.invariant in
    let keys = c.loop-n.keys in
    let n = c.loop-n.n in
    let key = c.args.key.now in
    let long = inv.0 in
    let here = key_at keys n _ (omega arith) ∙ inv.1 n (omega arith) in
    let v : held c.next_key.result ≡ round_key key (n + 1) = next key n _ _ _ (search (rules, rcon_rule)) here c.next_key.ensures in
    (length-set keys (n + 1) _ ∙ inv.0, more (round_key key) keys (n + 1) _ (omega arith) v inv.1)

pub returns : goal.returns
unfolding round_keys expanded
returns c =
    let keys = c.loop-n.keys in
    fill_by_all (round_key c.args.key.now) (map held keys) 11 [] (length-map keys held ∙ c.loop-n.invariant.0) (λ k h. c.loop-n.invariant.1 k (omega arith))
