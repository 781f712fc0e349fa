use Rattle.std.proofs.Common.{◌≡◌, ℕ, ◌+◌, ◌%◌, ◌≤◌, List, [], ◌∷◌, ◌++◌, length, get_or, sym, refl, ap, ◌∙◌, arith, Iter, Some, length-append}
use Rattle.std.specs.Option.{option_map}
use Rattle.std.proofs.Math.Nat.{lt_of_not-le}
use Rattle.std.proofs.iter.runs.Made.{run_of_turn, run_of_exit}
use Rattle.rc4.specs.Rc4.{key_turns, key_move, scheduled}
use Rattle.rc4.proofs.Tables.{pair, turn_more}
use Rattle.rc4.proofs.Rc4.keyed.Goals as goal

twice_reduced : (a b : ℕ) → (a % 256 + b) % 256 ≡ (a + b) % 256
twice_reduced a b = omega arith

pub loop-i-init : goal.loop-i-init
unfolding key_turns
loop-i-init c = (ap (λ t. pair t 0) c.identity.ensures, refl, refl)

pub loop-i-preserved : goal.loop-i-preserved
loop-i-preserved c =
    let key = c.args.key.now in
    let n = length key in
    let i = c.in-Some.i in
    let m = length c.loop-i.yielded in
    let j = c.loop-i.j in
    let s = c.loop-i.state.table in
    let turn = run_of_turn _ _ _ _ c.loop-i.yielded_by (c.in-Some.i, c.in-Some.octet) c.next.new.self c.in-Some.ensures.steps in
    let en = c.enumerate-i-items.ensures.runs turn.0 turn.0.seen (turn.1 ∙ c.into_iter-i-iterator.ensures.into_iter_gives) in
    let tk = c.take.ensures.runs en.1.0 en.1.0.seen en.1.1 in
    let cy = c.cycle.ensures.runs tk.1.0 tk.1.0.seen tk.1.1 in
    let place : i ≡ m = rw turn.2.2 at (en.0 m) in
    let here : tk.1.0.at m ≡ Some c.in-Some.octet = tk.1.2.0.2 m ∙ en.1.2.0.2 m ∙ ap (option_map (λ x. x.1)) turn.2.2 in
    let round = rw here at ((cy.2 n m (λ r clone run t e.
    let size : length run.from.rest.now ≡ n = ap (λ (k : Iter ℕ). length k.rest.now) e ∙ ap length clone ∙ c.iter.ensures.len in
    let read = c.iter.ensures.runs run t in
    (omega (arith, read.0, size), λ w. read.1 w ∙ size))).1) in
    let run = round.2.0 in
    let rest : run.from.rest.now ≡ key = ap (λ (k : Iter ℕ). k.rest.now) round.2.1 ∙ round.1 ∙ c.iter.ensures.rest in
    let read : option_map (λ y. y.now) (run.at (m % n)) ≡ Some (get_or run.from.rest.now (m % n) 0) = (c.iter.ensures.runs run run.seen).2 (m % n) 0 round.2.2.0 in
    let given : option_map (λ y. y.now) (run.at (m % n)) ≡ Some c.in-Some.octet.now = ap (option_map (λ y. y.now)) round.2.2.1 in
    let key_octet : c.in-Some.octet.now ≡ get_or key (i % n) 0 = cc in
    let move : ((j + get_or s i 0) % 256 + c.in-Some.octet.now) % 256 ≡ key_move key i (s, j) =
    ap (λ k. ((j + get_or s i 0) % 256 + k) % 256) key_octet ∙ twice_reduced (j + get_or s i 0) (get_or key (i % n) 0) in
    let next : i + 1 ≡ length (c.loop-i.yielded ++ ((c.in-Some.i, c.in-Some.octet) ∷ [])) =
    omega (arith, place, length-append c.loop-i.yielded ((c.in-Some.i, c.in-Some.octet) ∷ [])) in
    (turn_more key s i j _ (c.loop-i.invariant.0 ∙ ap (key_turns key) (sym place)) move ∙ ap (key_turns key) next, c.loop-i.invariant.1, c.loop-i.invariant.2)

pub returns : goal.returns
unfolding scheduled
returns c =
    let end = run_of_exit _ c.into_iter-i-iterator.result _ _ c.loop-i.yielded_by c.next.new.self c.in-None.ensures.steps in
    let en = c.enumerate-i-items.ensures.runs end.0 end.0.seen (end.1 ∙ c.into_iter-i-iterator.ensures.into_iter_gives) in
    let tk = c.take.ensures.runs en.1.0 en.1.0.seen en.1.1 in
    let cy = c.cycle.ensures.runs tk.1.0 tk.1.0.seen tk.1.1 in
    let never : ¬ (length c.loop-i.yielded ≤ 255) = λ h.
    let round = cy.0 (tk.1.2.1 (en.1.2.1 ∙ end.2) (omega (arith, h, end.3.1, en.1.2.0.0))) in
    let run = round.2.0 in
    let empty = (c.iter.ensures.runs run run.seen).1 round.2.2 in
    let size : length run.from.rest.now ≡ length c.args.key.now = ap (λ (k : Iter ℕ). length k.rest.now) round.2.1 ∙ ap length round.1 ∙ c.iter.ensures.len in
    absurd (omega (arith, empty, size, round.2.3)) in
    let all : length c.loop-i.yielded ≡ 256 = omega (arith, lt_of_not-le never, end.3.1, en.1.2.0.0, tk.0) in
    let table : c.loop-i.state.table ≡ (key_turns c.args.key.now 256).0 =
    ap (λ (s : List ℕ × ℕ). s.0) (c.loop-i.invariant.0 ∙ ap (key_turns c.args.key.now) all) in
    λ k. record { table = table k; i = c.loop-i.invariant.1 k; j = c.loop-i.invariant.2 k }
