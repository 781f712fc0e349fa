-- What a send's checks say where none applies, and what a refusal and a grant say at the sizes of a suite.
use Rattle.std.proofs.Common.{◌≡◌, ℕ, ◌+◌, ◌-◌, ◌*◌, ◌<◌, ◌≤◌, Bool, true, false, cond, List, [], ◌∷◌, length, Ok, Err, Result, refl, ap, ◌∙◌, add-mul, one-mul, arith}
use Rattle.std.proofs.lemmas.Bool.{ltb-false}
use Rattle.std.proofs.lemmas.Grind.{div_ceil_times}
use Rattle.suite.specs.Laws.{Bounded}
use Rattle.suite.specs.declared.sizes.Sizes.{Sizes}
use Rattle.ends.specs.declared.places.Place.{Place}
use Rattle.ends.specs.declared.places.Place.TheVariants.{Pairwise, Group}
use Rattle.ends.specs.declared.refusals.Refusal.{Refusal}
use Rattle.ends.specs.declared.requests.Plan.{Plan}
use Rattle.ends.specs.declared.requests.Request.{Request}
use Rattle.ends.specs.Places.{exists, key_id_of}
use Rattle.ends.specs.Holding.{Filling, End}
use Rattle.ends.specs.Calls.{Sending}
use Rattle.ends.specs.Checks.{Check, first}
use Rattle.ends.specs.Sends.{length_checks, supply_checks, pieces, plan_of, planned}
use Rattle.sending.specs.declared.plans.Outgoing.{Outgoing}
use Rattle.sending.specs.Outgoings.{outgoing, Ready, Granted}

-- no check of a list applies
abbrev NoneApplies : List Check → Type 0
NoneApplies [] = Unit {0}
NoneApplies (c ∷ cs) = (c.0 ≡ false) × NoneApplies cs

none_applies : (cs : List Check) → first cs (tt {0}) ≡ Ok tt → NoneApplies cs
none_applies [] e = tt
none_applies (c ∷ cs) e = go c.0 (first cs (tt {0})) (none_applies cs) e
  where
    go : (b : Bool) (l : Result (Unit {0}) Refusal) → (l ≡ Ok tt → NoneApplies cs) → cond b (Err c.1) l ≡ Ok tt → (b ≡ false) × NoneApplies cs
    go true l step e = cc
    go false l step e = (refl, step e)

-- there is a piece, and all but the last lie before the end
pieces_reach : (size m : ℕ) → 1 ≤ m → 1 ≤ size → (1 ≤ pieces size m) × ((pieces size m - 1) * m < size)
pieces_reach size m h s = reach (pieces size m) bounds.0 bounds.1
  where
    bounds : (size ≤ pieces size m * m) × (pieces size m * m < size + m)
    bounds = div_ceil_times size m h

    reach : (n : ℕ) → size ≤ n * m → n * m < size + m → (1 ≤ n) × ((n - 1) * m < size)
    reach n least most =
        let some : 1 ≤ n = grind arith in
        let whole : (n - 1 + 1) * m ≡ n * m = ap (λ j. j * m) (omega arith) in
        (some, omega (arith, add-mul (n - 1) 1 m, one-mul m))

key_id_small : (p : Place) → exists p ≡ true → key_id_of p ≤ 3
key_id_small (Pairwise n) e = omega arith
key_id_small (Group n) e = grind arith

-- what a grant lets the frames rely on
pub plan-ready : (z : Sizes) (e : End) (q : Request) (size frames index working : ℕ) → Bounded z → e.sequence < 4096 → (f : Filling) (p : Plan) → p ≡ plan_of z e q size f → exists q.place ≡ true → first (length_checks z size q.piece_length) (tt {0}) ≡ Ok tt → first (supply_checks z size p.count f.send frames index working) (tt {0}) ≡ Ok tt → Ready z p size frames index working
plan-ready z e q size frames index working bounded numbered f p is there long enough =
    let m = q.piece_length in
    let lengths = none_applies (length_checks z size m) long in
    let supply = none_applies (supply_checks z size p.count f.send frames index working) enough in
    let count : p.count ≡ pieces (size + z.code) m = ap (λ (p : Plan). p.count) is in
    let cut : p.piece_length ≡ m = ap (λ (p : Plan). p.piece_length) is in
    let id : p.key_id ≡ key_id_of q.place = ap (λ (p : Plan). p.key_id) is in
    let sequence : p.sequence ≡ e.sequence = ap (λ (p : Plan). p.sequence) is in
    let counter : p.counter ≡ f.send = ap (λ (p : Plan). p.counter) is in
    let least = ltb-false size 1 lengths.0 in
    let most = ltb-false 2304 size lengths.1.0 in
    let piece-least = ltb-false m 64 lengths.1.1.1.0 in
    let piece-most = ltb-false 2312 m lengths.1.1.1.1.0 in
    let few = ltb-false 16 (pieces (size + z.code) m) lengths.1.1.1.1.1.0 in
    let left = ltb-false (z.top + 1 - f.send) p.count supply.0 in
    let memory = ltb-false working 2560 supply.1.1.1.0 in
    let code = bounded.code_most in
    let reach = pieces_reach (size + z.code) m (omega arith) (omega arith) in
    let small = key_id_small q.place there in
    record {
      fits = record { few = omega arith; some = omega arith; most = omega arith; last = rw (count, cut) reach.1; id = omega arith; sequence = omega arith; counters = omega arith };
      frames_room = ltb-false frames _ supply.1.0;
      index_room = ltb-false index p.count supply.1.1.0;
      working_room = omega arith;
    }

-- what is planned for a call
abbrev pub planned_for : Sizes → End → Sending → Result (Filling × Plan) Refusal
planned_for z e s = planned z e s.request (length s.message) (length s.frames) (length s.index) (length s.working)

-- what a grant of a call says
abbrev pub Grants : Sizes → End → Sending → Outgoing → Type 0
Grants z e s o = Granted z e s.request (length s.message) (length s.frames) (length s.index) (length s.working) o

-- a refusal at sizes that are a suite's is one at the suite's
pub refused : (z z' : Sizes) (e : End) (s : Sending) (r : Refusal) → z ≡ z' → Err r ≡ outgoing (planned_for z e s) → planned_for z' e s ≡ Err r
refused z z' e s r same is = go (planned_for z' e s) (is ∙ ap (λ z. outgoing (planned_for z e s)) same)
  where
    go : (p : Result (Filling × Plan) Refusal) → Err r ≡ outgoing p → p ≡ Err r
    go (Ok x) e = cc
    go (Err x) e = cc
