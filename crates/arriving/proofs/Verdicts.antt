-- The verdict at a place, by what was gathered there.
use Rattle.std.proofs.Common.{◌≡◌, ℕ, Bool, true, false, cond, List, ◌++◌, length, Some, None, Ok, Err, Option, Result, sym, refl, ap, ◌∙◌, subst}
use Rattle.octets.specs.Octets.{Octets}
use Rattle.frame.specs.declared.headers.Header.{Header}
use Rattle.suite.specs.Meaning.{Meaning}
use Rattle.ends.specs.declared.places.Place.{Place}
use Rattle.ends.specs.declared.roles.Role.{Role}
use Rattle.ends.specs.declared.refusals.Refusal.{Refusal}
use Rattle.ends.specs.declared.refusals.Refusal.TheVariants.{NoMatch}
use Rattle.ends.specs.Holding.{Filling}
use Rattle.ends.specs.Calls.{Verdict}
use Rattle.ends.specs.Calls.Verdict.{Refuses, Fills, Empties, Sends, Holds, Delivers, Fails}
use Rattle.ends.specs.Checks.{Check, first, then, or_refuse, settled}
use Rattle.ends.specs.Arrivals.{turn_checks, opened, prior, assembly_checks, part_of, destination_in, source_in, message_in, code_agrees, completed, at_place}
use Rattle.admission.proofs.Reading.{first_then}
use Rattle.ends.specs.declared.answers.Arrived.{Arrived}
use Rattle.arriving.specs.declared.completing.Failure.{Failure}
use Rattle.arriving.specs.declared.completing.Failure.TheVariants.{Refused}
use Rattle.arriving.specs.Gathering.{gathered}
use Rattle.arriving.specs.Outcomes.{Takes}

then_through : {A B C : Type 0} (a : Result A Refusal) (first : A → Result B Refusal) (whole : A → Result C Refusal) (last : B → Result C Refusal) → ((x : A) → whole x ≡ then (first x) last) → then a whole ≡ then (then a first) last
then_through (Err r) first whole last e = refl
then_through (Ok x) first whole last e = e x

-- what a verdict at a place names: that place, and of a failed code fragment and time
abbrev pub Names : Place → ℕ → ℕ → Verdict → Type 0
Names q fragment time (Refuses r) = Unit {0}
Names q fragment time (Fills p f) = ⊥
Names q fragment time (Empties p) = ⊥
Names q fragment time (Sends p f frames) = ⊥
Names q fragment time (Holds p f part) = p ≡ q
Names q fragment time (Delivers p f counter destination source message) = p ≡ q
Names q fragment time (Fails p f n t) = (p ≡ q) × (n ≡ fragment) × (t ≡ time)

module _ (M : Meaning) (role : Role) (q : Place) (h : Header) (frame : Octets) (counter time : ℕ) where
  module _ (f : Filling) where
    by_gathered : at_place M role q h frame counter time f ≡ then (gathered M q f h frame counter) (λ whole. Ok (completed M role q f h counter time whole))
    unfolding at_place
    by_gathered =
        let checks : Octets → List Check = λ piece. assembly_checks q h M.sizes.code (length (prior f h ++ piece)) in
        let joined : Octets → Result Octets Refusal = λ piece. first (checks piece) (prior f h ++ piece) in
        let done : Octets → Result Verdict Refusal = λ piece. first (checks piece) (completed M role q f h counter time (prior f h ++ piece)) in
        let last : Octets → Result Verdict Refusal = λ whole. Ok (completed M role q f h counter time whole) in
        then_through (first (turn_checks q f h counter) (tt {0})) (λ _. then (opened M q f h frame) joined) (λ _. then (opened M q f h frame) done) last
        (λ _. then_through (opened M q f h frame) joined done last
        (λ piece. first_then (checks piece) (prior f h ++ piece) (completed M role q f h counter time)))

    pub refuses : (r : Refusal) (result : Result Arrived Failure) (old : Octets) → gathered M q f h frame counter ≡ Err r → result ≡ Err (Refused r) → Takes (settled (at_place M role q h frame counter time f)) (Some f) (Some f) old old result
    refuses r result old e is =
        let v : at_place M role q h frame counter time f ≡ Err r = by_gathered ∙ ap (λ (g : Result Octets Refusal). then g (λ whole. Ok (completed M role q f h counter time whole))) e in
        subst (λ (v : Result Verdict Refusal). Takes (settled v) (Some f) (Some f) old old result) (sym v) (record { told = is; place = refl; message = refl })

    pub completes : (whole : Octets) → gathered M q f h frame counter ≡ Ok whole → settled (at_place M role q h frame counter time f) ≡ completed M role q f h counter time whole
    completes whole e =
        ap settled (by_gathered ∙ ap (λ (g : Result Octets Refusal). then g (λ whole. Ok (completed M role q f h counter time whole))) e)

  pub names : (o : Option Filling) → Names q h.fragment time (settled (then (or_refuse NoMatch o) (at_place M role q h frame counter time)))
  names None = tt
  names (Some f) = subst (λ (v : Result Verdict Refusal). Names q h.fragment time (settled v)) (sym (by_gathered f)) (go (gathered M q f h frame counter))
    where
      pick : (more agrees : Bool) (whole : Octets) → Names q h.fragment time (cond more (Holds q f (part_of h counter whole)) (cond agrees (Delivers q f counter (destination_in role h) (source_in role h) (message_in M.sizes.code whole)) (Fails q f h.fragment time)))
      pick true agrees whole = refl
      pick false true whole = refl
      pick false false whole = (refl, refl, refl)

      go : (g : Result Octets Refusal) → Names q h.fragment time (settled (then g (λ whole. Ok (completed M role q f h counter time whole))))
      go (Err r) = tt
      go (Ok whole) = pick h.more_fragments (code_agrees M role f h whole) whole
