-- From what a place made of a frame to what the end makes of it.
use Rattle.std.proofs.Common.{◌≡◌, ℕ, Bool, true, false, cond, drop, Some, None, Ok, Err, Option, Result, sym, refl, ap, ◌∙◌, subst}
use mathlib.Core.Path.{fun_ext}
use Rattle.std.proofs.lemmas.Bool.{eqb-true, true≢false}
use Rattle.octets.specs.Octets.{Octets, begins}
use Rattle.frame.specs.Headers.{header_length}
use Rattle.frame.specs.declared.headers.Header.{Header}
use Rattle.suite.specs.Meaning.{Meaning}
use Rattle.suite.specs.declared.faults.HeadFault.{HeadFault}
use Rattle.ends.specs.declared.places.Place.{Place}
use Rattle.ends.specs.declared.places.Place.TheVariants.{Pairwise, Group}
use Rattle.ends.specs.declared.roles.CodedSuites.{CodedSuites}
use Rattle.ends.specs.declared.answers.Arrived.{Arrived}
use Rattle.ends.specs.declared.refusals.Refusal.{Refusal}
use Rattle.ends.specs.declared.refusals.Refusal.TheVariants.{HeadRefused, NoMatch}
use Rattle.ends.specs.Places.{same_place}
use Rattle.ends.specs.Holding.{Filling, End, put, with_places, with_place, with_partial}
use Rattle.ends.specs.Calls.{Verdict, told}
use Rattle.ends.specs.Calls.Verdict.{Refuses, Fills, Empties, Sends, Holds, Delivers, Fails}
use Rattle.ends.specs.Calls.Answer.{Refused, Came}
use Rattle.ends.specs.Checks.{then, raised, or_refuse, settled}
use Rattle.ends.specs.Arrivals.{matched, at_place, over_suite}
use Rattle.ends.specs.Steps.{answer, message_delivered, failing, failed, soon}
use Rattle.arriving.specs.declared.completing.Failure.{Failure}
use Rattle.arriving.specs.Outcomes.{Takes, Took, Arrives, left, outcome, finished, recorded}
use Rattle.arriving.proofs.Verdicts.{Names}

-- from the place to the end
pub took : (e e' : End) (q : Place) (was is : Option Filling) (verdict : Option Filling → Verdict) (old new : Octets) (r : Result Arrived Failure) → was ≡ e.at q → Takes (verdict was) was is old new r → e' ≡ with_place e q is → Took q (verdict (e.at q)) e e' old new r
took e e' q was is verdict old new r there takes holds = record {
  told = takes.told ∙ ap (λ (f : Option Filling). outcome (verdict f)) there;
  holds = holds ∙ ap (with_place e q) (takes.place ∙ ap (λ (f : Option Filling). left f (verdict f)) there);
  message = takes.message ∙ ap (λ (f : Option Filling). begins (message_delivered (verdict f)) old) there;
}

-- a place that is filled with what it holds
same_is : (p q : Place) → same_place p q ≡ true → q ≡ p
same_is (Pairwise m) (Pairwise n) e = ap Pairwise (sym (eqb-true m n e))
same_is (Pairwise m) (Group n) e = absurd (true≢false (sym e))
same_is (Group m) (Pairwise n) e = absurd (true≢false (sym e))
same_is (Group m) (Group n) e = ap Group (sym (eqb-true m n e))

put_same : (at : Place → Option Filling) (q : Place) → put at q (at q) ≡ at
put_same at q = fun_ext (λ p. go p (same_place p q) refl)
  where
    go : (p : Place) (b : Bool) → same_place p q ≡ b → cond b (at q) (at p) ≡ at p
    go p true e = ap at (same_is p q e)
    go p false e = refl

-- what was taken in is answered, and a failed code recorded
module _ (c : CodedSuites) (e e1 e2 : End) (q : Place) (fragment time : ℕ) (old new : Octets) (taken : Result Arrived Failure) (r : Result Arrived Refusal) (is : r ≡ finished (soon time e1.failure) q fragment taken) (end : e2 ≡ recorded c e1 time taken) where
  pub finishes : (v : Verdict) → Names q fragment time v → Took q v e e1 old new taken → Arrives c v e e2 old new r
  finishes (Refuses s) names t = record {
    answered = ap (told Came) (is ∙ ap (finished (soon time e1.failure) q fragment) t.told);
    holds = λ S coded. end ∙ ap (recorded c e1 time) t.told ∙ t.holds ∙ ap (with_places e) (put_same e.at q);
    message = t.message;
  }
  finishes (Fills p f) names t = absurd names
  finishes (Empties p) names t = absurd names
  finishes (Sends p f frames) names t = absurd names
  finishes (Holds p f part) names t = record {
    answered = ap (told Came) (is ∙ ap (finished (soon time e1.failure) q fragment) t.told);
    holds = λ S coded. end ∙ ap (recorded c e1 time) t.told ∙ t.holds ∙ ap (λ (x : Place). with_place e x (left (e.at q) (Holds p f part))) (sym names);
    message = t.message;
  }
  finishes (Delivers p f counter destination source message) names t = record {
    answered = ap (told Came) (is ∙ ap (finished (soon time e1.failure) q fragment) t.told);
    holds = λ S coded. end ∙ ap (recorded c e1 time) t.told ∙ t.holds ∙ ap (λ (x : Place). with_place e x (left (e.at q) (Delivers p f counter destination source message))) (sym names);
    message = t.message;
  }
  finishes (Fails p f n at) names t =
      let failure : e1.failure ≡ e.failure = ap (λ (x : End). x.failure) t.holds in
      let here : p ≡ q = names.0 in
      let place : e1 ≡ with_place e p (Some (with_partial f None)) = t.holds ∙ ap (λ (x : Place). with_place e x (Some (with_partial f None))) (sym here) in
      let when : at ≡ time = names.2 in
      let last : n ≡ fragment = names.1 in
      record {
        answered = ap (told Came) (is ∙ ap (finished (soon time e1.failure) q fragment) t.told) ∙ (λ i. Refused (failed (soon (sym when i) (failure i)) (sym here i) (sym last i)));
        holds = λ S coded. end ∙ ap (recorded c e1 time) t.told ∙ (λ i. failing (sym coded i) (place i) (sym when i));
        message = t.message;
      }

-- a refusal before any place changes nothing
pub nothing : (c : CodedSuites) (v : Verdict) (e : End) (old : Octets) (r : Refusal) (result : Result Arrived Refusal) → v ≡ Refuses r → result ≡ Err r → Arrives c v e e old old result
nothing c v e old r result is answer =
    subst (λ (w : Verdict). Arrives c w e e old old result) (sym is) (record { answered = ap (told Came) answer; holds = λ S coded. refl; message = refl })

module _ (M : Meaning) (e : End) (h : Header) (frame : Octets) (time : ℕ) (body : Octets) (here : body ≡ drop header_length frame) where
  -- the verdict at the place that was found
  abbrev pub at_found : ℕ → Place → Result Verdict Refusal
  at_found counter q = then (or_refuse NoMatch (e.at q)) (at_place M e.role q h frame counter time)

  by_head : (head : Result (ℕ × ℕ) HeadFault) → head ≡ M.head body → over_suite M e h frame time ≡ then (raised HeadRefused head) (λ read. then (matched e h read.1) (at_found read.0))
  unfolding over_suite
  by_head head is = ap (λ (o : Result (ℕ × ℕ) HeadFault). then (raised HeadRefused o) (λ read. then (matched e h read.1) (at_found read.0))) (ap M.head (sym here) ∙ sym is)

  pub unread : (fault : HeadFault) → Err fault ≡ M.head body → settled (over_suite M e h frame time) ≡ Refuses (HeadRefused fault)
  unread fault is = ap settled (by_head (Err fault) is)

  pub by_match : (counter id : ℕ) (place : Result Place Refusal) → Ok (counter, id) ≡ M.head body → place ≡ matched e h id → settled (over_suite M e h frame time) ≡ settled (then place (at_found counter))
  by_match counter id place read is = ap settled (by_head (Ok (counter, id)) read ∙ ap (λ (o : Result Place Refusal). then o (at_found counter)) (sym is))
