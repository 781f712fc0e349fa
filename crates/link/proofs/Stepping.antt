-- What took place over one suite is a step of the whole end.
use Rattle.std.proofs.Common.{◌≡◌, ℕ, Bool, true, false, List, length, Ok, Err, Result, sym, ap, ◌∙◌}
use Rattle.std.proofs.lemmas.Bool.{cond-true, cond-false}
use Rattle.octets.specs.Octets.{Octets, begins}
use Rattle.frame.specs.Addresses.{is_group}
use Rattle.frame.specs.declared.headers.Header.{Header}
use Rattle.suite.specs.Meaning.{Meaning}
use Rattle.ends.specs.declared.answers.Arrived.{Arrived}
use Rattle.ends.specs.declared.refusals.Refusal.{Refusal}
use Rattle.ends.specs.declared.requests.Span.{Span}
use Rattle.ends.specs.declared.roles.CodedSuites.{CodedSuites}
use Rattle.ends.specs.Places.{Suites, suite_at}
use Rattle.ends.specs.Holding.{End}
use Rattle.ends.specs.Calls.{Sending, Arrival, Verdict, told}
use Rattle.ends.specs.Calls.Call.{Send, Arrive}
use Rattle.ends.specs.Calls.Verdict.{Refuses}
use Rattle.ends.specs.Calls.Answer.{Sent, Came}
use Rattle.ends.specs.Checks.{then, settled}
use Rattle.ends.specs.Sends.{judge_send, joined, spans}
use Rattle.ends.specs.Arrivals.{admitted, suite_for, over_suite, coded_suites, judge_arrive}
use Rattle.ends.specs.Steps.{rows_begin, answer, after, frames_sent, message_delivered, memories_of_send, memories_of_arrival, wiped, IsStep}
use Rattle.sending.specs.Sent.{Leaves}
use Rattle.arriving.specs.Outcomes.{Arrives}

pub send-step : (S : Suites) (e e' : End) (s : Sending) (M : Meaning) (r : Result ℕ Refusal) (frames : Octets) (index : List Span) (working : Octets) → suite_at S s.request.place ≡ M → Leaves (judge_send M e s) e e' r s.frames frames s.index index → working ≡ wiped s.working → IsStep S e (Send s) (told Sent r) e' (memories_of_send frames index working)
send-step S e e' s M r frames index working over did wipes =
    let back = sym over in
    let frames-are = did.frames ∙ ap (λ (N : Meaning). begins (joined (frames_sent (judge_send N e s))) s.frames) back in
    let index_is = did.index ∙ ap (λ (N : Meaning). rows_begin (spans 0 (frames_sent (judge_send N e s))) s.index) back in
    record {
      answered = did.answered ∙ ap (λ (N : Meaning). answer e (judge_send N e s)) back;
      holds = did.holds S ∙ ap (λ (N : Meaning). after S e (judge_send N e s)) back;
      leaves = λ i. memories_of_send (frames-are i) (index_is i) (wipes i);
    }

module _ (S : Suites) (e : End) (a : Arrival) (c : CodedSuites) (both : c ≡ coded_suites S) where
  -- once a frame is admitted, or not, the rest is decided over its suite
  judged : (o : Result Header Refusal) → o ≡ admitted c e a.frame a.time (length a.working) (length a.message) → judge_arrive S e a ≡ settled (then o (λ h. over_suite (suite_for S h) e h a.frame a.time))
  unfolding judge_arrive
  judged o is =
      ap (λ (k : CodedSuites). settled (then (admitted k e a.frame a.time (length a.working) (length a.message)) (λ h. over_suite (suite_for S h) e h a.frame a.time))) (sym both)
      ∙ ap (λ (x : Result Header Refusal). settled (then x (λ h. over_suite (suite_for S h) e h a.frame a.time))) (sym is)

  pub refused_step : (refusal : Refusal) (r : Result Arrived Refusal) (working : Octets) → Err refusal ≡ admitted c e a.frame a.time (length a.working) (length a.message) → r ≡ Err refusal → working ≡ wiped a.working → IsStep S e (Arrive a) (told Came r) e (memories_of_arrival working a.message)
  refused_step refusal r working is told-so wipes =
      let verdict : Refuses refusal ≡ judge_arrive S e a = sym (judged (Err refusal) is) in
      record {
        answered = ap (told Came) told-so ∙ ap (answer e) verdict;
        holds = ap (after S e) verdict;
        leaves = (λ i. memories_of_arrival (wipes i) a.message) ∙ ap (λ (v : Verdict). memories_of_arrival (wiped a.working) (begins (message_delivered v) a.message)) verdict;
      }

  over_step : (M : Meaning) (h : Header) (e' : End) (r : Result Arrived Refusal) (working message : Octets) → Ok h ≡ admitted c e a.frame a.time (length a.working) (length a.message) → suite_for S h ≡ M → Arrives c (settled (over_suite M e h a.frame a.time)) e e' a.message message r → working ≡ wiped a.working → IsStep S e (Arrive a) (told Came r) e' (memories_of_arrival working message)
  over_step M h e' r working message is over did wipes =
      let verdict : settled (over_suite M e h a.frame a.time) ≡ judge_arrive S e a = ap (λ (N : Meaning). settled (over_suite N e h a.frame a.time)) (sym over) ∙ sym (judged (Ok h) is) in
      let message-is = did.message ∙ ap (λ (v : Verdict). begins (message_delivered v) a.message) verdict in
      record {
        answered = did.answered ∙ ap (answer e) verdict;
        holds = did.holds S (sym both) ∙ ap (after S e) verdict;
        leaves = λ i. memories_of_arrival (wipes i) (message-is i);
      }

  -- Address 1 is a group's, or not
  pub group-step : (group : Bool) (h : Header) (e' : End) (r : Result Arrived Refusal) (working message : Octets) → Ok h ≡ admitted c e a.frame a.time (length a.working) (length a.message) → group ≡ is_group h.address1 → group ≡ true → Arrives c (settled (over_suite S.group e h a.frame a.time)) e e' a.message message r → working ≡ wiped a.working → IsStep S e (Arrive a) (told Came r) e' (memories_of_arrival working message)
  group-step group h e' r working message is told-so is-so = over_step S.group h e' r working message is (cond-true (is_group h.address1) S.group S.pairwise (sym told-so ∙ is-so))

  pub pairwise-step : (group : Bool) (h : Header) (e' : End) (r : Result Arrived Refusal) (working message : Octets) → Ok h ≡ admitted c e a.frame a.time (length a.working) (length a.message) → group ≡ is_group h.address1 → group ≡ false → Arrives c (settled (over_suite S.pairwise e h a.frame a.time)) e e' a.message message r → working ≡ wiped a.working → IsStep S e (Arrive a) (told Came r) e' (memories_of_arrival working message)
  pairwise-step group h e' r working message is told-so is-not = over_step S.pairwise h e' r working message is (cond-false (is_group h.address1) S.group S.pairwise (sym told-so ∙ is-not))
