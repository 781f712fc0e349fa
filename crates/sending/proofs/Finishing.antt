-- What a send leaves is what its verdict says.
use Rattle.std.proofs.Common.{◌≡◌, ℕ, List, length, take, Ok, Err, Option, Result, sym, ap, ◌∙◌}
use Rattle.std.proofs.lemmas.List.FromFn.{length-map-range_with_len}
use Rattle.octets.specs.Octets.{Octets, begins}
use Rattle.suite.specs.Meaning.{Meaning}
use Rattle.ends.specs.declared.refusals.Refusal.{Refusal}
use Rattle.ends.specs.declared.requests.Plan.{Plan}
use Rattle.ends.specs.declared.requests.Span.{Span}
use Rattle.ends.specs.Holding.{Filling, End, put}
use Rattle.ends.specs.Calls.{Sending, Verdict}
use Rattle.ends.specs.Calls.Verdict.{Sends}
use Rattle.ends.specs.Calls.Answer.{Sent}
use Rattle.ends.specs.Checks.{then, settled}
use Rattle.ends.specs.Sends.{frame_of, frames_of, coded, frames_by, judge_send, joined, spans}
use Rattle.ends.specs.Steps.{rows_begin, answer, after, frames_sent, next_sequence, sent_from}
use Rattle.sending.specs.declared.plans.Outgoing.{Outgoing}
use Rattle.sending.specs.Outgoings.{frames_from}
use Rattle.sending.specs.Sent.{used, having_sent, Leaves}
use Rattle.sending.proofs.Deciding.{planned_for, Grants}

-- the verdict, once it is planned
abbrev verdict : Meaning → Sending → Result (Filling × Plan) Refusal → Verdict
verdict M s r = settled (then r (λ x. Ok (Sends s.request.place x.0 (frames_by M x.0 x.1 s.message))))

module _ (M : Meaning) (e : End) (s : Sending) where
  judged : (r : Result (Filling × Plan) Refusal) → planned_for M.sizes e s ≡ r → judge_send M e s ≡ verdict M s r
  unfolding judge_send
  judged r is = ap (verdict M s) is

  pub leaves_refused : (x : Refusal) → planned_for M.sizes e s ≡ Err x → Leaves (judge_send M e s) e e (Err x) s.frames s.frames s.index s.index
  leaves_refused x is =
      let v = judged (Err x) is in
      record {
        answered = sym (ap (answer e) v);
        holds = λ S. sym (ap (after S e) v);
        frames = sym (ap (λ v. begins (joined (frames_sent v)) s.frames) v);
        index = sym (ap (λ v. rows_begin (spans 0 (frames_sent v)) s.index) v);
      }

  module _ (o : Outgoing) (w : Grants M.sizes e s o) where
    same_frames : frames_from M o s.message ≡ frames_by M w.fill o.plan s.message
    unfolding frames_by
    same_frames =
        ap (λ (k : Octets). frames_of M o.plan (take M.sizes.key k) (coded M o.plan (take M.sizes.key k) s.message)) w.is_key

    same_count : o.plan.count ≡ length (frames_by M w.fill o.plan s.message)
    same_count =
        let key = take M.sizes.key o.key in
        sym (length-map-range_with_len (frame_of M o.plan key (coded M o.plan key s.message)) 0 o.plan.count) ∙ ap length same_frames

    same_end : (n : ℕ) → having_sent e s.request.place n ≡ sent_from e s.request.place w.fill n
    same_end n =
        ap (λ (f : Option Filling). record { role = e.role; own = e.own; at = put e.at s.request.place (used f n); sequence = next_sequence e.sequence; failure = e.failure; block = e.block }) w.fills

    pub leaves-granted : (e' : End) (frames : Octets) (index : List Span) → e' ≡ having_sent e s.request.place o.plan.count → frames ≡ begins (joined (frames_from M o s.message)) s.frames → index ≡ rows_begin (spans 0 (frames_from M o s.message)) s.index → Leaves (judge_send M e s) e e' (Ok o.plan.count) s.frames frames s.index index
    leaves-granted e' frames index sent laid rows =
        let v = judged (Ok (w.fill, o.plan)) w.is_planned in
        record {
          answered = ap (λ n. Sent n) same_count ∙ sym (ap (answer e) v);
          holds = λ S. sent ∙ same_end o.plan.count ∙ ap (sent_from e s.request.place w.fill) same_count ∙ sym (ap (after S e) v);
          frames = laid ∙ ap (λ (l : List Octets). begins (joined l) s.frames) same_frames ∙ sym (ap (λ v. begins (joined (frames_sent v)) s.frames) v);
          index = rows ∙ ap (λ (l : List Octets). rows_begin (spans 0 l) s.index) same_frames ∙ sym (ap (λ v. rows_begin (spans 0 (frames_sent v)) s.index) v);
        }
