-- AllByRecursion frames of a message arrive, with other calls between them: all but the last are held, the last is delivered.
use Rattle.std.proofs.Common.{◌≡◌, ℕ, zero, suc, ◌+◌, ◌*◌, ◌<◌, ◌≤◌, List, [], ◌∷◌, map, length, take, drop, Some, Option, sym, refl, ap, ◌∙◌, subst, inr, arith}
use Rattle.std.specs.List.{range_with_len, AllByRecursion}
use Rattle.std.proofs.lemmas.List.{take_at}
use Rattle.octets.specs.Octets.{Octets, begins}
use Rattle.suite.specs.Laws.{Codable, Keeps}
use Rattle.ends.specs.declared.places.Place.{Place}
use Rattle.ends.specs.declared.requests.Plan.{Plan}
use Rattle.ends.specs.Places.{Suites, suite_at}
use Rattle.ends.specs.Holding.{Part, End, with_partial}
use Rattle.ends.specs.Calls.{Arrival, arrival}
use Rattle.ends.specs.Calls.Call.{Arrive}
use Rattle.ends.specs.Calls.Verdict.{Holds, Delivers}
use Rattle.ends.specs.Sends.{header_of, frame_of, coded}
use Rattle.ends.specs.Arrivals.{part_of, judge_arrive}
use Rattle.ends.specs.Steps.{judge, step, run, after, answer, message_delivered}
use Rattle.laws.specs.Words.{OfOctets, Coming, call_of, frames_coming, frame_steps, InRange, Undisturbed, AsSent}
use Rattle.laws.specs.Words.Coming.{Frame, Other}
use Rattle.laws.proofs.Walk.{place_refl}
use Rattle.laws.proofs.Sound.{sound}
use Rattle.laws.proofs.Frames.{Outgoing, counter_reads}
use Rattle.laws.proofs.Counters.{put_same}
use Rattle.laws.proofs.Arriving.{Carries, held_frame, last_frame}
use Rattle.laws.proofs.Waiting.{Ready, ready_with, waits}

-- the first of some frames, and those behind it
abbrev first_of : List Octets → Octets
first_of [] = []
first_of (x ∷ xs) = x

abbrev rest_of : List Octets → List Octets
rest_of [] = []
rest_of (x ∷ xs) = xs

-- the arrival of this frame
same_arrival : (a : Arrival) (frame : Octets) → a.frame ≡ frame → a ≡ arrival frame a.time a.working a.message
same_arrival a frame is = λ j. arrival (is j) a.time a.working a.message

module _ (S : Suites) (q : Place) (keeps : Keeps (suite_at S q)) (p : Plan) (key octets : Octets) (out : Outgoing (suite_at S q) p key octets) (replay : ℕ) (above : replay < p.counter)
    (text : Octets) (some : 1 ≤ length text) (most : length text ≤ 2304) (able : Codable (suite_at S q) key p.destination p.source 0 text) (is-coded : octets ≡ coded (suite_at S q) p key text) (fits : length octets ≤ 2304 + (suite_at S q).sizes.code) where
  abbrev Frames : ℕ → ℕ → List Octets
  Frames i n = map (frame_of (suite_at S q) p key octets) (range_with_len i n)

  pub arrives : (coming : List Coming) (e : End) (i n : ℕ) (partial : Option Part) → Ready S q p key replay partial e → Carries p octets i partial → i + suc n ≡ p.count → frames_coming coming ≡ Frames i (suc n) → AllByRecursion OfOctets (map call_of coming) → Undisturbed S q coming (run S e (map call_of coming)) → AsSent (suite_at S q) q p.destination p.source text i (Frames i (suc n)) (frame_steps coming (run S e (map call_of coming)))
  arrives [] e i n partial r carries upto is fit quiet = absurd (let z : ◌≡◌ {A = ℕ} 0 1 = cc in omega arith)
  arrives (Other c ∷ coming) e i n partial r carries upto is fit quiet =
      arrives coming (step S e c).after i n partial (waits S q p key replay partial e r c (judge S e c) fit.0 (sound S e c) quiet.0) carries upto is fit.1 quiet.1
  arrives (Frame a ∷ coming) e i zero partial r carries upto is fit quiet =
      let frame = frame_of (suite_at S q) p key octets i in
      let same : a ≡ arrival frame a.time a.working a.message = same_arrival a frame (ap first_of is) in
      let range : InRange (suite_at S q) e (arrival frame a.time a.working a.message) = record { clock = quiet.0.clock; working = quiet.0.working; message = quiet.0.message; unblocked = quiet.0.unblocked } in
      let was : r.filling.replay ≡ replay = r.replay_is in
      let verdict : judge_arrive S e a ≡ Delivers q r.filling (p.counter + i) p.destination p.source text =
      ap (judge_arrive S e) same
      ∙ last_frame S q keeps p key octets out e r.proper.tidy r.filling r.held r.aimed i (omega arith) (subst (Carries p octets i) (sym r.partial_is) carries) a.time a.working a.message range (omega arith) text some most able is-coded in
      record { own_counter = p.counter + i; counter_is = counter_reads (suite_at S q) keeps p key octets out i (omega arith); answered = ap (answer e) verdict; left = ap (λ v. take (length text) (begins (message_delivered v) a.message)) verdict ∙ take_at text (drop (length text) a.message) (length text) refl }
  arrives (Frame a ∷ coming) e i (suc n) partial r carries upto is fit quiet =
      let frame = frame_of (suite_at S q) p key octets i in
      let same : a ≡ arrival frame a.time a.working a.message = same_arrival a frame (ap first_of is) in
      let range : InRange (suite_at S q) e (arrival frame a.time a.working a.message) = record { clock = quiet.0.clock; working = quiet.0.working; message = quiet.0.message; unblocked = quiet.0.unblocked } in
      let was : r.filling.replay ≡ replay = r.replay_is in
      let part : Part = part_of (header_of p i) (p.counter + i) (take ((i + 1) * p.piece_length) octets) in
      let verdict : judge_arrive S e a ≡ Holds q r.filling part =
      ap (judge_arrive S e) same
      ∙ held_frame S q keeps p key octets out e r.proper.tidy r.filling r.held r.aimed i (omega arith) (subst (Carries p octets i) (sym r.partial_is) carries) a.time a.working a.message range (omega arith) fits in
      let next : Ready S q p key replay (Some part) (after S e (judge_arrive S e a)) =
      subst (λ v. Ready S q p key replay (Some part) (after S e v)) (sym verdict)
      (ready_with S q p key replay partial (Some part) e r (Arrive a) (Holds q r.filling part) fit.0 r.held (with_partial r.filling (Some part)) (put_same e.at q q (Some (with_partial r.filling (Some part))) (place_refl q)) refl refl refl refl) in
      (ap (answer e) verdict, arrives coming (after S e (judge_arrive S e a)) (i + 1) n (Some part) next (inr (i, refl, refl)) (omega arith) (ap rest_of is) fit.1 quiet.1)
