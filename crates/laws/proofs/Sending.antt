-- A granted send makes frames that can all be made: its keys, addresses and counters fit.
use Rattle.std.proofs.Common.{◌≡◌, ◌+◌, ◌-◌, ◌*◌, ◌<◌, ◌≤◌, Bool, true, false, cond, ltb, map, length, Some, sym, ap, ◌∙◌, subst, arith}
use Rattle.std.specs.List.{range_with_len}
use Rattle.std.proofs.lemmas.List.FromFn.{length-map-range_with_len}
use Rattle.std.proofs.lemmas.List.{length-append}
use Rattle.std.proofs.lemmas.Bool.{cond_both, ltb-true, true≢false}
use Rattle.octets.specs.Octets.{Octets}
use Rattle.octets.proofs.Numbers.{AreOctets-append}
use Rattle.frame.specs.declared.addresses.Address.{Address}
use Rattle.suite.specs.Meaning.{Meaning}
use Rattle.suite.specs.Laws.{OctetsOf, Codable, Keeps}
use Rattle.ends.specs.declared.places.Place.{Place}
use Rattle.ends.specs.declared.places.Place.TheVariants.{Pairwise, Group}
use Rattle.ends.specs.declared.roles.Role.{Role}
use Rattle.ends.specs.declared.roles.Role.TheVariants.{Base, Logger}
use Rattle.ends.specs.declared.requests.Plan.{Plan}
use Rattle.ends.specs.declared.requests.Request.{Request}
use Rattle.ends.specs.Places.{exists, is_group_place, key_id_of, Suites, suites, suite_at, Keep}
use Rattle.ends.specs.Holding.{Filling, End, key_for}
use Rattle.ends.specs.Calls.{Sending}
use Rattle.ends.specs.Calls.Call.{Send}
use Rattle.ends.specs.Sends.{room, joined, direction_from, plan_of, coded, frame_of, frames_by, destination_of, source_of, address1_of, address3_of}
use Rattle.laws.specs.Words.{OfOctets, counter_in}
use Rattle.laws.proofs.Sound.{Sendable, count_for, frames_for}
use Rattle.laws.proofs.Reach.{Proper}
use Rattle.laws.proofs.Pieces.{pieces-enough, pieces-needed, pieces_some}
use Rattle.laws.proofs.Frames.{Outgoing, counters_read, room_is}

abbrev Six : Address → Type 0
Six a = OctetsOf 6 a.octets

destination_fits : (role : Role) (p : Place) (q : Request) (f : Filling) → Six q.destination → Six f.address → Six (destination_of role p q f)
destination_fits Base p q f to peer = cond_both (is_group_place p) q.destination f.address Six (λ _. to) (λ _. peer)
destination_fits Logger p q f to peer = to

source_fits : (role : Role) (own : Address) (q : Request) → Six own → Six q.source → Six (source_of role own q)
source_fits Base own q here from = from
source_fits Logger own q here from = here

address1_fits : (role : Role) (destination : Address) (f : Filling) → Six destination → Six f.address → Six (address1_of role destination f)
address1_fits Base destination f to peer = to
address1_fits Logger destination f to peer = peer

address3_fits : (role : Role) (destination source : Address) → Six destination → Six source → Six (address3_of role destination source)
address3_fits Base destination source to from = from
address3_fits Logger destination source to from = to

small_key_id : (p : Place) → exists p ≡ true → key_id_of p ≤ 3
small_key_id (Pairwise n) h = omega arith
small_key_id (Group n) h = within (ltb 0 n) h
  where
    within : (b : Bool) → cond b (ltb n 4) false ≡ true → n ≤ 3
    within true k = let below : n < 4 = ltb-true n 4 k in omega arith
    within false k = absurd (true≢false (sym k))

pub keeps_at : (S : Suites) → Keep S → (p : Place) → Keeps (suite_at S p)
keeps_at S keep (Pairwise n) = keep.pairwise_keeps
keeps_at S keep (Group n) = keep.group_keeps

pub both_keep : (P G : Meaning) → Keeps P → Keeps G → Keep (suites P G)
both_keep P G first second = record { pairwise_keeps = first; group_keeps = second }

-- how a send goes out, and the octets that are cut
abbrev pub plan_for : Meaning → End → Sending → Filling → Plan
plan_for M e s f = plan_of M.sizes e s.request (length s.message) f

abbrev pub coded_for : Meaning → End → Sending → Filling → Octets
coded_for M e s f = coded M (plan_for M e s f) (key_for M f) s.message

module _ (S : Suites) (keep : Keep S) (e : End) (proper : Proper S e) (s : Sending) (fit : OfOctets (Send s)) (f : Filling) (ok : Sendable (suite_at S s.request.place) e s f) where
  to_fits : Six (destination_of e.role s.request.place s.request f)
  to_fits = destination_fits e.role s.request.place s.request f fit.1 (proper.tidy.address_fits s.request.place f ok.held)

  from_fits : Six (source_of e.role e.own s.request)
  from_fits = source_fits e.role e.own s.request proper.own_fits fit.2

  pub codable : Codable (suite_at S s.request.place) (key_for (suite_at S s.request.place) f) (destination_of e.role s.request.place s.request f) (source_of e.role e.own s.request) 0 s.message
  codable =
      record { key_fits = proper.tidy.key_fits s.request.place f ok.held; destination_fits = to_fits; source_fits = from_fits; priority_fits = omega arith; message_fits = fit.0 }

  pub length-coded : length (coded_for (suite_at S s.request.place) e s f) ≡ length s.message + (suite_at S s.request.place).sizes.code
  length-coded =
      length-append s.message _ ∙ ap (λ n. length s.message + n) ((keeps_at S keep s.request.place).code_length _ (direction_from e.role) _ _ 0 s.message codable)

  pub outgoing : Outgoing (suite_at S s.request.place) (plan_for (suite_at S s.request.place) e s f) (key_for (suite_at S s.request.place) f) (coded_for (suite_at S s.request.place) e s f)
  outgoing =
      let M = suite_at S s.request.place in
      let L = s.request.piece_length in
      let wide : 64 ≤ s.request.piece_length = ok.wide in
      let lo : 1 ≤ f.send = proper.tidy.sends s.request.place f ok.held in
      let left : count_for M s ≤ M.sizes.top + 1 - f.send = ok.left in
      let one : 1 ≤ count_for M s = pieces_some (length s.message + M.sizes.code) L (omega arith) (let m : 1 ≤ length s.message = ok.some in omega arith) in
      let peer = proper.tidy.address_fits s.request.place f ok.held in
      record {
        key_fits = proper.tidy.key_fits s.request.place f ok.held;
        id_fits = small_key_id s.request.place ok.real;
        sequence_small = proper.sequence_small;
        address1_fits = address1_fits e.role (destination_of e.role s.request.place s.request f) f to_fits peer;
        address2_fits = proper.own_fits;
        address3_fits = address3_fits e.role (destination_of e.role s.request.place s.request f) (source_of e.role e.own s.request) to_fits from_fits;
        octets_fit = AreOctets-append s.message _ fit.0 ((keeps_at S keep s.request.place).code_octets _ (direction_from e.role) _ _ 0 s.message codable);
        wide = omega arith;
        narrow = ok.narrow;
        enough = subst (λ n. n ≤ count_for M s * L) (sym length-coded) (pieces-enough (length s.message + M.sizes.code) L (omega arith));
        needed = subst (λ n. count_for M s * L < n + L) (sym length-coded) (pieces-needed (length s.message + M.sizes.code) L (omega arith));
        some = one;
        few = ok.few;
        from_one = lo;
        upto_top = omega arith;
      }

  -- the room that was asked for holds all frames
  pub frames_fit : length (joined (frames_for (suite_at S s.request.place) e s f)) ≤ length s.frames
  unfolding frames_by
  frames_fit =
      let M = suite_at S s.request.place in
      let room_fits : room M.sizes (count_for M s) (length s.message + M.sizes.code) ≤ length s.frames = ok.frames_fit in
      let takes = room_is M (keeps_at S keep s.request.place) (plan_for M e s f) (key_for M f) (coded_for M e s f) outgoing in
      subst (λ n. n ≤ length s.frames) (sym (takes ∙ ap (room M.sizes (count_for M s)) length-coded)) room_fits

  pub length_frames : length (frames_for (suite_at S s.request.place) e s f) ≡ count_for (suite_at S s.request.place) s
  unfolding frames_by
  length_frames = length-map-range_with_len (frame_of (suite_at S s.request.place) (plan_for (suite_at S s.request.place) e s f) (key_for (suite_at S s.request.place) f) (coded_for (suite_at S s.request.place) e s f)) 0 (count_for (suite_at S s.request.place) s)

  pub frames_counters : map (counter_in (suite_at S s.request.place)) (frames_for (suite_at S s.request.place) e s f) ≡ map Some (range_with_len f.send (length (frames_for (suite_at S s.request.place) e s f)))
  unfolding frames_by
  frames_counters =
      let M = suite_at S s.request.place in
      let first : f.send + 0 ≡ f.send = omega arith in
      counters_read M (keeps_at S keep s.request.place) (plan_for M e s f) (key_for M f) (coded_for M e s f) outgoing 0 (count_for M s) (omega arith)
      ∙ (λ j. map Some (range_with_len (first j) (sym length_frames j)))
