-- An end that waits for the rest of a message goes on waiting whatever else comes, if its place stays untouched.
use Rattle.std.proofs.Common.{◌≡◌, ℕ, Bool, true, false, not, length, take, Some, None, Option, sym, refl, ap, ◌∙◌, subst}
use Rattle.octets.specs.Octets.{Octets}
use Rattle.frame.specs.declared.addresses.Address.{Address}
use Rattle.ends.specs.declared.places.Place.{Place}
use Rattle.ends.specs.declared.places.Place.TheVariants.{Pairwise, Group}
use Rattle.ends.specs.declared.requests.Plan.{Plan}
use Rattle.ends.specs.Places.{same_place, is_base, Suites, suite_at}
use Rattle.ends.specs.Holding.{Part, Filling, End, with_place, with_partial, sent_on, delivered_at}
use Rattle.ends.specs.Calls.{Call, Verdict}
use Rattle.ends.specs.Calls.Verdict.{Refuses, Fills, Empties, Sends, Holds, Delivers, Fails}
use Rattle.ends.specs.Calls.Answer.{Refused}
use Rattle.ends.specs.Checks.{has_code}
use Rattle.ends.specs.Sends.{header_of}
use Rattle.ends.specs.Arrivals.{destination_in, source_in, direction_to, coded_suites}
use Rattle.ends.specs.Steps.{step_by, after, soon, failed}
use Rattle.laws.specs.Words.{OfOctets, Apart, blocks, touches}
use Rattle.laws.proofs.Walk.{place_true}
use Rattle.laws.proofs.Sound.{Sound}
use Rattle.laws.proofs.Reach.{Proper, proper-after, role-after, own_after, none_some, failing-begun, failing-single}
use Rattle.laws.proofs.Counters.{put_same, put_other, same_filling, not_emptied}
use Rattle.laws.proofs.Arriving.{Aim, Aimed}

-- the end awaits, in q, the rest of a message, with what it holds of it
pub record Ready (S : Suites) (q : Place) (p : Plan) (key : Octets) (replay : ℕ) (partial : Option Part) (e : End) : Type 0 where
  pub proper : Proper S e
  pub filling : Filling
  pub held : e.at q ≡ Some filling
  pub aimed : Aimed S q e filling p key
  pub replay_is : filling.replay ≡ replay
  pub partial_is : filling.partial ≡ partial

aim_kept : (q : Place) (e e' : End) (a : Address) → e'.own ≡ e.own → e'.role ≡ e.role → Aim q e a → Aim q e' a
aim_kept (Pairwise n) e e' a own role aim = (aim.0 ∙ sym own, aim.1)
aim_kept (Group n) e e' a own role aim = (ap is_base role ∙ aim.0, aim.1)

aimed_kept : (S : Suites) (q : Place) (e e' : End) (f g : Filling) (p : Plan) (key : Octets) → e'.own ≡ e.own → e'.role ≡ e.role → g.key ≡ f.key → g.address ≡ f.address → Aimed S q e f p key → Aimed S q e' g p key
aimed_kept S q e e' f g p key own role same_key same_address aimed =
    record { roles = aimed.roles ∙ ap (λ r. not (is_base r)) (sym role); direction_is = ap direction_to role ∙ aimed.direction_is; key_is = ap (take (suite_at S q).sizes.key) same_key ∙ aimed.key_is; id = aimed.id; sender = aimed.sender ∙ sym same_address; aim = aim_kept q e e' p.address1 own role aimed.aim; destination_is = λ i. ap (λ r. destination_in r (header_of p i)) role ∙ aimed.destination_is i; source_is = λ i. ap (λ r. source_in r (header_of p i)) role ∙ aimed.source_is i }

module _ (S : Suites) (q : Place) (p : Plan) (key : Octets) (replay : ℕ) where
  -- a step leaves in q a filling with the same key, address and replay counter
  pub ready_with : (partial next : Option Part) (e : End) (r : Ready S q p key replay partial e) (c : Call) (v : Verdict) → OfOctets c → Sound S e c v → (g : Filling) → (after S e v).at q ≡ Some g → g.key ≡ r.filling.key → g.address ≡ r.filling.address → g.replay ≡ r.filling.replay → g.partial ≡ next → Ready S q p key replay next (after S e v)
  ready_with partial next e r c v fit ok g held same_key same_address same-replay is =
      record { proper = proper-after S e c v fit ok r.proper; filling = g; held = held; aimed = aimed_kept S q e (after S e v) r.filling g p key (own_after S e v) (role-after S e v) same_key same_address r.aimed; replay_is = same-replay ∙ r.replay_is; partial_is = is }

  -- or the filling itself
  still : (partial : Option Part) (e : End) (r : Ready S q p key replay partial e) (c : Call) (v : Verdict) → OfOctets c → Sound S e c v → (after S e v).at q ≡ e.at q → Ready S q p key replay partial (after S e v)
  still partial e r c v fit ok same = ready_with partial partial e r c v fit ok r.filling (same ∙ r.held) refl refl refl r.partial_is

  pub waits : (partial : Option Part) (e : End) → Ready S q p key replay partial e → (c : Call) (v : Verdict) → OfOctets c → Sound S e c v → Apart S q (step_by S e c v) → Ready S q p key replay partial (after S e v)
  waits partial e r c (Refuses x) fit ok apart = r
  waits partial e r c (Fills b f) fit ok apart = at (same_place q b) refl
    where
      at : (t : Bool) → same_place q b ≡ t → Ready S q p key replay partial (after S e (Fills b f))
      at false h = still partial e r c (Fills b f) fit ok (put_other e.at q b (Some f) h)
      at true h = absurd (none_some r.filling (sym ok.free ∙ ap e.at (sym (place_true q b h ∙ ok.place_is)) ∙ r.held))
  waits partial e r c (Empties b) fit ok apart =
      still partial e r c (Empties b) fit ok (put_other e.at q b None (subst (λ c. Apart S q (step_by S e c (Empties b))) ok apart).lasts.not_removed)
  waits partial e r c (Sends b f frames) fit ok apart = at (same_place q b) refl
    where
      next : Filling
      next = sent_on f (length frames)

      at : (t : Bool) → same_place q b ≡ t → Ready S q p key replay partial (after S e (Sends b f frames))
      at false h = still partial e r c (Sends b f frames) fit ok (put_other e.at q b (Some next) h)
      at true h =
          let same : f ≡ r.filling = sym (same_filling e q b r.filling f r.held (ap e.at (sym ok.2) ∙ ok.4.held) h) in
          ready_with partial partial e r c (Sends b f frames) fit ok next (put_same e.at q b (Some next) h) (ap (λ z. z.key) same) (ap (λ z. z.address) same) (ap (λ z. z.replay) same) (ap (λ z. z.partial) same ∙ r.partial_is)
  waits partial e r c (Holds b f part) fit ok apart = still partial e r c (Holds b f part) fit ok (put_other e.at q b (Some (with_partial f (Some part))) apart.untouched)
  waits partial e r c (Delivers b f counter destination source message) fit ok apart =
      still partial e r c (Delivers b f counter destination source message) fit ok (put_other e.at q b (Some (delivered_at f counter)) apart.untouched)
  waits partial e r c (Fails b f fragment time) fit ok apart = at (soon time e.failure) refl
    where
      ended : End
      ended = with_place e b (Some (with_partial f None))

      other : same_place q b ≡ false → ended.at q ≡ e.at q
      other h = put_other e.at q b (Some (with_partial f None)) h

      at : (t : Bool) → soon time e.failure ≡ t → Ready S q p key replay partial (after S e (Fails b f fragment time))
      at true h =
          let plain : has_code (suite_at S q).sizes ≡ false = subst (λ t. blocks S q (Refused (failed t b fragment)) ≡ false) h apart.lasts.not_blocked in
          let elsewhere : same_place q b ≡ false = subst (λ t. touches q (Refused (failed t b fragment)) ≡ false) h apart.untouched in
          still partial e r c (Fails b f fragment time) fit ok (ap (λ (at : Place → Option Filling). at q) (failing-begun (coded_suites S) ended time h) ∙ not_emptied S q ended.at plain ∙ other elsewhere)
      at false h =
          let elsewhere : same_place q b ≡ false = subst (λ t. touches q (Refused (failed t b fragment)) ≡ false) h apart.untouched in
          still partial e r c (Fails b f fragment time) fit ok (ap (λ (at : Place → Option Filling). at q) (failing-single (coded_suites S) ended time h) ∙ other elsewhere)
