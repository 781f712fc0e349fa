-- Counters under one installation: those of frames differ, those of deliveries rise.
use Rattle.std.proofs.Common.{◌≡◌, ℕ, suc, ◌<◌, ◌≤◌, Bool, true, false, cond, List, [], ◌∷◌, ◌++◌, map, length, Some, None, Option, sym, refl, ap, ◌∙◌, subst, arith}
use Rattle.std.specs.List.{range_with_len, AllByRecursion}
use Rattle.std.proofs.ByRecursion.{All-append, All-weaker}
use Rattle.std.proofs.lemmas.List.{map-append}
use Rattle.std.proofs.lemmas.Bool.{cond-true, cond-false}
use Rattle.octets.specs.Octets.{Octets}
use Rattle.ends.specs.declared.places.Place.{Place}
use Rattle.ends.specs.declared.places.Place.TheVariants.{Pairwise, Group}
use Rattle.ends.specs.Places.{same_place, Suites, suite_at, Keep}
use Rattle.ends.specs.Holding.{Filling, End, put, with_place, with_partial, sent_on, delivered_at}
use Rattle.ends.specs.Calls.{Call, Verdict, Sending}
use Rattle.ends.specs.Calls.Call.{Send}
use Rattle.ends.specs.Calls.Verdict.{Refuses, Fills, Empties, Sends, Holds, Delivers, Fails}
use Rattle.ends.specs.Calls.Answer.{Refused}
use Rattle.ends.specs.Checks.{has_code}
use Rattle.ends.specs.Arrivals.{coded_suites}
use Rattle.ends.specs.Steps.{Step, judge, step, step_by, run, final, soon, failed, emptied, coded_at}
use Rattle.laws.specs.Words.{OfOctets, Lasts, blocks, sends_under, sent_under, all_sent_under, counter_in, delivered_under, all_delivered_under, Rise}
use Rattle.laws.proofs.Walk.{place_true}
use Rattle.laws.proofs.Sound.{Sound, sound, Sendable, frames_for}
use Rattle.laws.proofs.Reach.{Proper, proper-step, none_some, failing-begun, failing-single}
use Rattle.laws.proofs.Rising.{counting_low, counting_high, counting_rises, rise_append}
use Rattle.laws.proofs.Memory.{frames_back}
use Rattle.laws.proofs.Sending.{frames_counters}

-- what a step makes of a filled place that it does not empty
pub record Moved (S : Suites) (p : Place) (f : Filling) (s : Step) : Type 0 where
  pub next : Filling
  pub stays : s.after.at p ≡ Some next
  pub key_same : next.key ≡ f.key
  pub address_same : next.address ≡ f.address
  -- the counters of the frames that it sent lie between the two send counters
  pub counters : List ℕ
  pub reads : map (counter_in (suite_at S p)) (sent_under p s) ≡ map Some counters
  pub rises : Rise counters
  pub low : AllByRecursion (λ c. f.send ≤ c) counters
  pub high : AllByRecursion (λ c. c < next.send) counters
  pub send_up : f.send ≤ next.send
  -- the counter of what it delivered lies between the two replay counters
  pub delivered_rises : Rise (delivered_under p s.answer)
  pub above : AllByRecursion (λ c. f.replay < c) (delivered_under p s.answer)
  pub below : AllByRecursion (λ c. c ≤ next.replay) (delivered_under p s.answer)
  pub replay_up : f.replay ≤ next.replay

-- places, read after a write

module _ (at : Place → Option Filling) (p q : Place) (x : Option Filling) where
  pub put_same : same_place p q ≡ true → put at q x p ≡ x
  put_same h = cond-true (same_place p q) x (at p) h

  pub put_other : same_place p q ≡ false → put at q x p ≡ at p
  put_other h = cond-false (same_place p q) x (at p) h

pub same_filling : (e : End) (p q : Place) (f g : Filling) → e.at p ≡ Some f → e.at q ≡ Some g → same_place p q ≡ true → f ≡ g
same_filling e p q f g h k same = let z : p ≡ q = place_true p q same in cc

pub coded_at_is : (S : Suites) (p : Place) → coded_at (coded_suites S) p ≡ has_code (suite_at S p).sizes
coded_at_is S (Pairwise n) = refl
coded_at_is S (Group n) = refl

-- a place that a block does not empty
pub not_emptied : (S : Suites) (p : Place) (at : Place → Option Filling) → has_code (suite_at S p).sizes ≡ false → emptied (coded_suites S) at p ≡ at p
not_emptied S p at plain = cond-false (coded_at (coded_suites S) p) None (at p) (coded_at_is S p ∙ plain)

nothing_sent : {A : Type 0} (b : Bool) → cond {A = List A} b [] [] ≡ []
nothing_sent true = refl
nothing_sent false = refl

-- a step that neither sends nor delivers under p
quiet : (S : Suites) (p : Place) (f next : Filling) (s : Step) → s.after.at p ≡ Some next → sent_under p s ≡ [] → delivered_under p s.answer ≡ [] → f.send ≡ next.send → f.replay ≡ next.replay → next.key ≡ f.key → next.address ≡ f.address → Moved S p f s
quiet S p f next s stays unsent undelivered send replay key address =
    record { next = next; stays = stays; key_same = key; address_same = address; counters = []; reads = ap (map (counter_in (suite_at S p))) unsent; rises = tt; low = tt; high = tt; send_up = omega arith; delivered_rises = subst Rise (sym undelivered) tt; above = subst (AllByRecursion (λ c. f.replay < c)) (sym undelivered) tt; below = subst (AllByRecursion (λ c. c ≤ next.replay)) (sym undelivered) tt; replay_up = omega arith }

module _ (S : Suites) (keep : Keep S) (e : End) (proper : Proper S e) (p : Place) (f : Filling) (here : e.at p ≡ Some f) where
  moved_send : (s : Sending) (g : Filling) → OfOctets (Send s) → Sendable (suite_at S s.request.place) e s g → Moved S p f (step_by S e (Send s) (Sends s.request.place g (frames_for (suite_at S s.request.place) e s g)))
  moved_send s g fit ok = at (same_place p s.request.place) refl
    where
      frames : List Octets
      frames = frames_for (suite_at S s.request.place) e s g

      t : Step
      t = step_by S e (Send s) (Sends s.request.place g frames)

      at : (b : Bool) → same_place p s.request.place ≡ b → Moved S p f t
      at false h = quiet S p f f t (put_other e.at p s.request.place (Some (sent_on g (length frames))) h ∙ here) (cond-false (same_place p s.request.place) _ [] h) refl refl refl refl refl
      at true h =
          let same : f ≡ g = same_filling e p s.request.place f g here ok.held h in
          let there : p ≡ s.request.place = place_true p s.request.place h in
          let n : ℕ = length frames in
          record {
            next = sent_on g n;
            stays = put_same e.at p s.request.place (Some (sent_on g n)) h;
            key_same = ap (λ z. z.key) (sym same);
            address_same = ap (λ z. z.address) (sym same);
            counters = range_with_len g.send n;
            reads = ap (map (counter_in (suite_at S p))) (frames_back p S e s g frames h) ∙ ap (λ z. map (counter_in (suite_at S z)) frames) there ∙ frames_counters S keep e proper s fit g ok;
            rises = counting_rises g.send n;
            low = subst (λ z. AllByRecursion (λ c. z.send ≤ c) (range_with_len g.send n)) (sym same) (counting_low g.send n);
            high = counting_high g.send n;
            send_up = let m : f.send ≡ g.send = ap (λ z. z.send) same in omega arith;
            delivered_rises = tt;
            above = tt;
            below = tt;
            replay_up = let m : f.replay ≡ g.replay = ap (λ z. z.replay) same in omega arith;
          }

  -- a step that writes to q a filling with the same counters, key and address
  quiet_put : (t : Step) (q : Place) (was now : Filling) → t.after.at p ≡ put e.at q (Some now) p → e.at q ≡ Some was → now.send ≡ was.send → now.replay ≡ was.replay → now.key ≡ was.key → now.address ≡ was.address → sent_under p t ≡ [] → delivered_under p t.answer ≡ [] → Moved S p f t
  quiet_put t q was now is held send replay key address unsent undelivered = at (same_place p q) refl
    where
      at : (b : Bool) → same_place p q ≡ b → Moved S p f t
      at false h = quiet S p f f t (is ∙ put_other e.at p q (Some now) h ∙ here) unsent undelivered refl refl refl refl
      at true h =
          let same : f ≡ was = same_filling e p q f was here held h in
          quiet S p f now t (is ∙ put_same e.at p q (Some now) h) unsent undelivered (ap (λ z. z.send) same ∙ sym send) (ap (λ z. z.replay) same ∙ sym replay) (key ∙ ap (λ z. z.key) (sym same)) (address ∙ ap (λ z. z.address) (sym same))

  moved : (c : Call) (v : Verdict) → OfOctets c → Sound S e c v → Lasts S p (step_by S e c v) → Moved S p f (step_by S e c v)
  moved c (Refuses r) fit ok lasts = quiet S p f f _ here (nothing_sent (sends_under p c)) refl refl refl refl refl
  moved c (Fills q g) fit ok lasts = at (same_place p q) refl
    where
      at : (b : Bool) → same_place p q ≡ b → Moved S p f (step_by S e c (Fills q g))
      at false h = quiet S p f f _ (put_other e.at p q (Some g) h ∙ here) (nothing_sent (sends_under p c)) refl refl refl refl refl
      at true h = absurd (none_some f (sym ok.free ∙ ap e.at (sym (place_true p q h ∙ ok.place_is)) ∙ here))
  moved c (Empties q) fit ok lasts =
      quiet S p f f _ (put_other e.at p q None (subst (λ c. Lasts S p (step_by S e c (Empties q))) ok lasts).not_removed ∙ here) (nothing_sent (sends_under p c)) refl refl refl refl refl
  moved c (Sends q g frames) fit ok lasts =
      subst (λ c. Moved S p f (step_by S e c (Sends q g frames))) (sym ok.1)
      (subst (λ q. Moved S p f (step_by S e (Send ok.0) (Sends q g frames))) ok.2
      (subst (λ frames. Moved S p f (step_by S e (Send ok.0) (Sends ok.0.request.place g frames))) (sym ok.3) (moved_send ok.0 g (subst OfOctets ok.1 fit) ok.4)))
  moved c (Holds q g part) fit ok lasts =
      quiet_put (step_by S e c (Holds q g part)) q g (with_partial g (Some part)) refl ok refl refl refl refl (nothing_sent (sends_under p c)) refl
  moved c (Delivers q g counter destination source message) fit ok lasts = at (same_place p q) refl
    where
      t : Step
      t = step_by S e c (Delivers q g counter destination source message)

      at : (b : Bool) → same_place p q ≡ b → Moved S p f t
      at false h = quiet S p f f t (put_other e.at p q (Some (delivered_at g counter)) h ∙ here) (nothing_sent (sends_under p c)) (cond-false (same_place p q) (counter ∷ []) [] h) refl refl refl refl
      at true h =
          let same : f ≡ g = same_filling e p q f g here ok.0 h in
          let its : delivered_under p t.answer ≡ counter ∷ [] = cond-true (same_place p q) (counter ∷ []) [] h in
          let send : f.send ≡ g.send = ap (λ z. z.send) same in
          let replay : f.replay ≡ g.replay = ap (λ z. z.replay) same in
          let up : g.replay < counter = ok.1 in
          record {
            next = delivered_at g counter;
            stays = put_same e.at p q (Some (delivered_at g counter)) h;
            key_same = ap (λ z. z.key) (sym same);
            address_same = ap (λ z. z.address) (sym same);
            counters = [];
            reads = ap (map (counter_in (suite_at S p))) (nothing_sent (sends_under p c));
            rises = tt;
            low = tt;
            high = tt;
            send_up = omega arith;
            delivered_rises = subst Rise (sym its) (tt, tt);
            above = subst (AllByRecursion (λ c. f.replay < c)) (sym its) (omega arith, tt);
            below = subst (AllByRecursion (λ c. c ≤ counter)) (sym its) (omega arith, tt);
            replay_up = omega arith;
          }
  moved c (Fails q g fragment time) fit ok lasts = at (soon time e.failure) refl
    where
      t : Step
      t = step_by S e c (Fails q g fragment time)

      ended : End
      ended = with_place e q (Some (with_partial g None))

      unsent : sent_under p t ≡ []
      unsent = nothing_sent (sends_under p c)

      at : (b : Bool) → soon time e.failure ≡ b → Moved S p f t
      at true h =
          let plain : has_code (suite_at S p).sizes ≡ false = subst (λ b. blocks S p (Refused (failed b q fragment)) ≡ false) h lasts.not_blocked in
          let is : t.after.at p ≡ put e.at q (Some (with_partial g None)) p = ap (λ (at : Place → Option Filling). at p) (failing-begun (coded_suites S) ended time h) ∙ not_emptied S p ended.at plain in
          quiet_put t q g (with_partial g None) is ok refl refl refl refl unsent refl
      at false h =
          let is : t.after.at p ≡ put e.at q (Some (with_partial g None)) p = ap (λ (at : Place → Option Filling). at p) (failing-single (coded_suites S) ended time h) in
          quiet_put t q g (with_partial g None) is ok refl refl refl refl unsent refl

-- over all the steps of an installation
module _ (S : Suites) (keep : Keep S) (p : Place) where
  next_moved : (c : Call) (e : End) (f : Filling) → e.at p ≡ Some f → Proper S e → OfOctets c → Lasts S p (step S e c) → Moved S p f (step S e c)
  next_moved c e f here proper fit lasts = moved S keep e proper p f here c (judge S e c) fit (sound S e c) lasts

  pub under_sent : (later : List Call) (e : End) (f : Filling) → e.at p ≡ Some f → Proper S e → AllByRecursion OfOctets later → AllByRecursion (Lasts S p) (run S e later) → (counters : List ℕ) × (map (counter_in (suite_at S p)) (all_sent_under p (run S e later)) ≡ map Some counters) × Rise counters × AllByRecursion (λ c. f.send ≤ c) counters
  under_sent [] e f here proper fit stands = ([], refl, tt, tt)
  under_sent (c ∷ later) e f here proper fit stands =
      let m = next_moved c e f here proper fit.0 stands.0 in
      let up : f.send ≤ m.next.send = m.send_up in
      let rest = under_sent later (step S e c).after m.next m.stays (proper-step S e c fit.0 proper) fit.1 stands.1 in
      let sent = sent_under p (step S e c) in
      let more = all_sent_under p (run S (step S e c).after later) in (
        m.counters ++ rest.0,
        map-append (counter_in (suite_at S p)) sent more ∙ (λ i. m.reads i ++ rest.1 i) ∙ sym (map-append Some m.counters rest.0),
        rise_append m.counters rest.0 m.next.send m.rises rest.2 m.high rest.3,
        All-append (λ c. f.send ≤ c) m.counters rest.0 m.low (All-weaker (λ c. m.next.send ≤ c) (λ c. f.send ≤ c) (λ x h. omega arith) rest.0 rest.3),
      )

  pub under_delivered : (later : List Call) (e : End) (f : Filling) → e.at p ≡ Some f → Proper S e → AllByRecursion OfOctets later → AllByRecursion (Lasts S p) (run S e later) → Rise (all_delivered_under p (run S e later)) × AllByRecursion (λ c. f.replay < c) (all_delivered_under p (run S e later))
  under_delivered [] e f here proper fit stands = (tt, tt)
  under_delivered (c ∷ later) e f here proper fit stands =
      let m = next_moved c e f here proper fit.0 stands.0 in
      let up : f.replay ≤ m.next.replay = m.replay_up in
      let rest = under_delivered later (step S e c).after m.next m.stays (proper-step S e c fit.0 proper) fit.1 stands.1 in
      let now = delivered_under p (step S e c).answer in
      let more = all_delivered_under p (run S (step S e c).after later) in (
        rise_append now more (suc m.next.replay) m.delivered_rises rest.0 (All-weaker (λ c. c ≤ m.next.replay) (λ c. c < suc m.next.replay) (λ x h. omega arith) now m.below) rest.1,
        All-append (λ c. f.replay < c) now more m.above (All-weaker (λ c. m.next.replay < c) (λ c. f.replay < c) (λ x h. omega arith) more rest.1),
      )

  -- the place stays filled, with the same key and address
  pub under_end : (later : List Call) (e : End) (f : Filling) → e.at p ≡ Some f → Proper S e → AllByRecursion OfOctets later → AllByRecursion (Lasts S p) (run S e later) → (g : Filling) × ((final S e later).at p ≡ Some g) × (g.key ≡ f.key) × (g.address ≡ f.address)
  under_end [] e f here proper fit stands = (f, here, refl, refl)
  under_end (c ∷ later) e f here proper fit stands =
      let m = next_moved c e f here proper fit.0 stands.0 in
      let rest = under_end later (step S e c).after m.next m.stays (proper-step S e c fit.0 proper) fit.1 stands.1 in
      (rest.0, rest.1, rest.2 ∙ m.key_same, rest.3 ∙ m.address_same)
