-- An installation while it stands: its place holds what was installed; the laws of its counters.
use Rattle.std.proofs.Common.{◌≡◌, ℕ, List, [], ◌∷◌, ◌++◌, map, length, take, Some, ap, ◌∙◌, subst, arith}
use Rattle.std.specs.List.{AllByRecursion}
use Rattle.ends.specs.Places.{Suites, suite_at, Keep}
use Rattle.ends.specs.Holding.{Filling, End, key_for, put}
use Rattle.ends.specs.Calls.{Verdict, Installing}
use Rattle.ends.specs.Calls.Call.{Install}
use Rattle.ends.specs.Calls.Verdict.{Refuses, Fills, Empties, Sends, Holds, Delivers, Fails}
use Rattle.ends.specs.Calls.Answer.{Granted}
use Rattle.ends.specs.Installs.{new, installed}
use Rattle.ends.specs.Steps.{judge, final, after, answer}
use Rattle.laws.specs.Words.{OfOctets, Standing, calls_in, begun, end_of, steps_under, counter_in, all_sent_under, all_delivered_under, Differ, Rise}
use Rattle.laws.specs.Laws.{CountersOfFramesDiffer, CountersOfDeliveriesRise}
use Rattle.laws.proofs.Walk.{place_refl}
use Rattle.laws.proofs.Sound.{Sound, sound}
use Rattle.laws.proofs.Reach.{Proper, proper-step, proper-final, proper_new, key_back}
use Rattle.laws.proofs.Rising.{rise_differ}
use Rattle.laws.proofs.Counters.{put_same, under_sent, under_delivered, under_end}

all_split : {A : Type 0} (P : A → Type 0) (xs ys : List A) → AllByRecursion P (xs ++ ys) → AllByRecursion P xs × AllByRecursion P ys
all_split P [] ys h = (tt, h)
all_split P (x ∷ xs) ys h = let rest = all_split P xs ys h.1 in ((h.0, rest.0), rest.1)

-- what a granted install leaves in its place
record Filled (S : Suites) (e : End) (i : Installing) : Type 0 where
  holds : e.at i.place ≡ Some (installed i)
  key_long : length i.key ≡ (suite_at S i.place).sizes.key

granted-fills : (S : Suites) (e : End) (i : Installing) (v : Verdict) → Sound S e (Install i) v → answer e v ≡ Granted → Filled S (after S e v) i
granted-fills S e i (Refuses r) ok h = absurd (let z : ◌≡◌ {A = ℕ} 0 1 = cc in omega arith)
granted-fills S e i (Fills p f) ok h =
    let same : ok.installing ≡ i = (let c : Install i ≡ Install ok.installing = ok.call_is in cc) in
    let here = ok.place_is ∙ ap (λ j. j.place) same in
    let its = ok.filling_is ∙ ap installed same in
    record { holds = (λ j. put e.at (here j) (Some (its j)) i.place) ∙ put_same e.at i.place i.place (Some (installed i)) (place_refl i.place); key_long = subst (λ j. length j.key ≡ (suite_at S j.place).sizes.key) same ok.key_long }
granted-fills S e i (Empties p) ok h = absurd (let z : ◌≡◌ {A = ℕ} 0 1 = cc in omega arith)
granted-fills S e i (Sends p f frames) ok h = absurd (let z : ◌≡◌ {A = ℕ} 0 1 = cc h in omega arith)
granted-fills S e i (Holds p f part) ok h = absurd (let z : ◌≡◌ {A = ℕ} 0 1 = cc h in omega arith)
granted-fills S e i (Delivers p f counter destination source message) ok h = absurd (let z : ◌≡◌ {A = ℕ} 0 1 = cc h in omega arith)
granted-fills S e i (Fails p f fragment time) ok h = absurd (let z : ◌≡◌ {A = ℕ} 0 1 = cc h in omega arith)

module _ (S : Suites) (keep : Keep S) (start : End) (proper : Proper S start) (x : Standing S start) (fit : AllByRecursion OfOctets (calls_in x)) where
  fit_parts : AllByRecursion OfOctets x.earlier × AllByRecursion OfOctets (Install x.install ∷ x.later)
  fit_parts = all_split OfOctets x.earlier (Install x.install ∷ x.later) fit

  filled-then : Filled S (begun x) x.install
  filled-then =
      let e = final S start x.earlier in
      granted-fills S e x.install (judge S e (Install x.install)) (sound S e (Install x.install)) x.granted

  proper-then : Proper S (begun x)
  proper-then =
      proper-step S (final S start x.earlier) (Install x.install) fit_parts.1.0 (proper-final S x.earlier start fit_parts.0 proper)

  pub proper_now : Proper S (end_of x)
  proper_now = proper-final S x.later (begun x) fit_parts.1.1 proper-then

  -- the place is still filled, with the key and the address that were installed
  pub still_filled : (f : Filling) × ((end_of x).at x.install.place ≡ Some f) × (key_for (suite_at S x.install.place) f ≡ x.install.key) × (f.address ≡ x.install.address)
  still_filled =
      let M = suite_at S x.install.place in
      let now = under_end S keep x.install.place x.later (begun x) (installed x.install) filled-then.holds proper-then fit_parts.1.1 x.stands in
      (now.0, now.1, ap (take M.sizes.key) now.2 ∙ key_back M x.install filled-then.key_long, now.3)

  differ_under : (counters : List ℕ) × (map (counter_in (suite_at S x.install.place)) (all_sent_under x.install.place (steps_under x)) ≡ map Some counters) × Differ counters
  differ_under =
      let sent = under_sent S keep x.install.place x.later (begun x) (installed x.install) filled-then.holds proper-then fit_parts.1.1 x.stands in
      (sent.0, sent.1, rise_differ sent.0 sent.2)

  rise_under : Rise (all_delivered_under x.install.place (steps_under x))
  rise_under =
      (under_delivered S keep x.install.place x.later (begun x) (installed x.install) filled-then.holds proper-then fit_parts.1.1 x.stands).0

pub counters_of_frames_differ : (S : Suites) → Keep S → CountersOfFramesDiffer S
counters_of_frames_differ S keep role own station x fit = differ_under S keep (new role own) (proper_new S role own station) x fit

pub counters_of_deliveries_rise : (S : Suites) → Keep S → CountersOfDeliveriesRise S
counters_of_deliveries_rise S keep role own station x fit = rise_under S keep (new role own) (proper_new S role own station) x fit
