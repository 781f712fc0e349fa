-- What every end that a run reaches keeps: keys and addresses of octets, counters from 1 on, no peer in two places.
use Rattle.std.proofs.Common.{◌≡◌, ℕ, zero, suc, ◌+◌, ◌<◌, ◌≤◌, Bool, true, false, cond, ◌⊎◌, List, [], ◌∷◌, length, take, drop, replicate, is_some, Some, None, Option, sym, refl, ap, ◌∙◌, subst, inl, inr, arith}
use Rattle.std.specs.List.{AllByRecursion}
use Rattle.std.proofs.lemmas.List.{take_at}
use Rattle.std.proofs.lemmas.Bool.{true≢false, both_ways, cond-true, cond-false, cond_both, ltb-true, eq-eqb, cases_eq}
use Rattle.frame.specs.Addresses.{number, is_group}
use Rattle.frame.specs.declared.addresses.Address.{Address}
use Rattle.suite.specs.Meaning.{Meaning}
use Rattle.suite.specs.Laws.{OctetsOf}
use Rattle.ends.specs.declared.places.Place.{Place}
use Rattle.ends.specs.declared.places.Place.TheVariants.{Pairwise, Group}
use Rattle.ends.specs.declared.roles.Role.{Role}
use Rattle.ends.specs.declared.roles.CodedSuites.{CodedSuites}
use Rattle.ends.specs.Places.{exists, same_place, Suites, suite_at}
use Rattle.ends.specs.Holding.{Filling, End, key_for, same_address, holds, lowest, lowest_or, put, with_place, with_partial, sent_on, delivered_at}
use Rattle.ends.specs.Calls.{Call, Verdict, Installing}
use Rattle.ends.specs.Calls.Call.{Install}
use Rattle.ends.specs.Calls.Verdict.{Refuses, Fills, Empties, Sends, Holds, Delivers, Fails}
use Rattle.ends.specs.Installs.{new, installed, peer_held}
use Rattle.ends.specs.Arrivals.{coded_suites}
use Rattle.ends.specs.Steps.{judge, step, final, after, minute, emptied, coded_at, failing, soon}
use Rattle.laws.specs.Words.{OfOctets, Station, Standing, begun, end_of}
use Rattle.laws.proofs.Walk.{place_true}
use Rattle.laws.proofs.Sound.{Sound, sound}

-- the lowest number that passes a test

none_lower : (test : ℕ → Bool) (n : ℕ) → ((m : ℕ) → m < n → test m ≡ false) → lowest n test ≡ None
none_lower test zero none = refl
none_lower test (suc n) none =
    ap (λ o. lowest_or o (test n) n) (none_lower test n (λ m h. none m (omega arith))) ∙ cond-false (test n) (Some n) None (none n (omega arith))

pub lowest_is : (test : ℕ → Bool) (n : ℕ) → test n ≡ true → ((m : ℕ) → test m ≡ true → m ≡ n) → (limit : ℕ) → n < limit → lowest limit test ≡ Some n
lowest_is test n passes only zero h = absurd (let z : n < 0 = h in omega arith)
lowest_is test n passes only (suc limit) h = here (cases_eq n limit) (λ k. lowest_is test n passes only limit k)
  where
    fails : (m : ℕ) → m < n → (b : Bool) → test m ≡ b → test m ≡ false
    fails m k true t = absurd (let z : m ≡ n = only m t in omega arith)
    fails m k false t = t

    here : (n ≡ limit) ⊎ (n ≡ limit → ⊥) → (n < limit → lowest limit test ≡ Some n) → lowest_or (lowest limit test) (test limit) limit ≡ Some n
    here (inl e) lower =
        ap (λ m. lowest_or (lowest m test) (test m) m) (sym e) ∙ ap (λ o. lowest_or o (test n) n) (none_lower test n (λ m k. fails m k (test m) refl)) ∙ cond-true (test n) (Some n) None passes
    here (inr e) lower = ap (λ o. lowest_or o (test limit) limit) (lower (omega arith))

-- where none was found, none passes
pub none_passes : (test : ℕ → Bool) (limit : ℕ) → is_some (lowest limit test) ≡ false → (n : ℕ) → n < limit → test n ≡ false
none_passes test zero h n k = absurd (let z : n < 0 = k in omega arith)
none_passes test (suc limit) h n k = at (lowest limit test) refl (test limit) refl h (cases_eq n limit) (λ none l. none_passes test limit none n l)
  where
    at : (o : Option ℕ) → lowest limit test ≡ o → (b : Bool) → test limit ≡ b → is_some (lowest_or o b limit) ≡ false → (n ≡ limit) ⊎ (n ≡ limit → ⊥) → (is_some (lowest limit test) ≡ false → n < limit → test n ≡ false) → test n ≡ false
    at (Some m) was b t none cases lower = absurd (true≢false none)
    at None was true t none cases lower = absurd (true≢false none)
    at None was false t none (inl e) lower = ap test e ∙ t
    at None was false t none (inr e) lower = lower (ap is_some was) (omega arith)

-- what a table of places keeps

pub record Tidy (S : Suites) (at : Place → Option Filling) : Type 0 where
  pub key_fits : (p : Place) (f : Filling) → at p ≡ Some f → OctetsOf (suite_at S p).sizes.key (key_for (suite_at S p) f)
  pub address_fits : (p : Place) (f : Filling) → at p ≡ Some f → OctetsOf 6 f.address.octets
  pub sends : (p : Place) (f : Filling) → at p ≡ Some f → 1 ≤ f.send
  pub real : (p : Place) (f : Filling) → at p ≡ Some f → exists p ≡ true
  pub peers : (m n : ℕ) (f g : Filling) → at (Pairwise m) ≡ Some f → at (Pairwise n) ≡ Some g → number f.address ≡ number g.address → m ≡ n

pub none_some : {A : Type 0} (x : A) → ◌≡◌ {A = Option A} None (Some x) → ⊥
none_some x h = let z : ◌≡◌ {A = ℕ} 0 1 = cc in omega arith

tidy_none : (S : Suites) → Tidy S (λ p. None)
tidy_none S =
    record { key_fits = λ p f h. absurd (none_some f h); address_fits = λ p f h. absurd (none_some f h); sends = λ p f h. absurd (none_some f h); real = λ p f h. absurd (none_some f h); peers = λ m n f g h k l. absurd (none_some f h) }

-- a filling with the key and the address of one that was there before
record Was (at : Place → Option Filling) (p : Place) (f : Filling) : Type 0 where
  before : Filling
  held : at p ≡ Some before
  key_same : before.key ≡ f.key
  address_same : before.address ≡ f.address
  sends : 1 ≤ f.send

tidy_from : (S : Suites) (at at' : Place → Option Filling) → Tidy S at → ((p : Place) (f : Filling) → at' p ≡ Some f → Was at p f) → Tidy S at'
tidy_from S at at' t was =
    record {
      key_fits = λ p f h. let w = was p f h in subst (λ k. OctetsOf (suite_at S p).sizes.key (take (suite_at S p).sizes.key k)) w.key_same (t.key_fits p w.before w.held);
      address_fits = λ p f h. let w = was p f h in subst (λ a. OctetsOf 6 a.octets) w.address_same (t.address_fits p w.before w.held);
      sends = λ p f h. (was p f h).sends;
      real = λ p f h. t.real p (was p f h).before (was p f h).held;
      peers = λ m n f g h k same. let v = was (Pairwise m) f h in let w = was (Pairwise n) g k in t.peers m n v.before w.before v.held w.held (ap number v.address_same ∙ same ∙ sym (ap number w.address_same));
    }

module _ (S : Suites) (at : Place → Option Filling) (t : Tidy S at) where
  kept : (p : Place) (f : Filling) → at p ≡ Some f → Was at p f
  kept p f h = record { before = f; held = h; key_same = refl; address_same = refl; sends = t.sends p f h }

  -- a place that was filled is filled with the same key and address
  tidy-put : (q : Place) (f g : Filling) → at q ≡ Some f → g.key ≡ f.key → g.address ≡ f.address → 1 ≤ g.send → Tidy S (put at q (Some g))
  tidy-put q f g held key address lo = tidy_from S at (put at q (Some g)) t (λ p x h. go p x (same_place p q) refl h)
    where
      go : (p : Place) (x : Filling) (b : Bool) → same_place p q ≡ b → cond b (Some g) (at p) ≡ Some x → Was at p x
      go p x true k h =
          let e : g ≡ x = cc in
          record { before = f; held = ap at (place_true p q k) ∙ held; key_same = sym key ∙ ap (λ z. z.key) e; address_same = sym address ∙ ap (λ z. z.address) e; sends = subst (λ z. 1 ≤ z.send) e lo }
      go p x false k h = kept p x h

  -- some places are emptied
  tidy_less : (gone : Place → Bool) → Tidy S (λ p. cond (gone p) None (at p))
  tidy_less gone = tidy_from S at (λ p. cond (gone p) None (at p)) t (λ p x h. go p x (gone p) h)
    where
      go : (p : Place) (x : Filling) (b : Bool) → cond b None (at p) ≡ Some x → Was at p x
      go p x true h = absurd (none_some x h)
      go p x false h = kept p x h

-- the key that an install gave is the key that the suite is given
pub key_back : (M : Meaning) (i : Installing) → length i.key ≡ M.sizes.key → key_for M (installed i) ≡ i.key
key_back M i long = take_at i.key (drop (length i.key) (replicate 32 0)) M.sizes.key long

-- a granted install
module _ (S : Suites) (e : End) (i : Installing) (fit : OfOctets (Install i)) (t : Tidy S e.at) (long : length i.key ≡ (suite_at S i.place).sizes.key) (real-place : exists i.place ≡ true) (new_peer : peer_held e i.place i.address ≡ false) where
  new_key : OctetsOf (suite_at S i.place).sizes.key (key_for (suite_at S i.place) (installed i))
  new_key = subst (OctetsOf (suite_at S i.place).sizes.key) (sym (key_back (suite_at S i.place) i long)) (record { long = long; octets = fit.0 })

  -- no pairwise place holds the new address
  lone : (p : Place) → peer_held e p i.address ≡ false → (m n : ℕ) (x : Filling) → Pairwise m ≡ p → e.at (Pairwise n) ≡ Some x → number x.address ≡ number i.address → ⊥
  lone (Pairwise j) none m n x l h same =
      let free : holds i.address (e.at (Pairwise n)) ≡ false = none_passes (λ k. holds i.address (e.at (Pairwise k))) 16 none n (ltb-true n 16 (t.real (Pairwise n) x h)) in
      both_ways (same_address x.address i.address) (ap (holds i.address) (sym h) ∙ free) (eq-eqb (number x.address) (number i.address) same)
  lone (Group j) none m n x l h same = let z : ◌≡◌ {A = ℕ} 0 1 = cc in omega arith

  tidy-fill : Tidy S (put e.at i.place (Some (installed i)))
  tidy-fill =
      record {
        key_fits = λ q x h. key' q x (same_place q i.place) refl h;
        address_fits = λ q x h. address' q x (same_place q i.place) h;
        sends = λ q x h. sends' q x (same_place q i.place) h;
        real = λ q x h. real' q x (same_place q i.place) refl h;
        peers = λ m n x y h k l. peers' m n x y (same_place (Pairwise m) i.place) (same_place (Pairwise n) i.place) refl refl h k l;
      }
    where
      key' : (q : Place) (x : Filling) (b : Bool) → same_place q i.place ≡ b → cond b (Some (installed i)) (e.at q) ≡ Some x → OctetsOf (suite_at S q).sizes.key (key_for (suite_at S q) x)
      key' q x true k h =
          let j : installed i ≡ x = cc in
          subst (λ z. OctetsOf (suite_at S z).sizes.key (key_for (suite_at S z) x)) (sym (place_true q i.place k)) (subst (λ z. OctetsOf (suite_at S i.place).sizes.key (key_for (suite_at S i.place) z)) j new_key)
      key' q x false k h = t.key_fits q x h

      address' : (q : Place) (x : Filling) (b : Bool) → cond b (Some (installed i)) (e.at q) ≡ Some x → OctetsOf 6 x.address.octets
      address' q x true h = let j : installed i ≡ x = cc in subst (λ z. OctetsOf 6 z.address.octets) j fit.1
      address' q x false h = t.address_fits q x h

      sends' : (q : Place) (x : Filling) (b : Bool) → cond b (Some (installed i)) (e.at q) ≡ Some x → 1 ≤ x.send
      sends' q x true h = let j : installed i ≡ x = cc in let k : 1 ≡ x.send = ap (λ z. z.send) j in omega arith
      sends' q x false h = t.sends q x h

      real' : (q : Place) (x : Filling) (b : Bool) → same_place q i.place ≡ b → cond b (Some (installed i)) (e.at q) ≡ Some x → exists q ≡ true
      real' q x true k h = ap exists (place_true q i.place k) ∙ real-place
      real' q x false k h = t.real q x h

      peers' : (m n : ℕ) (x y : Filling) (b c : Bool) → same_place (Pairwise m) i.place ≡ b → same_place (Pairwise n) i.place ≡ c → cond b (Some (installed i)) (e.at (Pairwise m)) ≡ Some x → cond c (Some (installed i)) (e.at (Pairwise n)) ≡ Some y → number x.address ≡ number y.address → m ≡ n
      peers' m n x y true true j k h l same = let u : Pairwise m ≡ i.place = place_true (Pairwise m) i.place j in let v : Pairwise n ≡ i.place = place_true (Pairwise n) i.place k in cc
      peers' m n x y true false j k h l same = let u : installed i ≡ x = cc in absurd (lone i.place new_peer m n y (place_true (Pairwise m) i.place j) l (sym same ∙ ap (λ z. number z.address) (sym u)))
      peers' m n x y false true j k h l same = let u : installed i ≡ y = cc in absurd (lone i.place new_peer n m x (place_true (Pairwise n) i.place k) h (same ∙ ap (λ z. number z.address) (sym u)))
      peers' m n x y false false j k h l same = t.peers m n x y h l same

-- a failed code, with a block begun or not
pub failing_both : (P : End → Type 0) (c : CodedSuites) (e : End) (time : ℕ) →
    (soon time e.failure ≡ true → P (record { role = e.role; own = e.own; at = emptied c e.at; sequence = e.sequence; failure = Some time; block = Some (time + minute) })) →
    (soon time e.failure ≡ false → P (record { role = e.role; own = e.own; at = e.at; sequence = e.sequence; failure = Some time; block = e.block })) →
    P (failing c e time)
failing_both P c e time begun single = cond_both (soon time e.failure) _ _ P begun single

-- which places it leaves filled
pub failing-begun : (c : CodedSuites) (e : End) (time : ℕ) → soon time e.failure ≡ true → (failing c e time).at ≡ emptied c e.at
failing-begun c e time h = failing_both (λ x. x.at ≡ emptied c e.at) c e time (λ _. refl) (λ k. absurd (both_ways (soon time e.failure) k h))

pub failing-single : (c : CodedSuites) (e : End) (time : ℕ) → soon time e.failure ≡ false → (failing c e time).at ≡ e.at
failing-single c e time h = failing_both (λ x. x.at ≡ e.at) c e time (λ k. absurd (both_ways (soon time e.failure) h k)) (λ _. refl)

tidy-after : (S : Suites) (e : End) (c : Call) (v : Verdict) → OfOctets c → Sound S e c v → Tidy S e.at → Tidy S (after S e v).at
tidy-after S e c (Refuses r) fit ok t = t
tidy-after S e c (Fills p f) fit ok t =
    subst (λ q. Tidy S (put e.at q (Some f))) (sym ok.place_is) (subst (λ g. Tidy S (put e.at ok.installing.place (Some g))) (sym ok.filling_is)
    (tidy-fill S e ok.installing (subst OfOctets ok.call_is fit) t ok.key_long ok.real ok.new_peer))
tidy-after S e c (Empties p) fit ok t = tidy_less S e.at t (λ q. same_place q p)
tidy-after S e c (Sends p f frames) fit ok t =
    let held : e.at p ≡ Some f = ap e.at (sym ok.2) ∙ ok.4.held in
    let lo : 1 ≤ f.send = t.sends p f held in
    tidy-put S e.at t p f (sent_on f (length frames)) held refl refl (omega arith)
tidy-after S e c (Holds p f part) fit ok t = tidy-put S e.at t p f (with_partial f (Some part)) ok refl refl (t.sends p f ok)
tidy-after S e c (Delivers p f counter destination source message) fit ok t =
    tidy-put S e.at t p f (delivered_at f counter) ok.0 refl refl (t.sends p f ok.0)
tidy-after S e c (Fails p f fragment time) fit ok t =
    let ended = tidy-put S e.at t p f (with_partial f None) ok refl refl (t.sends p f ok) in
    failing_both (λ x. Tidy S x.at) (coded_suites S) (with_place e p (Some (with_partial f None))) time (λ _. tidy_less S (put e.at p (Some (with_partial f None))) ended (coded_at (coded_suites S))) (λ _. ended)

-- what no call changes, and the range of the sequence number
record Steady (e after : End) : Type 0 where
  role_same : after.role ≡ e.role
  own_same : after.own ≡ e.own
  sequence_small : e.sequence < 4096 → after.sequence < 4096

steady_after : (S : Suites) (e : End) (v : Verdict) → Steady e (after S e v)
steady_after S e (Refuses r) = record { role_same = refl; own_same = refl; sequence_small = λ h. h }
steady_after S e (Fills p f) = record { role_same = refl; own_same = refl; sequence_small = λ h. h }
steady_after S e (Empties p) = record { role_same = refl; own_same = refl; sequence_small = λ h. h }
steady_after S e (Sends p f frames) = record { role_same = refl; own_same = refl; sequence_small = λ h. omega arith }
steady_after S e (Holds p f part) = record { role_same = refl; own_same = refl; sequence_small = λ h. h }
steady_after S e (Delivers p f counter destination source message) = record { role_same = refl; own_same = refl; sequence_small = λ h. h }
steady_after S e (Fails p f fragment time) =
    failing_both (Steady e) (coded_suites S) (with_place e p (Some (with_partial f None))) time
    (λ _. record { role_same = refl; own_same = refl; sequence_small = λ h. h })
    (λ _. record { role_same = refl; own_same = refl; sequence_small = λ h. h })

pub role-after : (S : Suites) (e : End) (v : Verdict) → (after S e v).role ≡ e.role
role-after S e v = (steady_after S e v).role_same

pub own_after : (S : Suites) (e : End) (v : Verdict) → (after S e v).own ≡ e.own
own_after S e v = (steady_after S e v).own_same

-- what every end is that a run reaches
pub record Proper (S : Suites) (e : End) : Type 0 where
  pub tidy : Tidy S e.at
  pub own_fits : OctetsOf 6 e.own.octets
  pub single : is_group e.own ≡ false
  pub sequence_small : e.sequence < 4096

pub proper-after : (S : Suites) (e : End) (c : Call) (v : Verdict) → OfOctets c → Sound S e c v → Proper S e → Proper S (after S e v)
proper-after S e c v fit ok proper =
    let steady = steady_after S e v in
    record { tidy = tidy-after S e c v fit ok proper.tidy; own_fits = subst (λ a. OctetsOf 6 a.octets) (sym steady.own_same) proper.own_fits; single = ap is_group steady.own_same ∙ proper.single; sequence_small = steady.sequence_small proper.sequence_small }

pub proper-step : (S : Suites) (e : End) (c : Call) → OfOctets c → Proper S e → Proper S (step S e c).after
proper-step S e c fit proper = proper-after S e c (judge S e c) fit (sound S e c) proper

pub proper-final : (S : Suites) (calls : List Call) (e : End) → AllByRecursion OfOctets calls → Proper S e → Proper S (final S e calls)
proper-final S [] e fit proper = proper
proper-final S (c ∷ calls) e fit proper = proper-final S calls (step S e c).after fit.1 (proper-step S e c fit.0 proper)

pub proper_new : (S : Suites) (role : Role) (own : Address) → Station own → Proper S (new role own)
proper_new S role own station = record { tidy = tidy_none S; own_fits = station.six; single = station.single; sequence_small = omega arith }

-- role and own address are those that the end was made with
steady_final : (S : Suites) (calls : List Call) (e : End) → ((final S e calls).role ≡ e.role) × ((final S e calls).own ≡ e.own)
steady_final S [] e = (refl, refl)
steady_final S (c ∷ calls) e =
    let rest = steady_final S calls (step S e c).after in
    (rest.0 ∙ role-after S e (judge S e c), rest.1 ∙ own_after S e (judge S e c))

pub steady_under : (S : Suites) (start : End) (x : Standing S start) → ((end_of x).role ≡ start.role) × ((end_of x).own ≡ start.own)
steady_under S start x =
    let e : End = final S start x.earlier in
    let later = steady_final S x.later (begun x) in
    let earlier = steady_final S x.earlier start in
    (later.0 ∙ role-after S e (judge S e (Install x.install)) ∙ earlier.0, later.1 ∙ own_after S e (judge S e (Install x.install)) ∙ earlier.1)
