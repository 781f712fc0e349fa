-- A message that is sent under one installation is delivered as sent under the facing one.
use Rattle.std.proofs.Common.{◌≡◌, ℕ, zero, suc, ◌+◌, ◌<◌, ◌≤◌, true, false, cond, not, List, map, length, Some, sym, refl, ap, ◌∙◌, subst, inl, arith}
use mathlib.Core.Path.{transport}
use Rattle.std.specs.List.{range_with_len, AllByRecursion}
use Rattle.std.proofs.lemmas.Bool.{true≢false, false≢true, cond-true, not-true, not-false}
use Rattle.octets.specs.Octets.{Octets}
use Rattle.frame.specs.Addresses.{is_group}
use Rattle.frame.specs.declared.addresses.Address.{Address}
use Rattle.frame.specs.declared.headers.Header.{Header}
use Rattle.suite.specs.Meaning.{Meaning}
use Rattle.suite.specs.Laws.{Codable, Keeps}
use Rattle.ends.specs.declared.places.Place.{Place}
use Rattle.ends.specs.declared.places.Place.TheVariants.{Pairwise, Group}
use Rattle.ends.specs.declared.requests.Plan.{Plan}
use Rattle.ends.specs.declared.requests.Request.{Request}
use Rattle.ends.specs.declared.roles.Role.{Role}
use Rattle.ends.specs.declared.roles.Role.TheVariants.{Base, Logger}
use Rattle.ends.specs.Places.{is_group_place, key_id_of, is_base, Suites, suite_at, Keep}
use Rattle.ends.specs.Holding.{Filling, End, key_for}
use Rattle.ends.specs.Calls.{Sending, Verdict, Installing}
use Rattle.ends.specs.Calls.Call.{Send}
use Rattle.ends.specs.Calls.Verdict.{Refuses, Fills, Empties, Sends, Holds, Delivers, Fails}
use Rattle.ends.specs.Calls.Answer.{Sent}
use Rattle.ends.specs.Installs.{new, installed}
use Rattle.ends.specs.Sends.{direction_from, frame_of, coded, frames_by, destination_of, source_of, address1_of, address3_of, group_from_logger, wrong_destination}
use Rattle.ends.specs.Arrivals.{destination_in, source_in, direction_to}
use Rattle.ends.specs.Steps.{judge, step, step_by, run, answer}
use Rattle.laws.specs.Words.{OfOctets, sent_under, AddressesFit, Coming, call_of, frames_coming, frame_steps, replay_of, Above, Undisturbed, AsSent, Crossing, end_of}
use Rattle.laws.specs.Laws.{SentMessagesAreDelivered}
use Rattle.laws.proofs.Walk.{place_refl}
use Rattle.laws.proofs.Sound.{Sound, sound, Sendable, frames_for}
use Rattle.laws.proofs.Reach.{Proper, proper_new, steady_under}
use Rattle.laws.proofs.Frames.{Outgoing, counter_reads}
use Rattle.laws.proofs.Memory.{frames_back}
use Rattle.laws.proofs.Sending.{keeps_at, plan_for, coded_for, codable, length-coded, outgoing}
use Rattle.laws.proofs.Counters.{same_filling}
use Rattle.laws.proofs.Installations.{proper_now, still_filled}
use Rattle.laws.proofs.Arriving.{Aim, Aimed}
use Rattle.laws.proofs.Waiting.{Ready}
use Rattle.laws.proofs.Message.{arrives}

-- a granted send

record GrantedSend (S : Suites) (e : End) (s : Sending) (v : Verdict) : Type 0 where
  filling : Filling
  able : Sendable (suite_at S s.request.place) e s filling
  verdict_is : v ≡ Sends s.request.place filling (frames_for (suite_at S s.request.place) e s filling)

granted-send : (S : Suites) (e : End) (s : Sending) (n : ℕ) (v : Verdict) → Sound S e (Send s) v → answer e v ≡ Sent n → GrantedSend S e s v
granted-send S e s n (Refuses r) ok h = absurd (let z : ◌≡◌ {A = ℕ} 0 1 = cc in omega arith)
granted-send S e s n (Fills p f) ok h = absurd (let z : ◌≡◌ {A = ℕ} 0 1 = cc h in omega arith)
granted-send S e s n (Empties p) ok h = absurd (let z : ◌≡◌ {A = ℕ} 0 1 = cc h in omega arith)
granted-send S e s n (Sends p f frames) ok h =
    let same : ok.0 ≡ s = (let k : Send s ≡ Send ok.0 = ok.1 in cc) in
    record { filling = f; able = subst (λ z. Sendable (suite_at S z.request.place) e z f) same ok.4; verdict_is = λ j. Sends ((sym ok.2 ∙ ap (λ z. z.request.place) same) j) f ((ok.3 ∙ ap (λ z. frames_for (suite_at S z.request.place) e z f) same) j) }
granted-send S e s n (Holds p f part) ok h = absurd (let z : ◌≡◌ {A = ℕ} 0 1 = cc h in omega arith)
granted-send S e s n (Delivers p f counter destination source message) ok h = absurd (let z : ◌≡◌ {A = ℕ} 0 1 = cc h in omega arith)
granted-send S e s n (Fails p f fragment time) ok h = absurd (let z : ◌≡◌ {A = ℕ} 0 1 = cc h in omega arith)

-- what a header says at the other end

module _ (destination source : Address) (f : Filling) (h : Header) where
  destination_read : (role role' : Role) → is_base role ≡ not (is_base role') → h.address1 ≡ address1_of role destination f → h.address3 ≡ address3_of role destination source → destination_in role' h ≡ destination
  destination_read Base Base differ one three = absurd (true≢false differ)
  destination_read Base Logger differ one three = one
  destination_read Logger Base differ one three = three
  destination_read Logger Logger differ one three = absurd (false≢true differ)

source_read : (own destination : Address) (r : Request) (h : Header) (role role' : Role) → is_base role ≡ not (is_base role') → h.address2 ≡ own → h.address3 ≡ address3_of role destination (source_of role own r) → source_in role' h ≡ source_of role own r
source_read own destination r h Base Base differ two three = absurd (true≢false differ)
source_read own destination r h Base Logger differ two three = three
source_read own destination r h Logger Base differ two three = two
source_read own destination r h Logger Logger differ two three = absurd (false≢true differ)

same_direction : (role role' : Role) → is_base role ≡ not (is_base role') → direction_to role' ≡ direction_from role
same_direction Base Base differ = absurd (true≢false differ)
same_direction Base Logger differ = refl
same_direction Logger Base differ = refl
same_direction Logger Logger differ = absurd (false≢true differ)

-- only a base sends to a group
group_from_base : (role : Role) (n : ℕ) → group_from_logger role (Group n) ≡ false → role ≡ Base
group_from_base Base n h = refl
group_from_base Logger n h = absurd (true≢false h)

to_peer : (role : Role) (n : ℕ) (r : Request) (f : Filling) → address1_of role (destination_of role (Pairwise n) r f) f ≡ f.address
to_peer Base n r f = refl
to_peer Logger n r f = refl

-- two ends that hold fillings that face each other
record Face (S T : Suites) (e e' : End) (p q : Place) (f g : Filling) : Type 0 where
  held_here : e.at p ≡ Some f
  held_there : e'.at q ≡ Some g
  suites_agree : suite_at S p ≡ suite_at T q
  keys_agree : key_for (suite_at T q) g ≡ key_for (suite_at S p) f
  roles_differ : is_base e.role ≡ not (is_base e'.role)
  fit : AddressesFit e.role e.own p f.address e'.own q g.address

module _ (e e' : End) (f g : Filling) where
  same_id : (p q : Place) → AddressesFit e.role e.own p f.address e'.own q g.address → key_id_of p ≡ key_id_of q
  same_id (Pairwise m) (Pairwise n) fit = refl
  same_id (Pairwise m) (Group n) fit = absurd fit
  same_id (Group m) (Pairwise n) fit = absurd fit
  same_id (Group m) (Group n) fit = fit.0

  its_sender : (p q : Place) → group_from_logger e.role p ≡ false → AddressesFit e.role e.own p f.address e'.own q g.address → e.own ≡ g.address
  its_sender (Pairwise m) (Pairwise n) from fit = sym fit.1
  its_sender (Pairwise m) (Group n) from fit = absurd fit
  its_sender (Group m) (Pairwise n) from fit = absurd fit
  its_sender (Group m) (Group n) from fit = sym (fit.2 ∙ cond-true (is_base e.role) e.own e'.own (ap is_base (group_from_base e.role m from)))

  its_aim : (r : Request) → is_group e'.own ≡ false → is_base e.role ≡ not (is_base e'.role) → (p q : Place) → group_from_logger e.role p ≡ false → wrong_destination e.role p r.destination ≡ false → AddressesFit e.role e.own p f.address e'.own q g.address → Aim q e' (address1_of e.role (destination_of e.role p r f) f)
  its_aim r single differ (Pairwise m) (Pairwise n) from to fit =
      let here : address1_of e.role (destination_of e.role (Pairwise m) r f) f ≡ e'.own = to_peer e.role m r f ∙ fit.0 in
      (here, ap is_group here ∙ single)
  its_aim r single differ (Pairwise m) (Group n) from to fit = absurd fit
  its_aim r single differ (Group m) (Pairwise n) from to fit = absurd fit
  its_aim r single differ (Group m) (Group n) from to fit =
      let base : e.role ≡ Base = group_from_base e.role m from in
      let logger : is_base e'.role ≡ false = (let k : true ≡ not (is_base e'.role) = ap is_base (sym base) ∙ differ in not-true (is_base e'.role) (sym k)) in
      let group : is_group r.destination ≡ true = not-false (is_group r.destination) (subst (λ z. wrong_destination z (Group m) r.destination ≡ false) base to) in
      (logger, ap (λ z. is_group (address1_of z (destination_of z (Group m) r f) f)) base ∙ group)

aimed_at : (S T : Suites) (e e' : End) (s : Sending) (q : Place) (f g : Filling) → is_group e'.own ≡ false → Sendable (suite_at S s.request.place) e s f → Face S T e e' s.request.place q f g → Aimed T q e' g (plan_for (suite_at S s.request.place) e s f) (key_for (suite_at S s.request.place) f)
aimed_at S T e e' s q f g single ok face =
    let r = s.request in
    let destination = destination_of e.role r.place r f in
    record { roles = face.roles_differ; direction_is = same_direction e.role e'.role face.roles_differ; key_is = face.keys_agree; id = same_id e e' f g r.place q face.fit; sender = its_sender e e' f g r.place q ok.to_pairwise face.fit; aim = its_aim e e' f g r single face.roles_differ r.place q ok.to_pairwise ok.to_group face.fit; destination_is = λ i. destination_read destination (source_of e.role e.own r) f _ e.role e'.role face.roles_differ refl refl; source_is = λ i. source_read e.own destination r _ e.role e'.role face.roles_differ refl refl }

positive : (n : ℕ) → 1 ≤ n → (m : ℕ) × (n ≡ suc m)
positive zero h = absurd (let z : 1 ≤ 0 = h in omega arith)
positive (suc m) h = (m, refl)

-- between two ends, whatever runs led to them
module _ (S T : Suites) (keep : Keep S) (keep' : Keep T) (e e' : End) (proper : Proper S e) (proper' : Proper T e') (s : Sending) (fit : OfOctets (Send s)) (q : Place) (f g : Filling) (face : Face S T e e' s.request.place q f g) where
  delivered_between : (n : ℕ) (coming : List Coming) → AllByRecursion OfOctets (map call_of coming) → (step S e (Send s)).answer ≡ Sent n → frames_coming coming ≡ sent_under s.request.place (step S e (Send s)) → AllByRecursion (Above (suite_at T q) e' q) (sent_under s.request.place (step S e (Send s))) → Undisturbed T q coming (run T e' (map call_of coming)) → AsSent (suite_at T q) q (destination_of e.role s.request.place s.request f) (source_of e.role e.own s.request) s.message 0 (sent_under s.request.place (step S e (Send s))) (frame_steps coming (run T e' (map call_of coming)))
  unfolding frames_by
  delivered_between n coming fit-coming granted is above quiet =
      let here : Place = s.request.place in
      let N : Meaning = suite_at S s.request.place in
      let M : Meaning = suite_at T q in
      let keeps : Keeps (suite_at T q) = keeps_at T keep' q in
      let u : suite_at S s.request.place ≡ suite_at T q = face.suites_agree in
      let send = granted-send S e s n (judge S e (Send s)) (sound S e (Send s)) granted in
      let same : send.filling ≡ f = same_filling e here here send.filling f send.able.held face.held_here (place_refl here) in
      let ok : Sendable (suite_at S s.request.place) e s f = subst (Sendable N e s) same send.able in
      let verdict : judge S e (Send s) ≡ Sends here f (frames_for N e s f) = send.verdict_is ∙ ap (λ x. Sends here x (frames_for N e s x)) same in
      let p : Plan = plan_for N e s f in
      let key : Octets = key_for N f in
      let octets : Octets = coded_for N e s f in
      let out-here : Outgoing N p key octets = outgoing S keep e proper s fit f ok in
      let out : Outgoing M p key octets = subst (λ L. Outgoing L p key octets) u out-here in
      let count = positive p.count out.some in
      let frames : List Octets = map (frame_of M p key octets) (range_with_len 0 (suc count.0)) in
      let sent : sent_under here (step S e (Send s)) ≡ frames =
      ap (λ v. sent_under here (step_by S e (Send s) v)) verdict
      ∙ frames_back here S e s f (frames_for N e s f) (place_refl here)
      ∙ (λ j. map (frame_of (u j) p key octets) (range_with_len 0 (count.1 j))) in
      let able : Codable M key p.destination p.source 0 s.message = subst (λ L. Codable L key p.destination p.source 0 s.message) u (codable S keep e proper s fit f ok) in
      let long : length octets ≡ length s.message + N.sizes.code = length-coded S keep e proper s fit f ok in
      let code : N.sizes.code ≡ M.sizes.code = ap (λ L. L.sizes.code) u in
      let some : 1 ≤ length s.message = ok.some in
      let most : length s.message ≤ 2304 = ok.most in
      let one : 1 ≤ p.count = out.some in
      let first : replay_of (e'.at q) < p.counter + 0 = (subst (AllByRecursion (Above M e' q)) sent above).0 (p.counter + 0) (counter_reads M keeps p key octets out 0 one) in
      let before : g.replay < p.counter + 0 = subst (λ o. replay_of o < p.counter + 0) face.held_there first in
      let ready : Ready T q p key g.replay g.partial e' = record { proper = proper'; filling = g; held = face.held_there; aimed = aimed_at S T e e' s q f g proper'.single ok face; replay_is = refl; partial_is = refl } in
      let upto : 0 + suc count.0 ≡ p.count = omega (arith, count.1) in
      subst (λ xs. AsSent M q p.destination p.source s.message 0 xs (frame_steps coming (run T e' (map call_of coming)))) (sym sent)
      (arrives T q keeps p key octets out g.replay (omega arith) s.message some most able (ap (λ L. coded L p key s.message) u) (omega arith) coming e' 0 count.0 g.partial ready (inl refl) upto (is ∙ sent) fit-coming quiet)

same_destination : (role : Role) (p : Place) (r : Request) (f g : Filling) → f.address ≡ g.address → destination_of role p r f ≡ destination_of role p r g
same_destination Base p r f g same = ap (cond (is_group_place p) r.destination) same
same_destination Logger p r f g same = refl

-- the same, told by what the two installations were given
between : (S T : Suites) → Keep S → Keep T → (e e' : End) → Proper S e → Proper T e' → (role role' : Role) (own own' : Address) (i i' : Installing) (f g : Filling) → e.role ≡ role → e'.role ≡ role' → e.own ≡ own → e'.own ≡ own' →
    e.at i.place ≡ Some f → key_for (suite_at S i.place) f ≡ i.key → f.address ≡ i.address →
    e'.at i'.place ≡ Some g → key_for (suite_at T i'.place) g ≡ i'.key → g.address ≡ i'.address →
    (s : Sending) (coming : List Coming) → OfOctets (Send s) → AllByRecursion OfOctets (map call_of coming) → Crossing S T role role' own own' e i e' i' s coming →
    AsSent (suite_at T i'.place) i'.place (destination_of role i.place s.request (installed i)) (source_of role own s.request) s.message 0 (sent_under i.place (step S e (Send s))) (frame_steps coming (run T e' (map call_of coming)))
between S T keep keep' e e' proper proper' role role' own own' i i' f g is-role is-role' is-own is-own' held key address held' key' address' s coming fit fit-coming crossing =
    let facing = crossing.facing in
    let q = i'.place in
    let under : s.request.place ≡ i.place = crossing.under in
    let face : Face S T e e' s.request.place q f g = record {
      held_here = ap e.at under ∙ held;
      held_there = held';
      suites_agree = ap (suite_at S) under ∙ facing.suite_agrees;
      keys_agree = key' ∙ sym facing.key_agrees ∙ sym key ∙ ap (λ p. key_for (suite_at S p) f) (sym under);
      roles_differ = ap is_base is-role ∙ facing.roles_differ ∙ ap (λ r. not (is_base r)) (sym is-role');
      fit = transport (λ j. AddressesFit (sym is-role j) (sym is-own j) (sym under j) (sym address j) (sym is-own' j) q (sym address' j)) facing.addresses_fit;
    } in
    let steps = frame_steps coming (run T e' (map call_of coming)) in
    let to : destination_of e.role s.request.place s.request f ≡ destination_of role i.place s.request (installed i) =
    (λ j. destination_of (is-role j) (under j) s.request f) ∙ same_destination role i.place s.request f (installed i) address in
    let from : source_of e.role e.own s.request ≡ source_of role own s.request = λ j. source_of (is-role j) (is-own j) s.request in
    transport (λ j. AsSent (suite_at T q) q (to j) (from j) s.message 0 (sent_under (under j) (step S e (Send s))) steps)
    (delivered_between S T keep keep' e e' proper proper' s fit q f g face crossing.count coming fit-coming crossing.granted
    (crossing.unaltered ∙ ap (λ p. sent_under p (step S e (Send s))) (sym under))
    (subst (λ p. AllByRecursion (Above (suite_at T q) e' q) (sent_under p (step S e (Send s)))) (sym under) crossing.above)
    crossing.undisturbed)

pub sent_messages_are_delivered : (S T : Suites) → Keep S → Keep T → SentMessagesAreDelivered S T
sent_messages_are_delivered S T keep keep' role role' own own' station station' x fit y fit' s coming fit-s fit-coming crossing =
    let start = proper_new S role own station in
    let start' = proper_new T role' own' station' in
    let here = still_filled S keep (new role own) start x fit in
    let there = still_filled T keep' (new role' own') start' y fit' in
    between S T keep keep' (end_of x) (end_of y) (proper_now S keep (new role own) start x fit) (proper_now T keep' (new role' own') start' y fit') role role' own own' x.install y.install here.0 there.0 (steady_under S (new role own) x).0 (steady_under T (new role' own') y).0 (steady_under S (new role own) x).1 (steady_under T (new role' own') y).1 here.1 here.2 here.3 there.1 there.2 there.3 s coming fit-s fit-coming crossing
