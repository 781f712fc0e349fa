-- What stands when a decision is made: each decision is walked through once, here.
use Rattle.std.proofs.Common.{◌≡◌, ℕ, ◌+◌, ◌-◌, ◌<◌, ◌≤◌, true, false, eqb, List, ◌++◌, length, drop, Some, None, Ok, Option, Result, refl}
use Rattle.std.proofs.lemmas.Bool.{cond_both, ltb-false, leb-false, not-false, true≢false, eqb-true}
use Rattle.octets.specs.Octets.{Octets}
use Rattle.frame.specs.Headers.{header_length}
use Rattle.frame.specs.declared.headers.Header.{Header}
use Rattle.suite.specs.Meaning.{Meaning}
use Rattle.suite.specs.declared.sizes.Sizes.{Sizes}
use Rattle.ends.specs.declared.requests.Plan.{Plan}
use Rattle.ends.specs.declared.requests.Request.{Request}
use Rattle.ends.specs.declared.places.Place.{Place}
use Rattle.ends.specs.declared.refusals.Refusal.{Refusal}
use Rattle.ends.specs.declared.refusals.Refusal.TheVariants.{NoMatch, PlaceEmpty, HeadRefused}
use Rattle.ends.specs.Places.{exists, Suites, suite_at}
use Rattle.ends.specs.Holding.{Filling, End, is_filled}
use Rattle.ends.specs.Calls.{Call, Verdict, Installing, Sending, Arrival}
use Rattle.ends.specs.Calls.Call.{Install, Remove, Send, Arrive}
use Rattle.ends.specs.Calls.Verdict.{Refuses, Fills, Empties, Sends, Holds, Delivers, Fails}
use Rattle.ends.specs.Checks.{then, raised, or_refuse, settled}
use Rattle.ends.specs.Installs.{install_checks, remove_checks, installed, peer_held, judge_install, judge_remove}
use Rattle.ends.specs.Sends.{pieces, plan_of, request_checks, length_checks, supply_checks, group_from_logger, wrong_destination, room, frames_by, judge_send}
use Rattle.ends.specs.Arrivals.{admitted, matched, turn_checks, opened, prior, assembly_checks, completed, code_agrees, at_place, over_suite, suite_for, coded_suites, judge_arrive}
use Rattle.ends.specs.Steps.{judge}
use Rattle.laws.proofs.Walk.{first_walk, then_walk, first_then_walk, filled}

-- what a granted install has met
pub record Fillable (S : Suites) (e : End) (c : Call) (p : Place) (f : Filling) : Type 0 where
  pub installing : Installing
  pub call_is : c ≡ Install installing
  pub place_is : p ≡ installing.place
  pub filling_is : f ≡ installed installing
  pub key_long : length installing.key ≡ (suite_at S installing.place).sizes.key
  pub free : e.at installing.place ≡ None
  pub real : exists installing.place ≡ true
  pub new_peer : peer_held e installing.place installing.address ≡ false

-- how many pieces a send makes
abbrev pub count_for : Meaning → Sending → ℕ
count_for M s = pieces (length s.message + M.sizes.code) s.request.piece_length

-- what a granted send has met
pub record Sendable (M : Meaning) (e : End) (s : Sending) (f : Filling) : Type 0 where
  pub held : e.at s.request.place ≡ Some f
  pub real : exists s.request.place ≡ true
  pub to_pairwise : group_from_logger e.role s.request.place ≡ false
  pub to_group : wrong_destination e.role s.request.place s.request.destination ≡ false
  pub some : 1 ≤ length s.message
  pub most : length s.message ≤ 2304
  pub wide : 64 ≤ s.request.piece_length
  pub narrow : s.request.piece_length ≤ 2312
  pub few : count_for M s ≤ 16
  pub left : count_for M s ≤ M.sizes.top + 1 - f.send
  pub frames_fit : room M.sizes (count_for M s) (length s.message + M.sizes.code) ≤ length s.frames
  pub index_fits : count_for M s ≤ length s.index

-- the frames of a send
abbrev pub frames_for : Meaning → End → Sending → Filling → List Octets
frames_for M e s f = frames_by M f (plan_of M.sizes e s.request (length s.message) f) s.message

abbrev pub Sound : Suites → End → Call → Verdict → Type 0
Sound S e c (Refuses r) = Unit {0}
Sound S e c (Fills p f) = Fillable S e c p f
Sound S e c (Empties p) = c ≡ Remove p
Sound S e c (Sends p f frames) =
    (s : Sending) × (c ≡ Send s) × (s.request.place ≡ p) × (frames ≡ frames_for (suite_at S s.request.place) e s f) × Sendable (suite_at S s.request.place) e s f
Sound S e c (Holds q f part) = e.at q ≡ Some f
Sound S e c (Delivers q f counter destination source message) = (e.at q ≡ Some f) × (f.replay < counter)
Sound S e c (Fails q f fragment time) = e.at q ≡ Some f

empty_place : (o : Option Filling) → is_filled o ≡ false → o ≡ None
empty_place None h = refl
empty_place (Some f) h = absurd (true≢false h)

sound_install : (S : Suites) (e : End) (i : Installing) → Sound S e (Install i) (judge_install (suite_at S i.place).sizes e i)
unfolding judge_install
sound_install S e i =
    first_walk (λ o. Sound S e (Install i) (settled o)) (λ r. tt) (install_checks (suite_at S i.place).sizes e i) (Fills i.place (installed i)) (λ passed.
    record {
      installing = i;
      call_is = refl;
      place_is = refl;
      filling_is = refl;
      key_long = eqb-true (length i.key) (suite_at S i.place).sizes.key (not-false (eqb (length i.key) (suite_at S i.place).sizes.key) passed.1.1.1.1.0);
      free = empty_place (e.at i.place) passed.1.1.1.1.1.1.1.0;
      real = not-false (exists i.place) passed.1.0;
      new_peer = passed.1.1.1.1.1.1.1.1.0;
    })

sound_remove : (S : Suites) (e : End) (p : Place) → Sound S e (Remove p) (judge_remove e p)
unfolding judge_remove
sound_remove S e p = first_walk (λ o. Sound S e (Remove p) (settled o)) (λ r. tt) (remove_checks e p) (Empties p) (λ h. refl)

sound_send : (S : Suites) (e : End) (s : Sending) → Sound S e (Send s) (judge_send (suite_at S s.request.place) e s)
unfolding judge_send
sound_send S e s =
    first_then_walk P (λ r. tt) (request_checks z e q) _ (λ passed.
    then_walk P (λ r. tt) (or_refuse PlaceEmpty (e.at q.place)) _ (λ f k.
    first_then_walk P (λ r. tt) (length_checks z size piece) _ (λ l.
    first_walk P (λ r. tt) (supply_checks z size count f.send (length s.frames) (length s.index) (length s.working)) _ (λ m. (
      s,
      refl,
      refl,
      refl,
      record {
        held = filled PlaceEmpty (e.at q.place) f k;
        real = not-false (exists q.place) passed.1.0;
        to_pairwise = passed.1.1.0;
        to_group = passed.1.1.1.1.0;
        some = ltb-false size 1 l.0;
        most = ltb-false 2304 size l.1.0;
        wide = ltb-false piece 64 l.1.1.1.0;
        narrow = ltb-false 2312 piece l.1.1.1.1.0;
        few = ltb-false 16 count l.1.1.1.1.1.0;
        left = ltb-false (z.top + 1 - f.send) count m.0;
        frames_fit = ltb-false (length s.frames) (room z count (size + z.code)) m.1.0;
        index_fits = ltb-false (length s.index) count m.1.1.0;
      },
    )))))
  where
    q : Request
    q = s.request

    M : Meaning
    M = suite_at S s.request.place

    z : Sizes
    z = (suite_at S s.request.place).sizes

    size : ℕ
    size = length s.message

    piece : ℕ
    piece = s.request.piece_length

    count : ℕ
    count = count_for (suite_at S s.request.place) s

    P : Result (Filling × Plan) Refusal → Type 0
    P o = Sound S e (Send s) (settled (then o (λ x. Ok (Sends s.request.place x.0 (frames_by (suite_at S s.request.place) x.0 x.1 s.message)))))

-- at its place a frame is refused, held, delivered or failed
sound_at : (S : Suites) (e : End) (c : Call) (M : Meaning) (q : Place) (h : Header) (frame : Octets) (counter time : ℕ) (f : Filling) → e.at q ≡ Some f → Sound S e c (settled (at_place M e.role q h frame counter time f))
unfolding at_place
sound_at S e c M q h frame counter time f held =
    first_then_walk P (λ r. tt) (turn_checks q f h counter) _ (λ turn.
    then_walk P (λ r. tt) (opened M q f h frame) _ (λ piece o.
    first_walk P (λ r. tt) (assembly_checks q h M.sizes.code (length (prior f h ++ piece))) _ (λ l.
    ended (leb-false counter f.replay turn.0) (prior f h ++ piece))))
  where
    P : Result Verdict Refusal → Type 0
    P o = Sound S e c (settled o)

    ended : f.replay < counter → (whole : Octets) → Sound S e c (completed M e.role q f h counter time whole)
    ended above whole =
        cond_both h.more_fragments _ _ (Sound S e c) (λ _. held) (λ _.
        cond_both (code_agrees M e.role f h whole) _ _ (Sound S e c) (λ _. (held, above)) (λ _. held))

sound_arrive : (S : Suites) (e : End) (a : Arrival) → Sound S e (Arrive a) (judge_arrive S e a)
unfolding judge_arrive over_suite
sound_arrive S e a =
    then_walk P (λ r. tt) (admitted (coded_suites S) e a.frame a.time (length a.working) (length a.message)) _ (λ h _.
    then_walk P (λ r. tt) (raised HeadRefused ((suite_for S h).head (drop header_length a.frame))) _ (λ read _.
    then_walk P (λ r. tt) (matched e h read.1) _ (λ q _.
    then_walk P (λ r. tt) (or_refuse NoMatch (e.at q)) _ (λ f found.
    sound_at S e (Arrive a) (suite_for S h) q h a.frame read.0 a.time f (filled NoMatch (e.at q) f found)))))
  where
    P : Result Verdict Refusal → Type 0
    P o = Sound S e (Arrive a) (settled o)

pub sound : (S : Suites) (e : End) (c : Call) → Sound S e c (judge S e c)
sound S e (Install i) = sound_install S e i
sound S e (Remove p) = sound_remove S e p
sound S e (Send s) = sound_send S e s
sound S e (Arrive a) = sound_arrive S e a
