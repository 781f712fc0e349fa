-- One frame of a message arrives at the facing end: it is admitted, finds its place, opens, and is held or delivered.
use Rattle.std.proofs.Common.{◌≡◌, ℕ, ◌+◌, ◌-◌, ◌*◌, ◌<◌, ◌≤◌, Bool, true, false, cond, not, eqb, ltb, leb, ◌⊎◌, List, [], ◌∷◌, ◌++◌, length, get_or, take, drop, Some, None, Ok, Err, Option, Result, sym, refl, ap, ◌∙◌, subst, inl, inr, arith}
use Rattle.std.specs.List.{AllByRecursion}
use Rattle.std.specs.Str.{bytes_eq}
use Rattle.std.proofs.lemmas.List.{length-append, length-take, take_at, take_all, drop_at}
use Rattle.std.proofs.lemmas.Slice.Eq.{bytes_eq-Decides}
use Rattle.std.proofs.lemmas.Bool.{true≢false, cond-true, cond-false, le-ltb, lt-ltb, lt-leb, eq-eqb, ne_eqb, eqb-true, ltb-true}
use Rattle.octets.specs.Octets.{Octets}
use Rattle.frame.specs.Addresses.{number, is_group}
use Rattle.frame.specs.Headers.{header_length, fields_in}
use Rattle.frame.specs.declared.addresses.Address.{Address}
use Rattle.frame.specs.declared.headers.Header.{Header}
use Rattle.suite.specs.Laws.{Codable, Keeps}
use Rattle.ends.specs.declared.places.Place.{Place}
use Rattle.ends.specs.declared.places.Place.TheVariants.{Pairwise, Group}
use Rattle.ends.specs.declared.refusals.Refusal.{Refusal}
use Rattle.ends.specs.declared.refusals.Refusal.TheVariants.{HeadRefused, NoMatch, OpenRefused}
use Rattle.ends.specs.declared.requests.Plan.{Plan}
use Rattle.ends.specs.Places.{key_id_of, is_base, Suites, suite_at}
use Rattle.ends.specs.Holding.{Part, Filling, End, key_for, same_address, holds, place_of_peer}
use Rattle.ends.specs.Calls.{Verdict, arrival}
use Rattle.ends.specs.Calls.Verdict.{Holds, Delivers, Fails}
use Rattle.ends.specs.Checks.{first, then, raised, or_refuse, settled, blocked, has_code}
use Rattle.ends.specs.Sends.{direction_from, header_of, piece_of, frame_of, coded}
use Rattle.ends.specs.Arrivals.{range_checks, differ, stranger, coded_for, header_checks, admitted, pairwise_or_refuse, group_match, matched, all, continues, out_of_turn, turn_checks, opened, octets_of, prior, assembly_checks, part_of, destination_in, source_in, direction_to, message_in, code_in, code_agrees, completed, at_place, over_suite, suite_for, coded_suites, judge_arrive}
use Rattle.laws.specs.Words.{InRange}
use Rattle.laws.proofs.Walk.{Passed, first_passes}
use Rattle.laws.proofs.Reach.{Tidy, lowest_is}
use Rattle.laws.proofs.Pieces.{front_more}
use Rattle.laws.proofs.Frames.{Outgoing, read_back, frame_bounds, head_reads, opens_again}

-- Address 1 is this end's own, or a group's at a logger
abbrev pub Aim : Place → End → Address → Type 0
Aim (Pairwise n) e a = (a ≡ e.own) × (is_group a ≡ false)
Aim (Group n) e a = (is_base e.role ≡ false) × (is_group a ≡ true)

-- a plan and a key, as they fit the place of the end where the frames arrive
pub record Aimed (S : Suites) (q : Place) (e : End) (f : Filling) (p : Plan) (key : Octets) : Type 0 where
  pub roles : is_base p.role ≡ not (is_base e.role)
  pub direction_is : direction_to e.role ≡ direction_from p.role
  pub key_is : key_for (suite_at S q) f ≡ key
  pub id : p.key_id ≡ key_id_of q
  pub sender : p.address2 ≡ f.address
  pub aim : Aim q e p.address1
  pub destination_is : (i : ℕ) → destination_in e.role (header_of p i) ≡ p.destination
  pub source_is : (i : ℕ) → source_in e.role (header_of p i) ≡ p.source

-- tests

same_address_true : (a b : Address) → a ≡ b → same_address a b ≡ true
same_address_true a b h = eq-eqb (number a) (number b) (ap number h)

cond_falses : (b x : Bool) → x ≡ false → cond b false x ≡ false
cond_falses true x h = refl
cond_falses false x h = h

differ_to : (b r : Bool) → r ≡ not b → differ b (not r) ≡ false
differ_to true r h = ap (λ z. not (not z)) h
differ_to false r h = ap not h

differ_from : (b r : Bool) → r ≡ not b → differ (not b) r ≡ false
differ_from true r h = h
differ_from false r h = ap not h

all_true : (bs : List Bool) → AllByRecursion (λ b. b ≡ true) bs → all bs ≡ true
all_true [] h = refl
all_true (b ∷ bs) h = cond-true b (all bs) false h.0 ∙ all_true bs h.1

-- a frame for this end, under q

not_stranger : (q : Place) (e : End) (a : Address) → Aim q e a → stranger e a ≡ false
not_stranger (Pairwise n) e a aim = cond-true (same_address a e.own) false _ (same_address_true a e.own aim.0)
not_stranger (Group n) e a aim =
    cond_falses (same_address a e.own) (cond (is_base e.role) true (not (is_group a))) (cond-false (is_base e.role) true (not (is_group a)) aim.0 ∙ ap not aim.1)

-- Address 1 chooses between what is for groups and what is for one peer
chosen : {A : Type 0} (group pairwise : A) (at : Place → A) → ((n : ℕ) → at (Pairwise n) ≡ pairwise) → ((n : ℕ) → at (Group n) ≡ group) → (q : Place) (e : End) (a : Address) → Aim q e a → cond (is_group a) group pairwise ≡ at q
chosen group pairwise at one many (Pairwise n) e a aim = cond-false (is_group a) group pairwise aim.1 ∙ sym (one n)
chosen group pairwise at one many (Group n) e a aim = cond-true (is_group a) group pairwise aim.1 ∙ sym (many n)

module _ (S : Suites) (e : End) (tidy : Tidy S e.at) (a : Address) where
  peer_found : (n : ℕ) (f : Filling) → e.at (Pairwise n) ≡ Some f → a ≡ f.address → place_of_peer e a ≡ Some n
  peer_found n f held is =
      lowest_is (λ m. holds a (e.at (Pairwise m))) n (ap (holds a) held ∙ same_address_true f.address a (sym is)) only 16 (ltb-true n 16 (tidy.real (Pairwise n) f held))
    where
      holder : (m : ℕ) (o : Option Filling) → e.at (Pairwise m) ≡ o → holds a o ≡ true → m ≡ n
      holder m None k h = absurd (true≢false (sym h))
      holder m (Some g) k h = tidy.peers m n g f k held (eqb-true (number g.address) (number a) h ∙ ap number is)

      only : (m : ℕ) → holds a (e.at (Pairwise m)) ≡ true → m ≡ n
      only m h = holder m (e.at (Pairwise m)) refl h

  group_found : (n : ℕ) (f : Filling) → e.at (Group n) ≡ Some f → a ≡ f.address → group_match e a n ≡ true
  group_found n f held is = within (ltb 0 n) (ltb n 4) (tidy.real (Group n) f held)
    where
      within : (x y : Bool) → cond x y false ≡ true → cond x (cond y (holds a (e.at (Group n))) false) false ≡ true
      within true true h = ap (holds a) held ∙ same_address_true f.address a (sym is)
      within true false h = absurd (true≢false (sym h))
      within false y h = absurd (true≢false (sym h))

  found : (q : Place) (f : Filling) → e.at q ≡ Some f → (h : Header) → Aim q e h.address1 → h.address2 ≡ a → a ≡ f.address → matched e h (key_id_of q) ≡ Ok q
  found (Pairwise n) f held h aim here is =
      cond-false (is_group h.address1) _ (pairwise_or_refuse (place_of_peer e h.address2)) aim.1
      ∙ ap (λ b. pairwise_or_refuse (place_of_peer e b)) here
      ∙ ap pairwise_or_refuse (peer_found n f held is)
  found (Group n) f held h aim here is =
      cond-true (is_group h.address1) (cond (group_match e h.address2 n) (Ok (Group n)) (Err NoMatch)) _ aim.1
      ∙ cond-true (group_match e h.address2 n) (Ok (Group n)) (Err NoMatch) (ap (λ b. group_match e b n) here ∙ group_found n f held is)

-- a piece in turn

-- before piece i: nothing, or a partial message of all pieces up to it
abbrev pub Carries : Plan → Octets → ℕ → Option Part → Type 0
Carries p octets i partial =
    (i ≡ 0) ⊎ ((k : ℕ) × (k + 1 ≡ i) × (partial ≡ Some (part_of (header_of p k) (p.counter + k) (take (i * p.piece_length) octets))))

module _ (p : Plan) (octets : Octets) (f : Filling) (i : ℕ) where
  in_turn : Carries p octets i f.partial → out_of_turn f (header_of p i) (p.counter + i) ≡ false
  in_turn (inl zero) = cond-true (eqb i 0) false _ (eq-eqb i 0 zero)
  in_turn (inr (k, next, is)) =
      let tests : List Bool = eqb (k + 1) i ∷ eqb (p.counter + k + 1) (p.counter + i) ∷ eqb p.sequence p.sequence ∷ same_address p.address1 p.address1 ∷ same_address p.address2 p.address2 ∷ same_address p.address3 p.address3 ∷ [] in
      let each : AllByRecursion (λ b. b ≡ true) tests = (eq-eqb (k + 1) i next, (eq-eqb (p.counter + k + 1) (p.counter + i) (omega arith), (eq-eqb p.sequence p.sequence refl, (same_address_true p.address1 p.address1 refl, (same_address_true p.address2 p.address2 refl, (same_address_true p.address3 p.address3 refl, tt)))))) in
      let passes : continues f.partial (header_of p i) (p.counter + i) ≡ true = ap (λ o. continues o (header_of p i) (p.counter + i)) is ∙ all_true tests each in
      cond_falses (eqb i 0) (not (continues f.partial (header_of p i) (p.counter + i))) (ap not passes)

  gathered : Carries p octets i f.partial → prior f (header_of p i) ++ piece_of p octets i ≡ take ((i + 1) * p.piece_length) octets
  gathered carries = ap (λ front. front ++ piece_of p octets i) (before carries) ∙ front_more octets p.piece_length i
    where
      before : Carries p octets i f.partial → prior f (header_of p i) ≡ take (i * p.piece_length) octets
      before (inl zero) =
          let none : 0 ≡ i * p.piece_length = omega (arith, ap (λ n. n * p.piece_length) zero) in
          cond-true (eqb i 0) [] _ (eq-eqb i 0 zero) ∙ ap (λ n. take n octets) none
      before (inr (k, next, is)) =
          cond-false (eqb i 0) [] (octets_of f.partial) (ne_eqb i 0 (λ z. omega arith)) ∙ ap octets_of is

module _ (S : Suites) (q : Place) (keeps : Keeps (suite_at S q)) (p : Plan) (key octets : Octets) (out : Outgoing (suite_at S q) p key octets) (e : End) (tidy : Tidy S e.at) (f : Filling) (held : e.at q ≡ Some f) (aimed : Aimed S q e f p key) where
  module _ (i : ℕ) (h : i < p.count) (fresh : f.replay < p.counter + i) (carries : Carries p octets i f.partial) (time : ℕ) (working message : Octets) (range : InRange (suite_at S q) e (arrival (frame_of (suite_at S q) p key octets i) time working message)) where
    range_passed : Passed (range_checks time (length working) (length message) (length (frame_of (suite_at S q) p key octets i)))
    range_passed =
        let bounds = frame_bounds (suite_at S q) keeps p key octets out i h in
        let size = length (frame_of (suite_at S q) p key octets i) in
        (le-ltb _ time range.clock, (le-ltb (length working) 2560 range.working, (le-ltb (length message) 2304 range.message, (le-ltb size header_length bounds.0, (le-ltb 2352 size bounds.1, tt)))))

    header_passed : Passed (header_checks (coded_suites S) e time 8 (header_of p i))
    header_passed =
        let coded : coded_for (coded_suites S) (header_of p i) ≡ has_code (suite_at S q).sizes = chosen (has_code S.group.sizes) (has_code S.pairwise.sizes) (λ r. has_code (suite_at S r).sizes) (λ n. refl) (λ n. refl) q e p.address1 aimed.aim in
        (refl, (differ_to (is_base e.role) (is_base p.role) aimed.roles, (differ_from (is_base e.role) (is_base p.role) aimed.roles, (refl, (not_stranger q e p.address1 aimed.aim, (refl, (ap (λ b. blocked b e time) coded ∙ range.unblocked, tt)))))))

    admits : admitted (coded_suites S) e (frame_of (suite_at S q) p key octets i) time (length working) (length message) ≡ Ok (header_of p i)
    admits =
        let frame = frame_of (suite_at S q) p key octets i in
        ap (λ o. then o (λ _. first (header_checks (coded_suites S) e time (get_or frame 0 0) (fields_in frame)) (fields_in frame))) (first_passes (range_checks time (length working) (length message) (length frame)) (tt {0}) range_passed)
        ∙ ap (λ x. first (header_checks (coded_suites S) e time 8 x) x) (read_back (suite_at S q) keeps p key octets out i h)
        ∙ first_passes (header_checks (coded_suites S) e time 8 (header_of p i)) (header_of p i) header_passed

    its_suite : suite_for S (header_of p i) ≡ suite_at S q
    its_suite = chosen S.group S.pairwise (suite_at S) (λ n. refl) (λ n. refl) q e p.address1 aimed.aim

    finds : over_suite (suite_at S q) e (header_of p i) (frame_of (suite_at S q) p key octets i) time ≡ at_place (suite_at S q) e.role q (header_of p i) (frame_of (suite_at S q) p key octets i) (p.counter + i) time f
    unfolding over_suite
    finds =
        let M = suite_at S q in
        let x = header_of p i in
        let frame = frame_of (suite_at S q) p key octets i in
        ap (λ o. then (raised HeadRefused o) (λ read. then (matched e x read.1) (λ r. then (or_refuse NoMatch (e.at r)) (at_place M e.role r x frame read.0 time)))) (head_reads M keeps p key octets out i h)
        ∙ ap (λ o. then o (λ r. then (or_refuse NoMatch (e.at r)) (at_place M e.role r x frame (p.counter + i) time))) (ap (matched e x) aimed.id ∙ found S e tidy p.address2 q f held x aimed.aim refl aimed.sender)
        ∙ ap (λ o. then (or_refuse NoMatch o) (at_place M e.role q x frame (p.counter + i) time)) held

    opens : opened (suite_at S q) q f (header_of p i) (frame_of (suite_at S q) p key octets i) ≡ Ok (piece_of p octets i)
    opens =
        let M = suite_at S q in
        let frame = frame_of (suite_at S q) p key octets i in
        ap (λ k. raised (OpenRefused q i) (M.opens k (take header_length frame) (drop header_length frame))) aimed.key_is
        ∙ ap (raised (OpenRefused q i)) (opens_again M keeps p key octets out i h)

    -- what is left to decide: whether the pieces up to this one are held or delivered
    pub reaches : judge_arrive S e (arrival (frame_of (suite_at S q) p key octets i) time working message) ≡ settled (first (assembly_checks q (header_of p i) (suite_at S q).sizes.code (length (take ((i + 1) * p.piece_length) octets))) (completed (suite_at S q) e.role q f (header_of p i) (p.counter + i) time (take ((i + 1) * p.piece_length) octets)))
    unfolding judge_arrive at_place
    reaches =
        let M = suite_at S q in
        let x = header_of p i in
        let frame = frame_of (suite_at S q) p key octets i in
        let rest : Octets → Result Verdict Refusal = λ whole. first (assembly_checks q x M.sizes.code (length whole)) (completed M e.role q f x (p.counter + i) time whole) in
        ap (λ o. settled (then o (λ y. over_suite (suite_for S y) e y frame time))) admits
        ∙ ap (λ N. settled (over_suite N e x frame time)) its_suite
        ∙ ap settled finds
        ∙ ap (λ o. settled (then o (λ _. then (opened M q f x frame) (λ piece. rest (prior f x ++ piece))))) (first_passes (turn_checks q f x (p.counter + i)) (tt {0}) (lt-leb (p.counter + i) f.replay fresh, (in_turn p octets f i carries, tt)))
        ∙ ap (λ o. settled (then o (λ piece. rest (prior f x ++ piece)))) opens
        ∙ ap (λ whole. settled (rest whole)) (gathered p octets f i carries)

  module _ (i : ℕ) (fresh : f.replay < p.counter + i) (carries : Carries p octets i f.partial) (time : ℕ) (working message : Octets) (range : InRange (suite_at S q) e (arrival (frame_of (suite_at S q) p key octets i) time working message)) where
    -- a frame that is not the last
    pub held_frame : i + 1 < p.count → length octets ≤ 2304 + (suite_at S q).sizes.code → judge_arrive S e (arrival (frame_of (suite_at S q) p key octets i) time working message) ≡ Holds q f (part_of (header_of p i) (p.counter + i) (take ((i + 1) * p.piece_length) octets))
    held_frame h fits =
        let M = suite_at S q in
        let x = header_of p i in
        let whole = take ((i + 1) * p.piece_length) octets in
        let more : ltb (i + 1) p.count ≡ true = lt-ltb (i + 1) p.count h in
        let short : length whole ≤ 2304 + M.sizes.code = simp length-take (omega arith) in
        reaches i (omega arith) fresh carries time working message range
        ∙ ap settled (first_passes (assembly_checks q x M.sizes.code (length whole)) (completed M e.role q f x (p.counter + i) time whole)
        (le-ltb (2304 + M.sizes.code) (length whole) short, (cond-true (ltb (i + 1) p.count) false (leb (length whole) M.sizes.code) more, tt)))
        ∙ cond-true (ltb (i + 1) p.count) (Holds q f (part_of x (p.counter + i) whole)) _ more

    -- the last frame of a message and its code
    pub last_frame : i + 1 ≡ p.count → (text : Octets) → 1 ≤ length text → length text ≤ 2304 → Codable (suite_at S q) key p.destination p.source 0 text → octets ≡ coded (suite_at S q) p key text → judge_arrive S e (arrival (frame_of (suite_at S q) p key octets i) time working message) ≡ Delivers q f (p.counter + i) p.destination p.source text
    last_frame h text some most able is =
        let M = suite_at S q in
        let x = header_of p i in
        let code = M.code key (direction_from p.role) p.destination p.source 0 text in
        let size : length code ≡ M.sizes.code = keeps.code_length key (direction_from p.role) p.destination p.source 0 text able in
        let both : length (text ++ code) ≡ length text + length code = length-append text code in
        let all-of-it : take ((i + 1) * p.piece_length) octets ≡ text ++ code =
        take_all ((i + 1) * p.piece_length) octets (subst (λ n. length octets ≤ n * p.piece_length) (sym h) out.enough) ∙ is in
        let last : ltb (i + 1) p.count ≡ false = le-ltb (i + 1) p.count (omega arith) in
        let cut : length text ≡ length (text ++ code) - M.sizes.code = omega arith in
        let message-is : message_in M.sizes.code (text ++ code) ≡ text = take_at text code (length (text ++ code) - M.sizes.code) cut in
        let code_is : code_in M.sizes.code (text ++ code) ≡ code = drop_at text code (length (text ++ code) - M.sizes.code) cut in
        let agrees : code_agrees M e.role f x (text ++ code) ≡ true =
        (λ j. bytes_eq (M.code (aimed.key_is j) (aimed.direction_is j) (aimed.destination_is i j) (aimed.source_is i j) 0 (message-is j)) (code_is j)) ∙ (bytes_eq-Decides code code).1 refl in
        reaches i (omega arith) fresh carries time working message range
        ∙ ap (λ whole. settled (first (assembly_checks q x M.sizes.code (length whole)) (completed M e.role q f x (p.counter + i) time whole))) all-of-it
        ∙ ap settled (first_passes (assembly_checks q x M.sizes.code (length (text ++ code))) (completed M e.role q f x (p.counter + i) time (text ++ code))
        (le-ltb (2304 + M.sizes.code) (length (text ++ code)) (omega arith), (cond-false (ltb (i + 1) p.count) false (leb (length (text ++ code)) M.sizes.code) last ∙ lt-leb (length (text ++ code)) M.sizes.code (omega arith), tt)))
        ∙ cond-false (ltb (i + 1) p.count) _ (cond (code_agrees M e.role f x (text ++ code)) (Delivers q f (p.counter + i) (destination_in e.role x) (source_in e.role x) (message_in M.sizes.code (text ++ code))) (Fails q f i time)) last
        ∙ cond-true (code_agrees M e.role f x (text ++ code)) (Delivers q f (p.counter + i) (destination_in e.role x) (source_in e.role x) (message_in M.sizes.code (text ++ code))) (Fails q f i time) agrees
        ∙ (λ j. Delivers q f (p.counter + i) (aimed.destination_is i j) (aimed.source_is i j) (message-is j))
