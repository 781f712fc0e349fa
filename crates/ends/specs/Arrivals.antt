-- Arrive: what becomes of a frame.
use Rattle.std.specs.Prelude.{ℕ, ◌+◌, ◌-◌, Bool, true, false, cond, not, List, [], ◌∷◌, ◌++◌, length, take, drop, Some, None, Ok, Err, Option, Result, ◌==◌, nat_le, nat_lt, slice_index}
use Rattle.std.specs.Str.{bytes_eq}
use Rattle.octets.specs.Octets.{Octets}
use Rattle.frame.specs.Addresses.{is_group}
use Rattle.frame.specs.Headers.{header_length, fields_in}
use Rattle.frame.specs.declared.addresses.Address.{Address}
use Rattle.frame.specs.declared.headers.Header.{Header}
use Rattle.suite.specs.Meaning.{Meaning}
use Rattle.suite.specs.declared.sizes.Direction.{Direction}
use Rattle.suite.specs.declared.sizes.Direction.TheVariants.{FromBase, FromLogger}
use Rattle.ends.specs.declared.places.Place.{Place}
use Rattle.ends.specs.declared.places.Place.TheVariants.{Pairwise, Group}
use Rattle.ends.specs.declared.roles.Role.{Role}
use Rattle.ends.specs.declared.roles.Role.TheVariants.{Base, Logger}
use Rattle.ends.specs.declared.roles.CodedSuites.{CodedSuites}
use Rattle.ends.specs.declared.refusals.Refusal.{Refusal}
use Rattle.ends.specs.declared.refusals.Refusal.TheVariants.{ClockRange, MemoryShort, FrameLength, NotForThisEnd, Unprotected, ArrivalBlocked, HeadRefused, NoMatch, Replayed, OutOfTurn, OpenRefused, AssembledLength}
use Rattle.ends.specs.Places.{is_base, Suites}
use Rattle.ends.specs.Holding.{Part, Filling, End, key_for, same_address, holds, place_of_peer}
use Rattle.ends.specs.Calls.{Arrival, Verdict}
use Rattle.ends.specs.Calls.Verdict.{Holds, Delivers, Fails}
use Rattle.ends.specs.Checks.{Check, first, then, raised, or_refuse, settled, last_time, blocked, has_code}

-- whether it is a frame for this end

-- clock, memories and the frame's length
abbrev pub range_checks : ℕ → ℕ → ℕ → ℕ → List Check
range_checks time working message frame =
    (nat_lt last_time time, ClockRange)
    ∷ (nat_lt working 2560, MemoryShort)
    ∷ (nat_lt message 2304, MemoryShort)
    ∷ (nat_lt frame header_length, FrameLength)
    ∷ (nat_lt 2352 frame, FrameLength)
    ∷ []

abbrev pub differ : Bool → Bool → Bool
differ true b = not b
differ false b = b

-- Address 1 is neither the end's own nor, at a logger, a group's
abbrev pub stranger : End → Address → Bool
stranger e a = cond (same_address a e.own) false (cond (is_base e.role) true (not (is_group a)))

-- which suite has a code is all that a block asks
abbrev pub coded_for : CodedSuites → Header → Bool
coded_for c h = cond (is_group h.address1) c.group c.pairwise

-- what a base hears is for the distribution system, what a logger hears is from it
abbrev pub header_checks : CodedSuites → End → ℕ → ℕ → Header → List Check
header_checks c e time kind h =
    (not (kind == 8), NotForThisEnd)
    ∷ (differ (is_base e.role) h.to_ds, NotForThisEnd)
    ∷ (differ (not (is_base e.role)) h.from_ds, NotForThisEnd)
    ∷ (h.order, NotForThisEnd)
    ∷ (stranger e h.address1, NotForThisEnd)
    ∷ (not h.protected, Unprotected)
    ∷ (blocked (coded_for c h) e time, ArrivalBlocked)
    ∷ []

abbrev pub admitted : CodedSuites → End → Octets → ℕ → ℕ → ℕ → Result Header Refusal
admitted c e frame time working message =
    then (first (range_checks time working message (length frame)) (tt {0})) (λ _.
    first (header_checks c e time (slice_index frame 0) (fields_in frame)) (fields_in frame))

-- which place it is for: Address 2 and the key ID choose it

abbrev pub pairwise_or_refuse : Option ℕ → Result Place Refusal
pairwise_or_refuse (Some n) = Ok (Pairwise n)
pairwise_or_refuse None = Err NoMatch

abbrev pub group_match : End → Address → ℕ → Bool
group_match e a id = cond (nat_lt 0 id) (cond (nat_lt id 4) (holds a (e.at (Group id))) false) false

abbrev pub matched : End → Header → ℕ → Result Place Refusal
matched e h id =
    cond (is_group h.address1)
    (cond (group_match e h.address2 id) (Ok (Group id)) (Err NoMatch))
    (cond (id == 0) (pairwise_or_refuse (place_of_peer e h.address2)) (Err NoMatch))

-- whether its piece is in turn

abbrev pub all : List Bool → Bool
all [] = true
all (b ∷ bs) = cond b (all bs) false

abbrev pub continues : Option Part → Header → ℕ → Bool
continues None h counter = false
continues (Some p) h counter =
    all ((p.fragment + 1 == h.fragment) ∷ (p.counter + 1 == counter) ∷ (p.sequence == h.sequence) ∷ same_address p.address1 h.address1 ∷ same_address p.address2 h.address2 ∷ same_address p.address3 h.address3 ∷ [])

abbrev pub out_of_turn : Filling → Header → ℕ → Bool
out_of_turn f h counter = cond (h.fragment == 0) false (not (continues f.partial h counter))

abbrev pub turn_checks : Place → Filling → Header → ℕ → List Check
turn_checks q f h counter =
    (nat_le counter f.replay, Replayed q h.fragment) ∷ (out_of_turn f h counter, OutOfTurn q h.fragment) ∷ []

-- its piece, joined to what came before it

abbrev pub opened : Meaning → Place → Filling → Header → Octets → Result Octets Refusal
opened M q f h frame = raised (OpenRefused q h.fragment) (M.opens (key_for M f) (take header_length frame) (drop header_length frame))

abbrev pub octets_of : Option Part → Octets
octets_of None = []
octets_of (Some p) = p.octets

-- fragment 0 begins anew
abbrev pub prior : Filling → Header → Octets
prior f h = cond (h.fragment == 0) [] (octets_of f.partial)

-- a whole message is longer than its code
abbrev pub too_short : Header → ℕ → ℕ → Bool
too_short h code size = cond h.more_fragments false (nat_le size code)

abbrev pub assembly_checks : Place → Header → ℕ → ℕ → List Check
assembly_checks q h code size =
    (nat_lt (2304 + code) size, AssembledLength q h.fragment) ∷ (too_short h code size, AssembledLength q h.fragment) ∷ []

-- held, delivered or failed

abbrev pub part_of : Header → ℕ → Octets → Part
part_of h counter whole =
    record { octets = whole; fragment = h.fragment; counter = counter; sequence = h.sequence; address1 = h.address1; address2 = h.address2; address3 = h.address3 }

abbrev pub destination_in : Role → Header → Address
destination_in Base h = h.address3
destination_in Logger h = h.address1

abbrev pub source_in : Role → Header → Address
source_in Base h = h.address2
source_in Logger h = h.address3

-- the direction from which an end of this role hears
abbrev pub direction_to : Role → Direction
direction_to Base = FromLogger
direction_to Logger = FromBase

-- the message is all but the last octets, and these are its code
abbrev pub message_in : ℕ → Octets → Octets
message_in code whole = take (length whole - code) whole

abbrev pub code_in : ℕ → Octets → Octets
code_in code whole = drop (length whole - code) whole

abbrev pub code_agrees : Meaning → Role → Filling → Header → Octets → Bool
code_agrees M role f h whole =
    bytes_eq (M.code (key_for M f) (direction_to role) (destination_in role h) (source_in role h) 0 (message_in M.sizes.code whole)) (code_in M.sizes.code whole)

abbrev pub completed : Meaning → Role → Place → Filling → Header → ℕ → ℕ → Octets → Verdict
completed M role q f h counter time whole =
    cond h.more_fragments (Holds q f (part_of h counter whole))
    (cond (code_agrees M role f h whole) (Delivers q f counter (destination_in role h) (source_in role h) (message_in M.sizes.code whole)) (Fails q f h.fragment time))

unfoldable pub at_place : Meaning → Role → Place → Header → Octets → ℕ → ℕ → Filling → Result Verdict Refusal
at_place M role q h frame counter time f =
    then (first (turn_checks q f h counter) (tt {0})) (λ _.
    then (opened M q f h frame) (λ piece.
    first (assembly_checks q h M.sizes.code (length (prior f h ++ piece))) (completed M role q f h counter time (prior f h ++ piece))))

-- a frame that was admitted, over its suite
unfoldable pub over_suite : Meaning → End → Header → Octets → ℕ → Result Verdict Refusal
over_suite M e h frame time =
    then (raised HeadRefused (M.head (drop header_length frame))) (λ read.
    then (matched e h read.1) (λ q.
    then (or_refuse NoMatch (e.at q)) (at_place M e.role q h frame read.0 time)))

-- Address 1 chooses the suite
abbrev pub suite_for : Suites → Header → Meaning
suite_for S h = cond (is_group h.address1) S.group S.pairwise

abbrev pub coded_suites : Suites → CodedSuites
coded_suites S = record { pairwise = has_code S.pairwise.sizes; group = has_code S.group.sizes }

unfoldable pub judge_arrive : Suites → End → Arrival → Verdict
judge_arrive S e a =
    settled (then (admitted (coded_suites S) e a.frame a.time (length a.working) (length a.message)) (λ h.
    over_suite (suite_for S h) e h a.frame a.time))
