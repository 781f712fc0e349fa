-- Send: which message goes out, in which frames.
use Rattle.std.specs.Prelude.{ℕ, ◌+◌, ◌-◌, ◌*◌, ◌/◌, ◌%◌, min, Bool, true, false, cond, not, List, [], ◌∷◌, ◌++◌, map, length, Ok, Result, ◌==◌, nat_lt}
use Rattle.std.specs.List.{range_with_len}
use Rattle.octets.specs.Octets.{Octets, part}
use Rattle.frame.specs.Addresses.{is_group}
use Rattle.frame.specs.Headers.{header_length, header_octets}
use Rattle.frame.specs.declared.addresses.Address.{Address}
use Rattle.frame.specs.declared.headers.Header.{Header}
use Rattle.suite.specs.Meaning.{Meaning}
use Rattle.suite.specs.declared.sizes.Sizes.{Sizes}
use Rattle.suite.specs.declared.sizes.Direction.{Direction}
use Rattle.suite.specs.declared.sizes.Direction.TheVariants.{FromBase, FromLogger}
use Rattle.ends.specs.declared.places.Place.{Place}
use Rattle.ends.specs.declared.roles.Role.{Role}
use Rattle.ends.specs.declared.roles.Role.TheVariants.{Base, Logger}
use Rattle.ends.specs.declared.requests.Plan.{Plan}
use Rattle.ends.specs.declared.requests.Request.{Request}
use Rattle.ends.specs.declared.requests.Span.{Span}
use Rattle.ends.specs.declared.refusals.Refusal.{Refusal}
use Rattle.ends.specs.declared.refusals.Refusal.TheVariants.{ClockRange, NoSuchPlace, WrongAddress, SuiteBlocked, PlaceEmpty, MessageLength, PieceLength, CountersSpent, MemoryShort}
use Rattle.ends.specs.Places.{exists, is_group_place, key_id_of, is_base}
use Rattle.ends.specs.Holding.{Filling, End, key_for}
use Rattle.ends.specs.Calls.{Sending, Verdict}
use Rattle.ends.specs.Calls.Verdict.{Sends}
use Rattle.ends.specs.Checks.{Check, first, then, or_refuse, settled, last_time, blocked, has_code}

-- the frames of a message

-- the direction in which an end of this role sends
abbrev pub direction_from : Role → Direction
direction_from Base = FromBase
direction_from Logger = FromLogger

-- the header of frame i: more fragments on all but the last
abbrev pub header_of : Plan → ℕ → Header
header_of p i =
    record { to_ds = not (is_base p.role); from_ds = is_base p.role; more_fragments = nat_lt (i + 1) p.count; protected = true; order = false; address1 = p.address1; address2 = p.address2; address3 = p.address3; sequence = p.sequence; fragment = i }

-- piece i of the octets; the last may be shorter
abbrev pub piece_of : Plan → Octets → ℕ → Octets
piece_of p octets i = part (i * p.piece_length) p.piece_length octets

-- frame i: its header, and its piece sealed under the next counter
abbrev pub frame_of : Meaning → Plan → Octets → Octets → ℕ → Octets
frame_of M p key octets i =
    header_octets (header_of p i) ++ M.seal key (header_octets (header_of p i)) p.key_id (p.counter + i) (piece_of p octets i)

abbrev pub frames_of : Meaning → Plan → Octets → Octets → List Octets
frames_of M p key octets = map (frame_of M p key octets) (range_with_len 0 p.count)

-- what is cut into pieces: the message, and then its code
abbrev pub coded : Meaning → Plan → Octets → Octets → Octets
coded M p key message = message ++ M.code key (direction_from p.role) p.destination p.source 0 message

-- how a message goes out

-- how many pieces so many octets make
abbrev pub pieces : ℕ → ℕ → ℕ
pieces size piece = size / piece + min 1 (size % piece)

-- a base sends pairwise to the place's far end, and a logger speaks for itself
abbrev pub destination_of : Role → Place → Request → Filling → Address
destination_of Base p q f = cond (is_group_place p) q.destination f.address
destination_of Logger p q f = q.destination

abbrev pub source_of : Role → Address → Request → Address
source_of Base own q = q.source
source_of Logger own q = own

-- Address 1 is the receiver, Address 3 what the other two leave out
abbrev pub address1_of : Role → Address → Filling → Address
address1_of Base destination f = destination
address1_of Logger destination f = f.address

abbrev pub address3_of : Role → Address → Address → Address
address3_of Base destination source = source
address3_of Logger destination source = destination

abbrev pub plan_of : Sizes → End → Request → ℕ → Filling → Plan
plan_of z e q size f =
    let destination = destination_of e.role q.place q f in
    let source = source_of e.role e.own q in
    record { role = e.role; key_id = key_id_of q.place; counter = f.send; sequence = e.sequence; destination = destination; source = source; address1 = address1_of e.role destination f; address2 = e.own; address3 = address3_of e.role destination source; piece_length = q.piece_length; count = pieces (size + z.code) q.piece_length }

-- when it is refused

abbrev pub group_from_logger : Role → Place → Bool
group_from_logger Base p = false
group_from_logger Logger p = is_group_place p

abbrev pub wrong_source : Role → Address → Bool
wrong_source Base source = is_group source
wrong_source Logger source = false

abbrev pub wrong_destination : Role → Place → Address → Bool
wrong_destination Base p destination = cond (is_group_place p) (not (is_group destination)) false
wrong_destination Logger p destination = false

abbrev pub request_checks : Sizes → End → Request → List Check
request_checks z e q =
    (nat_lt last_time q.time, ClockRange)
    ∷ (not (exists q.place), NoSuchPlace)
    ∷ (group_from_logger e.role q.place, NoSuchPlace)
    ∷ (wrong_source e.role q.source, WrongAddress)
    ∷ (wrong_destination e.role q.place q.destination, WrongAddress)
    ∷ (blocked (has_code z) e q.time, SuiteBlocked)
    ∷ []

-- the octets that all frames take together: each has a header, a head and a tail
abbrev pub room : Sizes → ℕ → ℕ → ℕ
room z count size = count * (header_length + z.head + z.tail) + size

-- of a message of so many octets, cut at this length
abbrev pub length_checks : Sizes → ℕ → ℕ → List Check
length_checks z size piece =
    (nat_lt size 1, MessageLength)
    ∷ (nat_lt 2304 size, MessageLength)
    ∷ ((piece % 2 == 1), PieceLength)
    ∷ (nat_lt piece 64, PieceLength)
    ∷ (nat_lt 2312 piece, PieceLength)
    ∷ (nat_lt 16 (pieces (size + z.code) piece), PieceLength)
    ∷ []

-- the counters that are left, and the lengths of the three memories
abbrev pub supply_checks : Sizes → ℕ → ℕ → ℕ → ℕ → ℕ → ℕ → List Check
supply_checks z size count send frames index working =
    (nat_lt (z.top + 1 - send) count, CountersSpent)
    ∷ (nat_lt frames (room z count (size + z.code)), MemoryShort)
    ∷ (nat_lt index count, MemoryShort)
    ∷ (nat_lt working 2560, MemoryShort)
    ∷ []

-- the plan of a message of so many octets, and what fills its place
abbrev pub planned : Sizes → End → Request → ℕ → ℕ → ℕ → ℕ → Result (Filling × Plan) Refusal
planned z e q size frames index working =
    then (first (request_checks z e q) (tt {0})) (λ _.
    then (or_refuse PlaceEmpty (e.at q.place)) (λ f.
    then (first (length_checks z size q.piece_length) (tt {0})) (λ _.
    first (supply_checks z size (plan_of z e q size f).count f.send frames index working) (f, plan_of z e q size f))))

-- the frames that a plan makes of a message
unfoldable pub frames_by : Meaning → Filling → Plan → Octets → List Octets
frames_by M f p message = frames_of M p (key_for M f) (coded M p (key_for M f) message)

unfoldable pub judge_send : Meaning → End → Sending → Verdict
judge_send M e s =
    settled (then (planned M.sizes e s.request (length s.message) (length s.frames) (length s.index) (length s.working)) (λ x.
    Ok (Sends s.request.place x.0 (frames_by M x.0 x.1 s.message))))

-- what it leaves in its memories

abbrev pub joined : List Octets → Octets
joined [] = []
joined (x ∷ xs) = x ++ joined xs

-- offset and length of each frame, the first at this offset
abbrev pub spans : ℕ → List Octets → List Span
spans offset [] = []
spans offset (x ∷ xs) = record { offset = offset; length = length x } ∷ spans (offset + length x) xs
