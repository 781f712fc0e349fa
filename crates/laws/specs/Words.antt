-- The words of the laws over runs: what comes to an end, an installation while it stands, frames and counters, two ends
-- that face each other.
use Rattle.std.specs.Prelude.{◌≡◌, ℕ, ◌+◌, ◌<◌, ◌≤◌, Bool, true, false, cond, not, List, [], ◌∷◌, ◌++◌, map, length, take, drop, Some, None, Ok, Err, Option, Result, ◌==◌, ◌≢◌}
use Rattle.std.specs.List.{AllByRecursion}
use Rattle.octets.specs.Octets.{Octets, AreOctets, part}
use Rattle.frame.specs.Addresses.{number, is_group}
use Rattle.frame.specs.Headers.{header_length}
use Rattle.frame.specs.declared.addresses.Address.{Address}
use Rattle.suite.specs.Meaning.{Meaning}
use Rattle.suite.specs.Laws.{OctetsOf}
use Rattle.suite.specs.declared.faults.HeadFault.{HeadFault}
use Rattle.ends.specs.declared.places.Place.{Place}
use Rattle.ends.specs.declared.places.Place.TheVariants.{Pairwise, Group}
use Rattle.ends.specs.declared.roles.Role.{Role}
use Rattle.ends.specs.declared.requests.Span.{Span}
use Rattle.ends.specs.declared.answers.Arrived.TheVariants.{Held, Delivered}
use Rattle.ends.specs.declared.refusals.Refusal.{Refusal}
use Rattle.ends.specs.declared.refusals.Refusal.TheVariants.{ClockRange, NoSuchPlace, WrongAddress, KeyLength, StartAboveTop, SuiteBlocked, PlaceTaken, PlaceEmpty, MessageLength, PieceLength, CountersSpent, MemoryShort, FrameLength, NotForThisEnd, Unprotected, ArrivalBlocked, HeadRefused, NoMatch, Replayed, OutOfTurn, OpenRefused, AssembledLength, CodeFailed, BlockBegun}
use Rattle.ends.specs.Refusals.{refusal_number}
use Rattle.ends.specs.Places.{same_place, is_base, Suites, suite_at}
use Rattle.ends.specs.Holding.{Filling, End}
use Rattle.ends.specs.Calls.{Installing, Sending, Arrival, Call, Answer}
use Rattle.ends.specs.Calls.Call.{Install, Remove, Send, Arrive}
use Rattle.ends.specs.Calls.Answer.{Refused, Granted, Sent, Came}
use Rattle.ends.specs.Checks.{last_time, blocked, has_code}
use Rattle.ends.specs.Steps.{Step, step, run, final, is_failed_code}

-- what an end is given

-- an address that an end may have: six octets, and not a group's
pub record Station (own : Address) : Type 0 where
  pub six : OctetsOf 6 own.octets
  pub single : is_group own ≡ false

-- a call that is given octets: keys, messages and frames of numbers below 256, addresses of six
abbrev pub OfOctets : Call → Type 0
OfOctets (Install i) = AreOctets i.key × OctetsOf 6 i.address.octets
OfOctets (Remove p) = Unit {0}
OfOctets (Send s) = AreOctets s.message × OctetsOf 6 s.request.destination.octets × OctetsOf 6 s.request.source.octets
OfOctets (Arrive a) = AreOctets a.frame

-- striking out

-- refused, and not for a failed code
abbrev pub is_struck : Answer → Bool
is_struck (Refused r) = not (is_failed_code r)
is_struck Granted = false
is_struck (Sent n) = false
is_struck (Came a) = false

-- the steps that remain once the calls so refused are struck out
abbrev pub remaining : List Step → List Step
remaining [] = []
remaining (s ∷ steps) = cond (is_struck s.answer) (remaining steps) (s ∷ remaining steps)

abbrev pub calls_of : List Step → List Call
calls_of steps = map (λ s. s.call) steps

-- an installation while it stands

abbrev pub is_refused : Answer → Bool
is_refused (Refused r) = true
is_refused Granted = false
is_refused (Sent n) = false
is_refused (Came a) = false

-- a granted remove of the place
abbrev pub removes : Place → Call → Answer → Bool
removes p (Install i) told = false
removes p (Remove q) told = cond (is_refused told) false (same_place p q)
removes p (Send s) told = false
removes p (Arrive a) told = false

-- a block begins, which empties the place where its suite has a code
abbrev pub blocks : Suites → Place → Answer → Bool
blocks S p (Refused r) = cond (refusal_number r == 24) (has_code (suite_at S p).sizes) false
blocks S p Granted = false
blocks S p (Sent n) = false
blocks S p (Came a) = false

-- a step does not end the installation in the place
pub record Lasts (S : Suites) (p : Place) (s : Step) : Type 0 where
  pub not_removed : removes p s.call s.answer ≡ false
  pub not_blocked : blocks S p s.answer ≡ false

-- an installation in a run: the calls earlier, the granted install, and calls later, none of which ends it
pub record Standing (S : Suites) (start : End) : Type 0 where
  pub earlier : List Call
  pub install : Installing
  pub later : List Call
  pub granted : (step S (final S start earlier) (Install install)).answer ≡ Granted
  pub stands : AllByRecursion (Lasts S install.place) (run S (step S (final S start earlier) (Install install)).after later)

-- all calls of the run
abbrev pub calls_in : {S : Suites} {start : End} → Standing S start → List Call
calls_in x = x.earlier ++ (Install x.install ∷ x.later)

-- the end as the install left it, the steps since then, and the end as it is now
abbrev pub begun : {S : Suites} {start : End} → Standing S start → End
begun {S} {start} x = (step S (final S start x.earlier) (Install x.install)).after

abbrev pub steps_under : {S : Suites} {start : End} → Standing S start → List Step
steps_under {S} x = run S (begun x) x.later

abbrev pub end_of : {S : Suites} {start : End} → Standing S start → End
end_of {S} x = final S (begun x) x.later

-- frames and counters

abbrev pub sends_under : Place → Call → Bool
sends_under p (Install i) = false
sends_under p (Remove q) = false
sends_under p (Send s) = same_place p s.request.place
sends_under p (Arrive a) = false

abbrev pub sent_count : Answer → ℕ
sent_count (Refused r) = 0
sent_count Granted = 0
sent_count (Sent n) = n
sent_count (Came a) = 0

-- what stands in a memory at these offsets, with these lengths
abbrev pub cut_out : List Span → Octets → List Octets
cut_out spans memory = map (λ s. part s.offset s.length memory) spans

-- the frames that a step has sent under a place, as the two memories give them
abbrev pub sent_under : Place → Step → List Octets
sent_under p s = cond (sends_under p s.call) (cut_out (take (sent_count s.answer) s.memories.index) s.memories.frames) []

abbrev pub all_sent_under : Place → List Step → List Octets
all_sent_under p [] = []
all_sent_under p (s ∷ steps) = sent_under p s ++ all_sent_under p steps

abbrev pub counter_read : Result (ℕ × ℕ) HeadFault → Option ℕ
counter_read (Ok (counter, id)) = Some counter
counter_read (Err fault) = None

-- a frame's counter: what head reads from its body
abbrev pub counter_in : Meaning → Octets → Option ℕ
counter_in M frame = counter_read (M.head (drop header_length frame))

-- the counter of a message that was delivered under a place
abbrev pub delivered_under : Place → Answer → List ℕ
delivered_under p (Refused r) = []
delivered_under p Granted = []
delivered_under p (Sent n) = []
delivered_under p (Came (Held q fragment)) = []
delivered_under p (Came (Delivered d)) = cond (same_place p d.place) (d.counter ∷ []) []

abbrev pub all_delivered_under : Place → List Step → List ℕ
all_delivered_under p [] = []
all_delivered_under p (s ∷ steps) = delivered_under p s.answer ++ all_delivered_under p steps

-- no two are the same
abbrev pub Differ : List ℕ → Type 0
Differ [] = Unit {0}
Differ (x ∷ xs) = AllByRecursion (λ y. x ≢ y) xs × Differ xs

-- each is below all that follow
abbrev pub Rise : List ℕ → Type 0
Rise [] = Unit {0}
Rise (x ∷ xs) = AllByRecursion (λ y. x < y) xs × Rise xs

-- installations that face each other

-- an end of this role and own address holds an address in a place; the other end, with its own, holds one in its place.
-- Pairwise, each holds the other end's; for a group, the key IDs agree and both hold the base's
abbrev pub AddressesFit : Role → Address → Place → Address → Address → Place → Address → Type 0
AddressesFit role own (Pairwise m) a own' (Pairwise n) a' = (a ≡ own') × (a' ≡ own)
AddressesFit role own (Pairwise m) a own' (Group n) a' = ⊥
AddressesFit role own (Group m) a own' (Pairwise n) a' = ⊥
AddressesFit role own (Group m) a own' (Group n) a' =
    (m ≡ n) × (a ≡ cond (is_base role) own own') × (a' ≡ cond (is_base role) own own')

-- suite, key and kind agree, the roles differ, and the addresses fit
pub record Facing (S T : Suites) (role role' : Role) (own own' : Address) (i i' : Installing) : Type 0 where
  pub suite_agrees : suite_at S i.place ≡ suite_at T i'.place
  pub key_agrees : i.key ≡ i'.key
  pub roles_differ : is_base role ≡ not (is_base role')
  pub addresses_fit : AddressesFit role own i.place i.address own' i'.place i'.address

-- a message on its way to the facing end

-- what comes to the end that receives: a frame of the message, or any other call
pub data Coming : Type 0 where
  Frame : Arrival → Coming
  Other : Call → Coming

abbrev pub call_of : Coming → Call
call_of (Frame a) = Arrive a
call_of (Other c) = c

abbrev pub frames_coming : List Coming → List Octets
frames_coming [] = []
frames_coming (Frame a ∷ coming) = a.frame ∷ frames_coming coming
frames_coming (Other c ∷ coming) = frames_coming coming

-- of the steps that what comes makes, those of the message's frames
abbrev pub frame_steps : List Coming → List Step → List Step
frame_steps [] steps = []
frame_steps (c ∷ coming) [] = []
frame_steps (Frame a ∷ coming) (s ∷ steps) = s ∷ frame_steps coming steps
frame_steps (Other c ∷ coming) (s ∷ steps) = frame_steps coming steps

abbrev pub replay_of : Option Filling → ℕ
replay_of None = 0
replay_of (Some f) = f.replay

-- a frame's counter is above the replay counter in a place
abbrev pub Above : Meaning → End → Place → Octets → Type 0
Above M e q frame = (counter : ℕ) → counter_in M frame ≡ Some counter → replay_of (e.at q) < counter

-- clock and memories are in range, outside any block
pub record InRange (M : Meaning) (e : End) (a : Arrival) : Type 0 where
  pub clock : a.time ≤ last_time
  pub working : 2560 ≤ length a.working
  pub message : 2304 ≤ length a.message
  pub unblocked : blocked (has_code M.sizes) e a.time ≡ false

-- a refusal that names this place
abbrev pub names : Place → Refusal → Bool
names q ClockRange = false
names q NoSuchPlace = false
names q WrongAddress = false
names q KeyLength = false
names q StartAboveTop = false
names q SuiteBlocked = false
names q PlaceTaken = false
names q PlaceEmpty = false
names q MessageLength = false
names q PieceLength = false
names q CountersSpent = false
names q MemoryShort = false
names q FrameLength = false
names q NotForThisEnd = false
names q Unprotected = false
names q ArrivalBlocked = false
names q (HeadRefused fault) = false
names q NoMatch = false
names q (Replayed p fragment) = same_place q p
names q (OutOfTurn p fragment) = same_place q p
names q (OpenRefused p fragment fault) = same_place q p
names q (AssembledLength p fragment) = same_place q p
names q (CodeFailed p fragment) = same_place q p
names q (BlockBegun p fragment) = same_place q p

-- held, delivered or failed in its code, under this place
abbrev pub touches : Place → Answer → Bool
touches q (Refused r) = cond (is_failed_code r) (names q r) false
touches q Granted = false
touches q (Sent n) = false
touches q (Came (Held p fragment)) = same_place q p
touches q (Came (Delivered d)) = same_place q d.place

-- a call that is none of the message's frames neither ends the installation in a place nor touches it
pub record Apart (S : Suites) (q : Place) (s : Step) : Type 0 where
  pub lasts : Lasts S q s
  pub untouched : touches q s.answer ≡ false

-- each frame of the message comes in range, and all other calls stay apart
abbrev pub Undisturbed : Suites → Place → List Coming → List Step → Type 0
Undisturbed S q [] steps = Unit {0}
Undisturbed S q (c ∷ coming) [] = Unit {0}
Undisturbed S q (Frame a ∷ coming) (s ∷ steps) = InRange (suite_at S q) s.before a × Undisturbed S q coming steps
Undisturbed S q (Other c ∷ coming) (s ∷ steps) = Apart S q s × Undisturbed S q coming steps

-- the answer to a last frame: delivered under this place, with this counter, and the message at the start of its memory
pub record LastDelivered (q : Place) (destination source : Address) (message : Octets) (counter : Option ℕ) (s : Step) : Type 0 where
  pub own_counter : ℕ
  pub counter_is : counter ≡ Some own_counter
  pub answered : s.answer ≡ Came (Delivered (record { place = q; destination = number destination; source = number source; counter = own_counter; length = length message }))
  pub left : take (length message) s.memories.message ≡ message

-- frames, and the steps in which they arrive: all but the last are held, with fragment numbers from this one on; the last
-- is delivered, with its own counter
abbrev pub AsSent : Meaning → Place → Address → Address → Octets → ℕ → List Octets → List Step → Type 0
AsSent M q destination source message fragment [] steps = ⊥
AsSent M q destination source message fragment (frame ∷ frames) [] = ⊥
AsSent M q destination source message fragment (frame ∷ []) (s ∷ steps) = LastDelivered q destination source message (counter_in M frame) s
AsSent M q destination source message fragment (frame ∷ next ∷ frames) (s ∷ steps) =
    (s.answer ≡ Came (Held q fragment)) × AsSent M q destination source message (fragment + 1) (next ∷ frames) steps

-- a message crosses: it is sent under one installation, and its frames come, unaltered and in turn, to the end of the
-- facing one, above its replay counter and undisturbed
pub record Crossing (S T : Suites) (role role' : Role) (own own' : Address) (here : End) (i : Installing) (there : End) (i' : Installing) (s : Sending) (coming : List Coming) : Type 0 where
  pub facing : Facing S T role role' own own' i i'
  pub under : s.request.place ≡ i.place
  pub count : ℕ
  pub granted : (step S here (Send s)).answer ≡ Sent count
  pub unaltered : frames_coming coming ≡ sent_under i.place (step S here (Send s))
  pub above : AllByRecursion (Above (suite_at T i'.place) there i'.place) (sent_under i.place (step S here (Send s)))
  pub undisturbed : Undisturbed T i'.place coming (run T there (map call_of coming))
