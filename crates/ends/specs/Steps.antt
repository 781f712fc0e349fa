-- What a verdict leaves in the end, in the answer and in every memory; steps and runs.
use Rattle.std.specs.Prelude.{◌≡◌, ℕ, ◌+◌, ◌%◌, Bool, true, false, cond, List, [], ◌∷◌, ◌++◌, length, drop, replicate, Some, None, Option, ◌==◌, nat_lt}
use Rattle.octets.specs.Octets.{Octets, begins}
use Rattle.frame.specs.Addresses.{number}
use Rattle.ends.specs.declared.places.Place.{Place}
use Rattle.ends.specs.declared.places.Place.TheVariants.{Pairwise, Group}
use Rattle.ends.specs.declared.roles.CodedSuites.{CodedSuites}
use Rattle.ends.specs.declared.requests.Span.{Span}
use Rattle.ends.specs.declared.answers.Arrived.TheVariants.{Held, Delivered}
use Rattle.ends.specs.declared.refusals.Refusal.{Refusal}
use Rattle.ends.specs.declared.refusals.Refusal.TheVariants.{CodeFailed, BlockBegun}
use Rattle.ends.specs.Refusals.{refusal_number}
use Rattle.ends.specs.Places.{Suites, suite_at}
use Rattle.ends.specs.Holding.{Filling, End, put, with_place, with_partial, sent_on, delivered_at}
use Rattle.ends.specs.Calls.{Call, Verdict, Answer}
use Rattle.ends.specs.Calls.Call.{Install, Remove, Send, Arrive}
use Rattle.ends.specs.Calls.Verdict.{Refuses, Fills, Empties, Sends, Holds, Delivers, Fails}
use Rattle.ends.specs.Calls.Answer.{Refused, Granted, Sent, Came}
use Rattle.ends.specs.Installs.{judge_install, judge_remove}
use Rattle.ends.specs.Sends.{judge_send, joined, spans}
use Rattle.ends.specs.Arrivals.{judge_arrive, coded_suites}

abbrev pub judge : Suites → End → Call → Verdict
judge S e (Install i) = judge_install (suite_at S i.place).sizes e i
judge S e (Remove p) = judge_remove e p
judge S e (Send s) = judge_send (suite_at S s.request.place) e s
judge S e (Arrive a) = judge_arrive S e a

-- failed codes

abbrev pub minute : ℕ
minute = 60000

-- a code fails again within a minute of the last; a clock that stepped back counts as within
abbrev pub soon : ℕ → Option ℕ → Bool
soon time None = false
soon time (Some failure) = nat_lt time (failure + minute)

abbrev pub coded_at : CodedSuites → Place → Bool
coded_at c (Pairwise n) = c.pairwise
coded_at c (Group n) = c.group

abbrev pub emptied : CodedSuites → (Place → Option Filling) → Place → Option Filling
emptied c at p = cond (coded_at c p) None (at p)

-- a second failure begins a block, which empties each place whose suite has a code
abbrev pub failing : CodedSuites → End → ℕ → End
failing c e time =
    cond (soon time e.failure)
    (record { role = e.role; own = e.own; at = emptied c e.at; sequence = e.sequence; failure = Some time; block = Some (time + minute) })
    (record { role = e.role; own = e.own; at = e.at; sequence = e.sequence; failure = Some time; block = e.block })

-- what a verdict leaves

-- the sequence number after a send
abbrev pub next_sequence : ℕ → ℕ
next_sequence n = (n + 1) % 4096

abbrev pub sent_from : End → Place → Filling → ℕ → End
sent_from e p f count =
    record { role = e.role; own = e.own; at = put e.at p (Some (sent_on f count)); sequence = next_sequence e.sequence; failure = e.failure; block = e.block }

abbrev pub after : Suites → End → Verdict → End
after S e (Refuses r) = e
after S e (Fills p f) = with_place e p (Some f)
after S e (Empties p) = with_place e p None
after S e (Sends p f frames) = sent_from e p f (length frames)
after S e (Holds p f part) = with_place e p (Some (with_partial f (Some part)))
after S e (Delivers p f counter destination source message) = with_place e p (Some (delivered_at f counter))
after S e (Fails p f fragment time) = failing (coded_suites S) (with_place e p (Some (with_partial f None))) time

-- the refusal of a failed code
abbrev pub failed : Bool → Place → ℕ → Refusal
failed true p fragment = BlockBegun p fragment
failed false p fragment = CodeFailed p fragment

abbrev pub answer : End → Verdict → Answer
answer e (Refuses r) = Refused r
answer e (Fills p f) = Granted
answer e (Empties p) = Granted
answer e (Sends p f frames) = Sent (length frames)
answer e (Holds p f part) = Came (Held p part.fragment)
answer e (Delivers p f counter destination source message) =
    Came (Delivered (record { place = p; destination = number destination; source = number source; counter = counter; length = length message }))
answer e (Fails p f fragment time) = Refused (failed (soon time e.failure) p fragment)

abbrev pub frames_sent : Verdict → List Octets
frames_sent (Refuses r) = []
frames_sent (Fills p f) = []
frames_sent (Empties p) = []
frames_sent (Sends p f frames) = frames
frames_sent (Holds p f part) = []
frames_sent (Delivers p f counter destination source message) = []
frames_sent (Fails p f fragment time) = []

abbrev pub message_delivered : Verdict → Octets
message_delivered (Refuses r) = []
message_delivered (Fills p f) = []
message_delivered (Empties p) = []
message_delivered (Sends p f frames) = []
message_delivered (Holds p f part) = []
message_delivered (Delivers p f counter destination source message) = message
message_delivered (Fails p f fragment time) = []

-- what the memories that a call was lent hold; a call that is not lent one has none there
pub record Memories : Type 0 where
  pub frames : Octets
  pub index : List Span
  pub working : Octets
  pub message : Octets

abbrev pub no_memories : Memories
no_memories = record { frames = []; index = []; working = []; message = [] }

abbrev pub memories_of_send : Octets → List Span → Octets → Memories
memories_of_send frames index working = record { frames = frames; index = index; working = working; message = [] }

abbrev pub memories_of_arrival : Octets → Octets → Memories
memories_of_arrival working message = record { frames = []; index = []; working = working; message = message }

abbrev pub wiped : Octets → Octets
wiped memory = replicate (length memory) 0

-- an index memory once rows were written at its start
abbrev pub rows_begin : List Span → List Span → List Span
rows_begin rows old = rows ++ drop (length rows) old

abbrev pub memories : Call → Verdict → Memories
memories (Install i) v = no_memories
memories (Remove p) v = no_memories
memories (Send s) v = memories_of_send (begins (joined (frames_sent v)) s.frames) (rows_begin (spans 0 (frames_sent v)) s.index) (wiped s.working)
memories (Arrive a) v = memories_of_arrival (wiped a.working) (begins (message_delivered v) a.message)

-- steps and runs

pub record Step : Type 0 where
  pub before : End
  pub call : Call
  pub answer : Answer
  pub memories : Memories
  pub after : End

abbrev pub step_by : Suites → End → Call → Verdict → Step
step_by S e c v = record { before = e; call = c; answer = answer e v; memories = memories c v; after = after S e v }

abbrev pub step : Suites → End → Call → Step
step S e c = step_by S e c (judge S e c)

abbrev pub run : Suites → End → List Call → List Step
run S e [] = []
run S e (c ∷ cs) = step S e c ∷ run S (step S e c).after cs

-- what the end holds when all calls were made
abbrev pub final : Suites → End → List Call → End
final S e [] = e
final S e (c ∷ cs) = final S (step S e c).after cs

-- what took place in a call is the step of these definitions: answer, end and memories
pub record IsStep (S : Suites) (e : End) (c : Call) (told : Answer) (end : End) (left : Memories) : Type 0 where
  pub answered : told ≡ (step S e c).answer
  pub holds : end ≡ (step S e c).after
  pub leaves : left ≡ (step S e c).memories

-- what a refusal leaves

abbrev pub is_failed_code : Refusal → Bool
is_failed_code r = cond (refusal_number r == 23) true (refusal_number r == 24)

-- the memories as a call was lent them, the working memory wiped
abbrev pub as_lent : Call → Memories
as_lent (Install i) = no_memories
as_lent (Remove p) = no_memories
as_lent (Send s) = memories_of_send s.frames s.index (wiped s.working)
as_lent (Arrive a) = memories_of_arrival (wiped a.working) a.message

-- a call that is refused, unless for a failed code, changes nothing but working memory, which ends as zeros
abbrev pub RefusalsChangeNothing : Suites → Type 0
RefusalsChangeNothing S =
    (e : End) (c : Call) (r : Refusal) → (step S e c).answer ≡ Refused r → is_failed_code r ≡ false → ((step S e c).after ≡ e) × ((step S e c).memories ≡ as_lent c)
