-- What comes to an end, what it decides, and what it answers.
use Rattle.std.specs.Prelude.{ℕ, List, Ok, Err, Result}
use Rattle.octets.specs.Octets.{Octets}
use Rattle.frame.specs.declared.addresses.Address.{Address}
use Rattle.ends.specs.declared.places.Place.{Place}
use Rattle.ends.specs.declared.refusals.Refusal.{Refusal}
use Rattle.ends.specs.declared.requests.InstallRequest.{InstallRequest}
use Rattle.ends.specs.declared.requests.Request.{Request}
use Rattle.ends.specs.declared.requests.Span.{Span}
use Rattle.ends.specs.declared.answers.Arrived.{Arrived}
use Rattle.ends.specs.Holding.{Filling, Part}

pub record Installing : Type 0 where
  pub place : Place
  pub key : Octets
  pub address : Address
  -- where the replay counter starts
  pub start : ℕ
  pub time : ℕ

-- a send, with its memories as they stand at its start
pub record Sending : Type 0 where
  pub request : Request
  pub message : Octets
  pub frames : Octets
  pub index : List Span
  pub working : Octets

-- an arrival, with its memories as they stand at its start
pub record Arrival : Type 0 where
  pub frame : Octets
  pub time : ℕ
  pub working : Octets
  pub message : Octets

-- calls from their parts
abbrev pub installing : Place → Octets → Address → ℕ → ℕ → Installing
installing place key address start time = record { place = place; key = key; address = address; start = start; time = time }

-- what an install is asked for
abbrev pub asked : InstallRequest → Installing
asked r = installing r.place r.key.now r.address r.start r.time

abbrev pub sending : Request → Octets → Octets → List Span → Octets → Sending
sending request message frames index working = record { request = request; message = message; frames = frames; index = index; working = working }

abbrev pub arrival : Octets → ℕ → Octets → Octets → Arrival
arrival frame time working message = record { frame = frame; time = time; working = working; message = message }

pub data Call : Type 0 where
  Install : Installing → Call
  Remove : Place → Call
  Send : Sending → Call
  Arrive : Arrival → Call

-- what is decided of a call; the place and what fills it before
pub data Verdict : Type 0 where
  Refuses : Refusal → Verdict
  Fills : Place → Filling → Verdict
  Empties : Place → Verdict
  -- these frames are sent
  Sends : Place → Filling → List Octets → Verdict
  -- a piece is held: the partial message with it
  Holds : Place → Filling → Part → Verdict
  -- counter, destination, source, message
  Delivers : Place → Filling → ℕ → Address → Address → Octets → Verdict
  -- a code failed: fragment, time
  Fails : Place → Filling → ℕ → ℕ → Verdict

pub data Answer : Type 0 where
  Refused : Refusal → Answer
  Granted : Answer
  -- so many frames
  Sent : ℕ → Answer
  Came : Arrived → Answer

-- an answer as the code gives it
abbrev pub told : {A : Type 0} → (A → Answer) → Result A Refusal → Answer
told granted (Ok x) = granted x
told granted (Err r) = Refused r
