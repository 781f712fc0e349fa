-- What a send leaves: the counters of its place, and all that a verdict says.
use Rattle.std.specs.Prelude.{◌≡◌, ℕ, List, Some, None, Option, Result}
use Rattle.octets.specs.Octets.{Octets, begins}
use Rattle.ends.specs.declared.places.Place.{Place}
use Rattle.ends.specs.declared.refusals.Refusal.{Refusal}
use Rattle.ends.specs.declared.requests.Span.{Span}
use Rattle.ends.specs.Places.{Suites}
use Rattle.ends.specs.Holding.{Filling, End, put, sent_on}
use Rattle.ends.specs.Calls.{Verdict, told}
use Rattle.ends.specs.Calls.Answer.{Sent}
use Rattle.ends.specs.Sends.{joined, spans}
use Rattle.ends.specs.Steps.{rows_begin, answer, after, frames_sent, next_sequence}

-- the next counter of a place
abbrev pub next_counter : Option Filling → ℕ
next_counter None = 0
next_counter (Some f) = f.send

-- n counters of a place were used; an empty one has none
abbrev pub used : Option Filling → ℕ → Option Filling
used None n = None
used (Some f) n = Some (sent_on f n)

-- an end that sent n frames from a place
abbrev pub having_sent : End → Place → ℕ → End
having_sent e p n =
    record { role = e.role; own = e.own; at = put e.at p (used (e.at p) n); sequence = next_sequence e.sequence; failure = e.failure; block = e.block }

-- an answer, an end and two memories are what a verdict on this end leaves, whichever suites the end has
pub record Leaves (v : Verdict) (e e' : End) (r : Result ℕ Refusal) (old-frames new-frames : Octets) (old-index new-index : List Span) : Type 0 where
  pub answered : told Sent r ≡ answer e v
  pub holds : (S : Suites) → e' ≡ after S e v
  pub frames : new-frames ≡ begins (joined (frames_sent v)) old-frames
  pub index : new-index ≡ rows_begin (spans 0 (frames_sent v)) old-index
