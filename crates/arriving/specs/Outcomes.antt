-- What a verdict on an arrival means at its place, and at the end.
use Rattle.std.specs.Prelude.{◌≡◌, ℕ, Bool, length, Some, None, Ok, Err, Option, Result}
use Rattle.octets.specs.Octets.{Octets, begins}
use Rattle.frame.specs.Addresses.{number}
use Rattle.ends.specs.declared.places.Place.{Place}
use Rattle.ends.specs.declared.roles.CodedSuites.{CodedSuites}
use Rattle.ends.specs.declared.answers.Arrived.{Arrived}
use Rattle.ends.specs.declared.answers.Arrived.TheVariants.{Held, Delivered}
use Rattle.ends.specs.declared.refusals.Refusal.{Refusal}
use Rattle.ends.specs.declared.refusals.Refusal.TheVariants.{NoMatch}
use Rattle.ends.specs.Places.{Suites}
use Rattle.ends.specs.Holding.{Filling, End, with_place, with_partial, delivered_at}
use Rattle.ends.specs.Calls.{Verdict, told}
use Rattle.ends.specs.Calls.Verdict.{Refuses, Fills, Empties, Sends, Holds, Delivers, Fails}
use Rattle.ends.specs.Calls.Answer.{Came}
use Rattle.ends.specs.Arrivals.{coded_suites}
use Rattle.ends.specs.Steps.{after, answer, message_delivered, failing, failed}
use Rattle.arriving.specs.declared.completing.Failure.{Failure}
use Rattle.arriving.specs.declared.completing.Failure.TheVariants.{Refused, CodeFailed}

-- what came of a piece; an arrival neither fills a place nor empties one, nor does it send
abbrev pub outcome : Verdict → Result Arrived Failure
outcome (Refuses r) = Err (Refused r)
outcome (Fills p f) = Err (Refused NoMatch)
outcome (Empties p) = Err (Refused NoMatch)
outcome (Sends p f frames) = Err (Refused NoMatch)
outcome (Holds p f part) = Ok (Held p part.fragment)
outcome (Delivers p f counter destination source message) =
    Ok (Delivered (record { place = p; destination = number destination; source = number source; counter = counter; length = length message }))
outcome (Fails p f fragment time) = Err CodeFailed

-- what fills the place then
abbrev pub left : Option Filling → Verdict → Option Filling
left was (Refuses r) = was
left was (Fills p f) = was
left was (Empties p) = was
left was (Sends p f frames) = was
left was (Holds p f part) = Some (with_partial f (Some part))
left was (Delivers p f counter destination source message) = Some (delivered_at f counter)
left was (Fails p f fragment time) = Some (with_partial f None)

-- at a place
pub record Takes (v : Verdict) (was is : Option Filling) (old new : Octets) (r : Result Arrived Failure) : Type 0 where
  pub told : r ≡ outcome v
  pub place : is ≡ left was v
  pub message : new ≡ begins (message_delivered v) old

-- at an end, before a failed code is recorded
pub record Took (q : Place) (v : Verdict) (e e' : End) (old new : Octets) (r : Result Arrived Failure) : Type 0 where
  pub told : r ≡ outcome v
  pub holds : e' ≡ with_place e q (left (e.at q) v)
  pub message : new ≡ begins (message_delivered v) old

-- a failed code is recorded, and refused
abbrev pub finished : Bool → Place → ℕ → Result Arrived Failure → Result Arrived Refusal
finished soon q fragment (Ok arrived) = Ok arrived
finished soon q fragment (Err (Refused r)) = Err r
finished soon q fragment (Err CodeFailed) = Err (failed soon q fragment)

abbrev pub recorded : CodedSuites → End → ℕ → Result Arrived Failure → End
recorded c e time (Ok arrived) = e
recorded c e time (Err (Refused r)) = e
recorded c e time (Err CodeFailed) = failing c e time

-- answer, end and message memory are those of the verdict
pub record Arrives (c : CodedSuites) (v : Verdict) (e e' : End) (old new : Octets) (r : Result Arrived Refusal) : Type 0 where
  pub answered : told Came r ≡ answer e v
  pub holds : (S : Suites) → coded_suites S ≡ c → e' ≡ after S e v
  pub message : new ≡ begins (message_delivered v) old
