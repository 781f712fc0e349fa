-- Eleven figures worked by hand. Each is about the definitions that the code is proved to follow.
use Rattle.std.specs.Prelude.{◌≡◌, ℕ, List, [], ◌∷◌, ◌++◌, length, replicate, Some, None, Option}
use Rattle.octets.specs.Octets.{Octets}
use Rattle.frame.specs.declared.addresses.Address.{Address}
use Rattle.suite.specs.Meaning.{Meaning}
use Rattle.michael.specs.Michael.{xswap, rotl, words, padded, heading}
use Rattle.tkip.specs.Tkip.{tkip}
use Rattle.tkip.specs.Tkip.{head_octets as tkip_head_octets}
use Rattle.ccmp.specs.Ccmp.{ccmp}
use Rattle.ccmp.specs.Ccmp.{head_octets as ccmp_head_octets}
use Rattle.ends.specs.declared.places.Place.{Place}
use Rattle.ends.specs.declared.places.Place.TheVariants.{Pairwise}
use Rattle.ends.specs.declared.roles.Role.{Role}
use Rattle.ends.specs.declared.roles.Role.TheVariants.{Logger}
use Rattle.ends.specs.declared.roles.CodedSuites.{CodedSuites}
use Rattle.ends.specs.declared.requests.Request.{Request}
use Rattle.ends.specs.declared.requests.Span.{Span}
use Rattle.ends.specs.declared.refusals.Refusal.TheVariants.{PieceLength}
use Rattle.ends.specs.Refusals.{refusal_number}
use Rattle.ends.specs.Places.{suites}
use Rattle.ends.specs.Holding.{Filling, End}
use Rattle.ends.specs.Calls.{Answer, installing, sending}
use Rattle.ends.specs.Calls.Call.{Install, Send}
use Rattle.ends.specs.Calls.Answer.{Refused, Sent}
use Rattle.ends.specs.Installs.{new}
use Rattle.ends.specs.Sends.{plan_of, frames_by, spans}
use Rattle.ends.specs.Steps.{failing, step, final}

-- a message of so many octets, under Michael with two addresses before it, makes so many words
abbrev pub MakesWords : ℕ → ℕ → Type 0
MakesWords size count =
    (destination source : Address) (priority : ℕ) (message : Octets) → length destination.octets ≡ 6 → length source.octets ≡ 6 → length message ≡ size → length (words (padded (heading destination source priority ++ message))) ≡ count

-- when a new end's block ends, once a code has failed at one time and then at another
abbrev pub BlocksUntil : ℕ → ℕ → Option ℕ → Type 0
BlocksUntil once again end = (suites : CodedSuites) (role : Role) (own : Address) → (failing suites (failing suites (new role own) once) again).block ≡ end

abbrev pub span : ℕ → ℕ → Span
span offset size = record { offset = offset; length = size }

abbrev pub request : Place → Address → Address → ℕ → ℕ → Request
request place destination source piece time = record { place = place; destination = destination; source = source; piece_length = piece; time = time }

-- the index of any message of 100 octets that is cut at 64, whatever the end, the place and the addresses
abbrev pub IndexOf100At64 : Meaning → List Span → Type 0
IndexOf100At64 M index =
    (e : End) (f : Filling) (place : Place) (destination source : Address) (time : ℕ) (message : Octets) → length message ≡ 100 → length e.own.octets ≡ 6 → length f.address.octets ≡ 6 → length destination.octets ≡ 6 → length source.octets ≡ 6 → spans 0 (frames_by M f (plan_of M.sizes e (request place destination source 64 time) 100 f) message) ≡ index

-- what a logger under TKIP answers when it is to send so many zeros in pieces of 64, all memory being long enough
abbrev pub a_logger : Address
a_logger = record { octets = 2 ∷ 0 ∷ 0 ∷ 0 ∷ 0 ∷ 7 ∷ [] }

abbrev pub a_base : Address
a_base = record { octets = 2 ∷ 0 ∷ 0 ∷ 0 ∷ 0 ∷ 1 ∷ [] }

abbrev pub answer_at_64 : ℕ → Answer
answer_at_64 size =
    let S = suites tkip tkip in
    let installed = final S (new Logger a_logger) (Install (installing (Pairwise 0) (replicate 32 0) a_base 0 0) ∷ []) in
    (step S installed (Send (sending (request (Pairwise 0) a_base a_logger 64 0) (replicate size 0) (replicate 4000 0) (replicate 16 (span 0 0)) (replicate 2560 0)))).answer

pub record WorkedFigures : Type 0 where
  -- Michael: the exchange of octets in each half, a rotation, and how many words a message makes
  pub exchange : xswap 0x01020304 ≡ 0x02010403
  pub rotation : rotl 3 0x80000001 ≡ 0x0000000C
  pub three_octets : MakesWords 3 6
  pub four_octets : MakesWords 4 7
  -- the heads of one counter, under key ID 0 and 1
  pub tkip_head : tkip_head_octets 0 0x010203040506 ≡ 0x05 ∷ 0x25 ∷ 0x06 ∷ 0x20 ∷ 0x04 ∷ 0x03 ∷ 0x02 ∷ 0x01 ∷ []
  pub ccmp_head : ccmp_head_octets 1 0x010203040506 ≡ 0x06 ∷ 0x05 ∷ 0x00 ∷ 0x60 ∷ 0x04 ∷ 0x03 ∷ 0x02 ∷ 0x01 ∷ []
  -- two failures block where the second comes less than a minute after the first, or before it
  pub within_a_minute : BlocksUntil 1000 60999 (Some 120999)
  pub a_minute_apart : BlocksUntil 1000 61000 None
  pub clock_stepped_back : BlocksUntil 1000 500 (Some 60500)
  -- offset and length of each frame
  pub tkip_index : IndexOf100At64 tkip (span 0 100 ∷ span 100 80 ∷ [])
  pub ccmp_index : IndexOf100At64 ccmp (span 0 104 ∷ span 104 76 ∷ [])
  -- sixteen pieces at most: message and code together are 1,024 octets, or one more
  pub sixteen_pieces : answer_at_64 1016 ≡ Sent 16
  pub seventeen_pieces : answer_at_64 1017 ≡ Refused PieceLength
  pub its_number : refusal_number PieceLength ≡ 10
