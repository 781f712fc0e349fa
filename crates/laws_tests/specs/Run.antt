-- One message of two frames goes from a base to a logger, with a refused call between the frames.
use Rattle.std.specs.Prelude.{◌≡◌, ℕ, List, [], ◌∷◌, map, replicate}
use Rattle.octets.specs.Octets.{part}
use Rattle.frame.specs.declared.addresses.Address.{Address}
use Rattle.ends.specs.declared.places.Place.TheVariants.{Pairwise}
use Rattle.ends.specs.declared.roles.Role.TheVariants.{Base, Logger}
use Rattle.ends.specs.declared.answers.Arrived.TheVariants.{Held, Delivered}
use Rattle.ends.specs.declared.refusals.Refusal.TheVariants.{PlaceEmpty}
use Rattle.ends.specs.Places.{Suites, suites}
use Rattle.ends.specs.Holding.{End}
use Rattle.ends.specs.Calls.{Installing, Sending, Arrival, Answer, arrival}
use Rattle.ends.specs.Calls.Call.{Install, Remove, Send}
use Rattle.ends.specs.Calls.Answer.{Refused, Granted, Sent, Came}
use Rattle.ends.specs.Installs.{new}
use Rattle.ends.specs.Steps.{Step, step, run, final}
use Rattle.laws.specs.Words.{Coming, call_of}
use Rattle.laws.specs.Words.Coming.{Frame, Other}
use Rattle.suite_tests.specs.Plain.{plain}

abbrev pub both_plain : Suites
both_plain = suites plain plain

-- an address that ends with this octet
abbrev pub address : ℕ → Address
address n = record { octets = 0 ∷ 0 ∷ 0 ∷ 0 ∷ 0 ∷ n ∷ [] }

abbrev pub base : End
base = new Base (address 2)

abbrev pub logger : End
logger = new Logger (address 4)

-- a peer in a pairwise place
abbrev pub peer : ℕ → ℕ → Installing
peer place far = record { place = Pairwise place; key = 7 ∷ 7 ∷ 7 ∷ 7 ∷ []; address = address far; start = 0; time = 0 }

-- a hundred octets, cut at 64
abbrev pub reading : Sending
reading =
    record { request = record { place = Pairwise 5; destination = address 0; source = address 9; piece_length = 64; time = 10 }; message = replicate 100 3; frames = replicate 200 1; index = replicate 3 (record { offset = 0; length = 0 }); working = replicate 2560 1 }

abbrev pub sending_end : End
sending_end = final both_plain base (Install (peer 5 4) ∷ [])

abbrev pub hearing_end : End
hearing_end = final both_plain logger (Install (peer 3 2) ∷ [])

-- what stands in the frames memory at an offset arrives
abbrev pub heard : ℕ → ℕ → Arrival
heard offset length =
    arrival (part offset length (step both_plain sending_end (Send reading)).memories.frames) 20 (replicate 2560 1) (replicate 2304 1)

abbrev pub coming : List Coming
coming = Frame (heard 0 91) ∷ Other (Remove (Pairwise 9)) ∷ Frame (heard 91 64) ∷ []

abbrev pub answers : List Step → List Answer
answers steps = map (λ s. s.answer) steps

-- both frames are sent, their places are told, the first is held and the second delivered
pub record GoesOver : Type 0 where
  pub sent : answers (run both_plain base (Install (peer 5 4) ∷ Send reading ∷ [])) ≡ Granted ∷ Sent 2 ∷ []
  pub told : (step both_plain sending_end (Send reading)).memories.index ≡ record { offset = 0; length = 91 } ∷ record { offset = 91; length = 64 } ∷ record { offset = 0; length = 0 } ∷ []
  pub came : answers (run both_plain hearing_end (map call_of coming)) ≡ Came (Held (Pairwise 3) 0) ∷ Refused PlaceEmpty ∷ Came (Delivered (record { place = Pairwise 3; destination = 4; source = 9; counter = 2; length = 100 })) ∷ []
