-- What a send that is granted goes on with.
use Rattle.std.specs.Prelude.{◌≡◌, ℕ, ◌+◌, ◌-◌, ◌*◌, ◌<◌, ◌≤◌, List, take, Some, Ok, Err, Result}
use Rattle.octets.specs.Octets.{Octets}
use Rattle.suite.specs.Meaning.{Meaning, longest_piece}
use Rattle.suite.specs.declared.sizes.Sizes.{Sizes}
use Rattle.ends.specs.declared.refusals.Refusal.{Refusal}
use Rattle.ends.specs.declared.requests.Plan.{Plan}
use Rattle.ends.specs.declared.requests.Request.{Request}
use Rattle.ends.specs.Holding.{Filling, End}
use Rattle.ends.specs.Sends.{room, frames_of, coded, planned}
use Rattle.sending.specs.declared.plans.Outgoing.{Outgoing}

-- of what fills the place, only its key
abbrev pub outgoing : Result (Filling × Plan) Refusal → Result Outgoing Refusal
outgoing (Ok x) = Ok (record { plan = x.1; key = x.0.key })
outgoing (Err r) = Err r

-- the frames that it makes of a message, under as much of the key as the suite uses
abbrev pub frames_from : Meaning → Outgoing → Octets → List Octets
frames_from M o message = frames_of M o.plan (take M.sizes.key o.key) (coded M o.plan (take M.sizes.key o.key) message)

-- octets, so many of them, that a plan cuts into pieces which a suite of these sizes seals: none is empty, each has a
-- number, and there is a counter for each
pub record Fits (z : Sizes) (p : Plan) (size : ℕ) : Type 0 where
  pub few : p.count ≤ 16
  pub some : 1 ≤ p.piece_length
  pub most : p.piece_length ≤ longest_piece
  pub last : (p.count - 1) * p.piece_length < size
  pub id : p.key_id ≤ 3
  pub sequence : p.sequence < 4096
  pub counters : p.counter + p.count ≤ z.top + 1

-- what a granted send can rely on, of a message of this size and of the lengths of the three memories
pub record Ready (z : Sizes) (p : Plan) (size frames index working : ℕ) : Type 0 where
  pub fits : Fits z p (size + z.code)
  pub frames_room : room z p.count (size + z.code) ≤ frames
  pub index_room : p.count ≤ index
  pub working_room : size + z.code ≤ working

-- a send is granted: what fills its place, and what its frames can rely on
pub record Granted (z : Sizes) (e : End) (q : Request) (size frames index working : ℕ) (o : Outgoing) : Type 0 where
  pub fill : Filling
  pub fills : e.at q.place ≡ Some fill
  pub is_planned : planned z e q size frames index working ≡ Ok (fill, o.plan)
  pub is_key : o.key ≡ fill.key
  pub next : fill.send ≡ o.plan.counter
  pub ready : Ready z o.plan size frames index working
