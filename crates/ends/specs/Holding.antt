-- What an end holds, and how it is read off its memory. Whatever lies in memory beyond a partial message is not held.
use Rattle.std.specs.Prelude.{ℕ, zero, suc, ◌+◌, ◌%◌, Bool, true, false, cond, List, take, Some, None, Option, ◌==◌, slice_index_or}
use Rattle.octets.specs.Octets.{Octets}
use Rattle.frame.specs.Addresses.{number}
use Rattle.frame.specs.declared.addresses.Address.{Address}
use Rattle.suite.specs.Meaning.{Meaning}
use Rattle.ends.specs.Joining.{octets_in}
use Rattle.ends.specs.declared.places.Place.{Place}
use Rattle.ends.specs.declared.places.Place.TheVariants.{Pairwise}
use Rattle.ends.specs.declared.places.Installation.{Installation}
use Rattle.ends.specs.declared.places.Partial.{Partial}
use Rattle.ends.specs.declared.roles.Role.{Role}
use Rattle.ends.specs.declared.roles.State.{State}
use Rattle.ends.specs.Places.{exists, index_of, same_place}

-- a partial message: its joined pieces, and what the next piece has to go on from
pub record Part : Type 0 where
  pub octets : Octets
  pub fragment : ℕ
  pub counter : ℕ
  pub sequence : ℕ
  pub address1 : Address
  pub address2 : Address
  pub address3 : Address

-- what fills a place; the key has 32 octets, zeros beyond those that its suite uses
pub record Filling : Type 0 where
  pub key : Octets
  pub address : Address
  pub send : ℕ
  pub replay : ℕ
  pub partial : Option Part

pub record End : Type 0 where
  pub role : Role
  pub own : Address
  pub at : Place → Option Filling
  pub sequence : ℕ
  pub failure : Option ℕ
  pub block : Option ℕ

-- read off memory

abbrev pub part_in : Partial → Part
part_in p = record { octets = octets_in p.joined; fragment = p.fragment; counter = p.counter; sequence = p.sequence; address1 = p.address1; address2 = p.address2; address3 = p.address3 }

abbrev pub part_if : Option Partial → Option Part
part_if None = None
part_if (Some p) = Some (part_in p)

abbrev pub filling : Installation → Filling
filling i = record { key = i.key; address = i.address; send = i.send; replay = i.replay; partial = part_if i.partial }

abbrev pub filled : Option Installation → Option Filling
filled None = None
filled (Some i) = Some (filling i)

-- what a place holds; one that there is not holds nothing
abbrev pub table : List (Option Installation) → Place → Option Filling
table slots p = cond (exists p) (filled (slice_index_or slots (index_of p) None)) None

abbrev pub held : State → End
held s = record { role = s.role; own = s.own; at = table s.slots; sequence = s.sequence % 4096; failure = s.last_failure; block = s.block_end }

-- the key that a suite is given
abbrev pub key_for : Meaning → Filling → Octets
key_for M f = take M.sizes.key f.key

abbrev pub same_address : Address → Address → Bool
same_address a b = number a == number b

abbrev pub is_filled : Option Filling → Bool
is_filled None = false
is_filled (Some f) = true

abbrev pub holds : Address → Option Filling → Bool
holds a None = false
holds a (Some f) = same_address f.address a

-- the lowest number below n that passes a test
abbrev pub lowest_or : Option ℕ → Bool → ℕ → Option ℕ
lowest_or (Some m) b n = Some m
lowest_or None b n = cond b (Some n) None

abbrev pub lowest : ℕ → (ℕ → Bool) → Option ℕ
lowest zero test = None
lowest (suc n) test = lowest_or (lowest n test) (test n) n

-- the pairwise place that holds an address
abbrev pub place_of_peer : End → Address → Option ℕ
place_of_peer e a = lowest 16 (λ n. holds a (e.at (Pairwise n)))

-- changes

abbrev pub put : (Place → Option Filling) → Place → Option Filling → Place → Option Filling
put at p f q = cond (same_place q p) f (at q)

abbrev pub with_places : End → (Place → Option Filling) → End
with_places e at = record { role = e.role; own = e.own; at = at; sequence = e.sequence; failure = e.failure; block = e.block }

-- one place is filled, or emptied
abbrev pub with_place : End → Place → Option Filling → End
with_place e p f = with_places e (put e.at p f)

abbrev pub with_partial : Filling → Option Part → Filling
with_partial f p = record { key = f.key; address = f.address; send = f.send; replay = f.replay; partial = p }

-- n counters were used for sending
abbrev pub sent_on : Filling → ℕ → Filling
sent_on f n = record { key = f.key; address = f.address; send = f.send + n; replay = f.replay; partial = f.partial }

-- a message was delivered under this counter
abbrev pub delivered_at : Filling → ℕ → Filling
delivered_at f counter = record { key = f.key; address = f.address; send = f.send; replay = counter; partial = None }
