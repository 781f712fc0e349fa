-- Make, install and remove.
use Rattle.std.specs.Prelude.{Bool, false, cond, not, List, [], ◌∷◌, length, replicate, is_some, None, Ok, Err, Result, ◌==◌, nat_lt}
use Rattle.octets.specs.Octets.{Octets, begins}
use Rattle.frame.specs.Addresses.{is_group}
use Rattle.frame.specs.declared.addresses.Address.{Address}
use Rattle.suite.specs.declared.sizes.Sizes.{Sizes}
use Rattle.ends.specs.declared.places.Place.{Place}
use Rattle.ends.specs.declared.places.Place.TheVariants.{Pairwise, Group}
use Rattle.ends.specs.declared.roles.Role.{Role}
use Rattle.ends.specs.declared.refusals.Refusal.{Refusal}
use Rattle.ends.specs.declared.refusals.Refusal.TheVariants.{ClockRange, NoSuchPlace, WrongAddress, KeyLength, StartAboveTop, SuiteBlocked, PlaceTaken, PlaceEmpty}
use Rattle.ends.specs.Places.{exists, is_base}
use Rattle.ends.specs.Holding.{Filling, End, same_address, is_filled, place_of_peer}
use Rattle.ends.specs.Calls.{Installing, Verdict}
use Rattle.ends.specs.Calls.Verdict.{Fills, Empties}
use Rattle.ends.specs.Checks.{Check, first, settled, last_time, blocked, has_code}

-- a new end
abbrev pub new : Role → Address → End
new role own = record { role = role; own = own; at = λ p. None; sequence = 0; failure = None; block = None }

abbrev pub make_checks : Address → List Check
make_checks own = (is_group own, WrongAddress) ∷ []

-- what an end holds where a call is granted, and else what it held
abbrev pub if_granted : Result (Unit {0}) Refusal → End → End → End
if_granted (Ok x) changed old = changed
if_granted (Err r) changed old = old

-- a peer is not the end itself, and a base's groups stand under its own address
abbrev pub misplaced : End → Place → Address → Bool
misplaced e (Pairwise n) a = same_address a e.own
misplaced e (Group n) a = cond (is_base e.role) (not (same_address a e.own)) false

abbrev pub peer_held : End → Place → Address → Bool
peer_held e (Pairwise n) a = is_some (place_of_peer e a)
peer_held e (Group n) a = false

abbrev pub install_checks : Sizes → End → Installing → List Check
install_checks z e i =
    (nat_lt last_time i.time, ClockRange)
    ∷ (not (exists i.place), NoSuchPlace)
    ∷ (is_group i.address, WrongAddress)
    ∷ (misplaced e i.place i.address, WrongAddress)
    ∷ (not (length i.key == z.key), KeyLength)
    ∷ (nat_lt z.top i.start, StartAboveTop)
    ∷ (blocked (has_code z) e i.time, SuiteBlocked)
    ∷ (is_filled (e.at i.place), PlaceTaken)
    ∷ (peer_held e i.place i.address, PlaceTaken)
    ∷ []

-- the key stands at the start of 32 octets
abbrev pub kept_key : Octets → Octets
kept_key key = begins key (replicate 32 0)

abbrev pub installed : Installing → Filling
installed i = record { key = kept_key i.key; address = i.address; send = 1; replay = i.start; partial = None }

unfoldable pub judge_install : Sizes → End → Installing → Verdict
judge_install z e i = settled (first (install_checks z e i) (Fills i.place (installed i)))

abbrev pub remove_checks : End → Place → List Check
remove_checks e p = (not (exists p), NoSuchPlace) ∷ (not (is_filled (e.at p)), PlaceEmpty) ∷ []

unfoldable pub judge_remove : End → Place → Verdict
judge_remove e p = settled (first (remove_checks e p) (Empties p))
