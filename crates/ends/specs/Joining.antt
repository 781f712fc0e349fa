-- The octets that fixed memory holds.
use Rattle.std.specs.Prelude.{take}
use Rattle.octets.specs.Octets.{Octets}
use Rattle.ends.specs.declared.joined.Joined.{Joined}

abbrev pub octets_in : Joined → Octets
octets_in j = take j.size j.octets
