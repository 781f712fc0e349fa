-- A whole link end.
use Rattle.std.specs.Prelude.{◌≡◌, replicate}
use Rattle.frame.specs.declared.addresses.Address.{Address}
use Rattle.ends.specs.Holding.{End, held}
use Rattle.link.specs.declared.link_ends.LinkEnd.{LinkEnd}

-- what a blank end has for its own
abbrev pub no_address : Address
no_address = record { octets = replicate 6 0 }

module _ {P G : Type 0} where
  -- what it holds
  abbrev pub held_by : LinkEnd P G → End
  held_by l = held l.state

  pub record HasSuites (pairwise : P) (group : G) (end : LinkEnd P G) : Type 0 where
    pub first : end.pairwise_suite ≡ pairwise
    pub second : end.group_suite ≡ group

  -- its suites are values that no call changes
  pub record SameSuites (before after : LinkEnd P G) : Type 0 where
    pub pairwise : after.pairwise_suite ≡ before.pairwise_suite
    pub group : after.group_suite ≡ before.group_suite
