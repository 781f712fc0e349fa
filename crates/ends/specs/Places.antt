-- Places by name: sixteen pairwise, 0 to 15, and three for groups, by key ID 1 to 3.
use Rattle.std.specs.Prelude.{ℕ, ◌+◌, Bool, true, false, cond, ◌==◌, nat_lt}
use Rattle.suite.specs.Meaning.{Meaning}
use Rattle.suite.specs.Laws.{Keeps}
use Rattle.ends.specs.declared.places.Place.{Place}
use Rattle.ends.specs.declared.places.Place.TheVariants.{Pairwise, Group}
use Rattle.ends.specs.declared.roles.Role.{Role}
use Rattle.ends.specs.declared.roles.Role.TheVariants.{Base, Logger}

abbrev pub exists : Place → Bool
exists (Pairwise n) = nat_lt n 16
exists (Group n) = cond (nat_lt 0 n) (nat_lt n 4) false

-- where a place stands in the memory of an end: the pairwise ones first, and then the groups'
abbrev pub index_of : Place → ℕ
index_of (Pairwise n) = n
index_of (Group n) = n + 15

abbrev pub is_group_place : Place → Bool
is_group_place (Pairwise n) = false
is_group_place (Group n) = true

abbrev pub key_id_of : Place → ℕ
key_id_of (Pairwise n) = 0
key_id_of (Group n) = n

abbrev pub same_place : Place → Place → Bool
same_place (Pairwise m) (Pairwise n) = m == n
same_place (Pairwise m) (Group n) = false
same_place (Group m) (Pairwise n) = false
same_place (Group m) (Group n) = m == n

abbrev pub is_base : Role → Bool
is_base Base = true
is_base Logger = false

-- the two suites of an end, chosen separately
pub record Suites : Type 0 where
  pub pairwise : Meaning
  pub group : Meaning

abbrev pub suites : Meaning → Meaning → Suites
suites P G = record { pairwise = P; group = G }

abbrev pub suite_at : Suites → Place → Meaning
suite_at S (Pairwise n) = S.pairwise
suite_at S (Group n) = S.group

-- both keep the laws of a suite
pub record Keep (S : Suites) : Type 0 where
  pub pairwise_keeps : Keeps S.pairwise
  pub group_keeps : Keeps S.group
