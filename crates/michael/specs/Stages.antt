-- What a stage of Michael means.
use Rattle.std.specs.Prelude.{[], ◌∷◌, ◌++◌}
use Rattle.octets.specs.Octets.{Octets}
use Rattle.michael.specs.Michael.{ends_in}
use Rattle.michael.specs.declared.blocks.State.{State}
use Rattle.michael.specs.declared.stages.Waiting.{Waiting}
use Rattle.michael.specs.declared.stages.Waiting.TheVariants.{Nothing, One, Two, Three}
use Rattle.michael.specs.declared.stages.Addressed.{Addressed}

-- the octets that wait for a whole word
abbrev pub held : Waiting → Octets
held Nothing = []
held (One a) = a ∷ []
held (Two a b) = a ∷ b ∷ []
held (Three a b c) = a ∷ b ∷ c ∷ []

-- the state that a stage ends in where these octets are still to come
abbrev pub comes_to : Addressed → Octets → State
comes_to s rest = ends_in s.state (held s.waiting ++ rest)
