-- Whether there is additional data.
use Rattle.std.proofs.Common.{◌≡◌, Bool, cond, [], ◌++◌, length, sym, ap, ◌∙◌}
use Rattle.std.specs.Prelude.{◌==◌}
use Rattle.std.proofs.lemmas.Bool.{eq-eqb}
use Rattle.octets.specs.Octets.{Octets, big_octets}
use Rattle.ccm.specs.Ccm.{first_flags, measured}

pub no_additional : (xs : Octets) → length xs ≡ 0 → measured xs ≡ []
no_additional xs none = ap (λ t. cond t [] (big_octets 2 (length xs) ++ xs)) (eq-eqb (length xs) 0 none)

-- the flags, by the test of the length
pub flags_by : (xs : Octets) (b c : Bool) → b ≡ (length xs == 0) → b ≡ c → cond c 0x19 0x59 ≡ first_flags xs
flags_by xs b c is was = ap (λ t. cond t 0x19 0x59) (sym was ∙ is)
