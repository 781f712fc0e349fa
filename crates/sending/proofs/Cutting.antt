-- Pieces of octets: how long each is.
use Rattle.std.proofs.Common.{◌≡◌, ℕ, ◌-◌, min, length, drop, ap, ◌∙◌}
use Rattle.std.proofs.lemmas.List.{length-take, length-drop}
use Rattle.octets.specs.Octets.{Octets, part}

pub length-piece : (xs : Octets) (k m : ℕ) → length (part k m xs) ≡ min m (length xs - k)
length-piece xs k m = let n = length-drop k xs in length-take m (drop k xs) ∙ ap (min m) n
