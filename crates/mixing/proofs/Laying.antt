-- The octets of words.
use Rattle.std.proofs.Common.{◌≡◌, ℕ, zero, suc, ◌*◌, ◌<◌, List, [], ◌∷◌, ◌++◌, length, get_or, refl, ap, ◌∙◌, arith}
use Rattle.std.specs.Array.{IsMapOf}
use Rattle.std.specs.Fn.{Mut, Called}
use Rattle.std.specs.List.{flat_map}
use Rattle.octets.specs.Octets.{Octets, little_octets}
use Rattle.mixing.specs.Mixing.{octets_of}

pub length-OctetsOf : (ws : List ℕ) → length (octets_of ws) ≡ 2 * length ws
length-OctetsOf [] = refl
length-OctetsOf (w ∷ ws) = let rest = length-OctetsOf ws in omega arith

-- the octets of each word, one after another
pub flattened : (ws : List ℕ) (ys : List Octets) → length ys ≡ length ws → ((i : ℕ) → i < length ws → get_or ys i [] ≡ little_octets 2 (get_or ws i 0)) → flat_map (λ x. x) ys ≡ octets_of ws
flattened [] [] long each = refl
flattened [] (y ∷ ys) long each = absurd (omega arith)
flattened (w ∷ ws) [] long each = absurd (omega arith)
flattened (w ∷ ws) (y ∷ ys) long each =
    let rest = flattened ws ys (omega arith) (λ i below. each (suc i) (omega arith)) in
    ap (λ x. x ++ flat_map (λ z. z) ys) (each zero (omega arith)) ∙ ap (λ l. little_octets 2 w ++ l) rest

-- the same, of words that a function turned into their octets
pub mapped : {F : Type 0} (g : Mut F (ℕ × Unit {0}) Octets) (f : F) (ws : List ℕ) (ys : List Octets) (n : ℕ) → IsMapOf g f ws ys n → length ws ≡ n → ((p q : F) (w : ℕ) (y : Octets) → Called g p (w, tt) y q → y ≡ little_octets 2 w) → flat_map (λ x. x) ys ≡ octets_of ws
mapped g f ws ys n made long acts =
    let same = made.long in
    flattened ws ys (omega arith) (λ i below. acts _ _ (get_or ws i 0) (get_or ys i []) (made.at i 0 [] (omega arith)).2)
