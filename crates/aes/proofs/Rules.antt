-- The rules of the tables, each by one test over all of it.
use Rattle.std.proofs.Common.{◌≡◌, ℕ, zero, suc, ◌+◌, ◌<◌, Bool, true, false, T, eqb, List, [], ◌∷◌, length, get_or, sym, refl, ap, ◌∙◌, arith, eqb→eq, add-zero}
use Rattle.std.specs.Str.{bytes_eq}
use Rattle.std.proofs.lemmas.Slice.Eq.{bytes_eq-Decides}
use Rattle.octets.proofs.Tables.{both, both_left, both_right, every, at}
use Rattle.aes.specs.Aes.{rcon}
use Rattle.aes.specs.Words.{quad, mixes}

-- the word of the octet x in the table of a row, and each table in turn
unfoldable pub right : ℕ → ℕ → ℕ → Bool
right row x w = bytes_eq (quad w) (mixes row x)

abbrev pub all_right : ℕ → List (List ℕ) → Bool
all_right row [] = true
all_right row (ws ∷ rest) = both (both (eqb (length ws) 256) (every (right row) 0 ws)) (all_right (suc row) rest)

passed : (b : Bool) → T b → b ≡ true
passed true t = refl
passed false t = absurd t

mixed_from : (start : ℕ) (tables : List (List ℕ)) → T (all_right start tables) → (row x : ℕ) → row < length tables → x < 256 → quad (get_or (get_or tables row []) x 0) ≡ mixes (start + row) x
unfolding right
mixed_from start [] t row x h octet = absurd (omega arith)
mixed_from start (ws ∷ rest) t zero x h octet =
    let here = both_left (both (eqb (length ws) 256) (every (right start) 0 ws)) (all_right (suc start) rest) t in
    let long = eqb→eq (length ws) 256 (both_left (eqb (length ws) 256) (every (right start) 0 ws) here) in
    let each = both_right (eqb (length ws) 256) (every (right start) 0 ws) here in
    (bytes_eq-Decides (quad (get_or ws x 0)) (mixes start x)).0 (passed _ (at (right start) ws each x (omega arith)))
    ∙ ap (λ r. mixes r x) (sym (add-zero start))
mixed_from start (ws ∷ rest) t (suc row) x h octet =
    mixed_from (suc start) rest (both_right (both (eqb (length ws) 256) (every (right start) 0 ws)) (all_right (suc start) rest) t) row x (omega arith) octet
    ∙ ap (λ r. mixes r x) (omega arith)

pub mixed_rule : (tables : List (List ℕ)) → T (all_right 0 tables) → (row x : ℕ) → row < length tables → x < 256 → quad (get_or (get_or tables row []) x 0) ≡ mixes row x
mixed_rule tables t row x h octet = mixed_from 0 tables t row x h octet ∙ ap (λ r. mixes r x) (omega arith)

unfoldable pub constant : ℕ → ℕ → Bool
constant k x = eqb x (rcon k)

pub rcon_rule : (xs : List ℕ) → T (every constant 0 xs) → (k : ℕ) → k < length xs → get_or xs k 0 ≡ rcon k
unfolding constant
rcon_rule xs t k h = eqb→eq (get_or xs k 0) (rcon k) (at constant xs t k h)
