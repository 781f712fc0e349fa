-- The rule of the eight tables, proved at all of their entries by one test that antt computes: an entry is what
-- eight steps make of the octet, in the first table, or of the entry at its place in the table before.
use Rattle.std.proofs.Common.{◌≡◌, ℕ, zero, suc, ◌+◌, ◌*◌, ◌<◌, Bool, true, false, T, eqb, List, [], ◌∷◌, length, get_or, sym, ap, ◌∙◌, le_of_suc-le-suc, not-suc-le-zero, arith, eqb→eq}
use Rattle.std.specs.List.{range_with_len}
use Rattle.std.proofs.lemmas.List.FromFn.{get_or-range_with_len}
use Rattle.octets.proofs.Tables.{both, both_left, both_right}
use Rattle.crc32.specs.Crc32.{steps}
use Rattle.crc32.proofs.Division.{steps_more}

-- each entry of xs is what eight steps make of the entry of ys at its place
abbrev follows : List ℕ → List ℕ → Bool
follows ys [] = true
follows [] (x ∷ xs) = false
follows (y ∷ ys) (x ∷ xs) = both (eqb x (steps 8 y)) (follows ys xs)

at : (ys xs : List ℕ) → T (follows ys xs) → (k : ℕ) → k < length xs → get_or xs k 0 ≡ steps 8 (get_or ys k 0)
at ys [] t k h = absurd (not-suc-le-zero h)
at [] (x ∷ xs) t k h = absurd t
at (y ∷ ys) (x ∷ xs) t zero h = eqb→eq x (steps 8 y) (both_left (eqb x (steps 8 y)) (follows ys xs) t)
at (y ∷ ys) (x ∷ xs) t (suc k) h = at ys xs (both_right (eqb x (steps 8 y)) (follows ys xs) t) k (le_of_suc-le-suc h)

-- tables of 256 entries, each of which follows the one before, and the first follows ys
abbrev each_follows : List ℕ → List (List ℕ) → Bool
each_follows ys [] = true
each_follows ys (xs ∷ tables) = both (both (eqb (length xs) 256) (follows ys xs)) (each_follows xs tables)

-- an entry of table `rank`, from that of ys
entry_of : (ys : List ℕ) (tables : List (List ℕ)) → T (each_follows ys tables) → (rank n : ℕ) → rank < length tables → n < 256 → get_or (get_or tables rank []) n 0 ≡ steps (8 * (rank + 1)) (get_or ys n 0)
entry_of ys [] t rank n r l = absurd (not-suc-le-zero r)
entry_of ys (xs ∷ tables) t rank n r l =
    let here = both_left (both (eqb (length xs) 256) (follows ys xs)) (each_follows xs tables) t in
    let size : length xs ≡ 256 = eqb→eq (length xs) 256 (both_left (eqb (length xs) 256) (follows ys xs) here) in
    let first = at ys xs (both_right (eqb (length xs) 256) (follows ys xs) here) n (omega arith) in
    elim rank as (λ (k : ℕ). k < length (xs ∷ tables) → get_or (get_or (xs ∷ tables) k []) n 0 ≡ steps (8 * (k + 1)) (get_or ys n 0)) [
      | zero ↦ λ _. first
      | suc k ↦ λ h.
          let more : 8 + 8 * (k + 1) ≡ 8 * (suc k + 1) = omega arith in
          entry_of xs tables (both_right (both (eqb (length xs) 256) (follows ys xs)) (each_follows xs tables) t) k n (le_of_suc-le-suc h) l
          ∙ ap (steps (8 * (k + 1))) first ∙ sym (steps_more 8 (8 * (k + 1)) (get_or ys n 0)) ∙ ap (λ m. steps m (get_or ys n 0)) more
    ] r

abbrev octets : List ℕ
octets = range_with_len 0 256

-- eight tables, the first of which follows the octets
abbrev pub right : List (List ℕ) → Bool
right tables = both (eqb (length tables) 8) (each_follows octets tables)

pub rule : (tables : List (List ℕ)) → T (right tables) → (rank n : ℕ) → rank < 8 → n < 256 → get_or (get_or tables rank []) n 0 ≡ steps (8 * (rank + 1)) n
rule tables t rank n r l =
    let size : length tables ≡ 8 = eqb→eq (length tables) 8 (both_left (eqb (length tables) 8) (each_follows octets tables) t) in
    let octet : get_or octets n 0 ≡ n = omega (arith, get_or-range_with_len 0 256 n 0 l) in
    entry_of octets tables (both_right (eqb (length tables) 8) (each_follows octets tables) t) rank n (omega arith) l
    ∙ ap (steps (8 * (rank + 1))) octet
