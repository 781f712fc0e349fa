-- The table under an exchange, and the turns of the key schedule.
use Rattle.std.proofs.Common.{◌≡◌, ℕ, ◌+◌, ◌<◌, ◌≢◌, List, length, get_or, set, sym, ap, ◌∙◌, ⊎_elim, add-one, arith, length-set}
use Rattle.std.proofs.lemmas.List.{get_or-set_same, get_or-set_other}
use Rattle.std.proofs.lemmas.Bool.{cases_eq}
use Rattle.rc4.specs.Rc4.{swapped, key_move, key_turn, key_turns}

module _ (s : List ℕ) (i j : ℕ) (p : i < length s) (q : j < length s) where
  pub swapped_at_j : get_or (swapped s i j) j 0 ≡ get_or s i 0
  swapped_at_j = get_or-set_same (set s i (get_or s j 0)) j (get_or s i 0) 0 (omega (arith, length-set s i (get_or s j 0)))

  pub swapped_at_i : get_or (swapped s i j) i 0 ≡ get_or s j 0
  swapped_at_i =
      ⊎_elim
      (λ (e : i ≡ j). ap (λ n. get_or (swapped s i j) n 0) e ∙ swapped_at_j ∙ ap (λ n. get_or s n 0) e)
      (λ (ne : i ≢ j). get_or-set_other (set s i (get_or s j 0)) j i (get_or s i 0) 0 ne ∙ get_or-set_same s i (get_or s j 0) 0 p)
      (cases_eq i j)

abbrev pub pair : List ℕ → ℕ → List ℕ × ℕ
pair s j = (s, j)

-- a turn that moves j to n
pub turn_more : (key s : List ℕ) (i j n : ℕ) → ◌≡◌ {A = List ℕ × ℕ} (s, j) (key_turns key i) → n ≡ key_move key i (s, j) → ◌≡◌ {A = List ℕ × ℕ} (swapped s i n, n) (key_turns key (i + 1))
unfolding key_turns
turn_more key s i j n e h = ap (λ (m : ℕ). pair (swapped s i m) m) h ∙ ap (key_turn key i) e ∙ ap (key_turns key) (sym (add-one i))
