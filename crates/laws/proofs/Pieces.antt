-- A message in pieces: how many there are, how long each is, and that they join to the message again.
use Rattle.std.proofs.Common.{◌≡◌, ℕ, zero, suc, ◌+◌, ◌-◌, ◌*◌, ◌/◌, ◌%◌, ◌<◌, ◌≤◌, min, ◌⊎◌, ◌++◌, length, take, sym, ap, ◌∙◌, inl, inr, arith}
use Rattle.std.proofs.lemmas.Nat.{div-add-mod', mod_below, mul-le}
use Rattle.std.proofs.lemmas.List.{length-take, length-drop, take-append-drop, take-take, drop-take}
use Rattle.std.proofs.lemmas.Bool.{cases_eq}
use Rattle.octets.specs.Octets.{Octets, AreOctets, part}
use Rattle.octets.proofs.Numbers.{AreOctets_part}
use Rattle.suite.specs.Meaning.{longest_piece}
use Rattle.ends.specs.Sends.{pieces}

module _ (size piece : ℕ) (some : 1 ≤ piece) where
  -- either the pieces are all full, or there is one more
  full_or_more : (pieces size piece * piece ≡ size) ⊎ ((pieces size piece * piece ≡ size - size % piece + piece) × (1 ≤ size % piece))
  full_or_more = cases (cases_eq (size % piece) 0)
    where
      cases : (size % piece ≡ 0) ⊎ (size % piece ≡ 0 → ⊥) → (pieces size piece * piece ≡ size) ⊎ ((pieces size piece * piece ≡ size - size % piece + piece) × (1 ≤ size % piece))
      cases (inl none) =
          let last : min 1 (size % piece) ≡ 0 = ap (min 1) none in
          inl (ap (λ m. (size / piece + m) * piece) last ∙ omega (arith, div-add-mod' size piece))
      cases (inr more) =
          let rest : 1 ≤ size % piece = omega (arith, more) in
          let last : min 1 (size % piece) ≡ 1 = omega arith in
          inr (ap (λ m. (size / piece + m) * piece) last ∙ omega (arith, div-add-mod' size piece), rest)

  pub pieces-enough : size ≤ pieces size piece * piece
  pieces-enough = cases full_or_more
    where
      cases : (pieces size piece * piece ≡ size) ⊎ ((pieces size piece * piece ≡ size - size % piece + piece) × (1 ≤ size % piece)) → size ≤ pieces size piece * piece
      cases (inl full) = omega arith
      cases (inr more) = omega (arith, mod_below size piece some)

  pub pieces-needed : pieces size piece * piece < size + piece
  pieces-needed = cases full_or_more
    where
      cases : (pieces size piece * piece ≡ size) ⊎ ((pieces size piece * piece ≡ size - size % piece + piece) × (1 ≤ size % piece)) → pieces size piece * piece < size + piece
      cases (inl full) = omega arith
      cases (inr more) = omega (arith, div-add-mod' size piece)

  pub pieces_some : 1 ≤ size → 1 ≤ pieces size piece
  pieces_some h = at (pieces size piece) pieces-enough
    where
      at : (n : ℕ) → size ≤ n * piece → 1 ≤ n
      at zero k = absurd (omega arith)
      at (suc n) k = omega arith

-- a piece that can be sealed
pub record Piece (xs : Octets) : Type 0 where
  pub some : 1 ≤ length xs
  pub most : length xs ≤ longest_piece
  pub octets : AreOctets xs

module _ (xs : Octets) (size : ℕ) (i : ℕ) where
  -- what came before, and the next piece
  pub front_more : take (i * size) xs ++ part (i * size) size xs ≡ take ((i + 1) * size) xs
  front_more =
      let at : i * size + size ≡ (i + 1) * size = omega arith in
      (λ j. sym (take-take (i * size) (i * size + size) xs (omega arith)) j ++ sym (drop-take (i * size) size xs) j)
      ∙ take-append-drop (i * size) (take (i * size + size) xs)
      ∙ ap (λ n. take n xs) at

  pub piece_fits : (count : ℕ) → i < count → count * size < length xs + size → size ≤ longest_piece → 1 ≤ size → AreOctets xs → Piece (part (i * size) size xs)
  piece_fits count h needed most some octets =
      let upto : (i + 1) * size ≤ count * size = mul-le (i + 1) size count size (omega arith) (omega arith) in
      let here : i * size < length xs = omega arith in
      record { some = simp (length-take, length-drop) (omega arith); most = simp (length-take, length-drop) (omega arith); octets = AreOctets_part (i * size) size xs octets }
