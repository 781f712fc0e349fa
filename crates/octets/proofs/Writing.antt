-- What a write into a part of a memory leaves.
use Rattle.std.proofs.Common.{◌≡◌, ℕ, ◌+◌, ◌-◌, ◌≤◌, ◌++◌, map, length, get_or, take, drop, sym, refl, ap, ◌∙◌, zero-add, arith}
use borrow.Rule.Slice.PartMut.{put_mid}
use Rattle.std.specs.List.{range_with_len}
use Rattle.std.proofs.lemmas.List.FromFn.{fill_by_all}
use Rattle.std.proofs.lemmas.List.{append_assoc, append-nil, drop_all, take_rest, drop-drop, drop_at, take_at, length-append, length-drop, length-take-le}
use Rattle.octets.specs.Octets.{Octets, part, written, begins}

-- the checker's word for a write to the part that begins at a place is ours
pub put_mid_written : (at k : ℕ) (old xs : Octets) → k ≡ length xs → put_mid at k old xs ≡ written at xs old
put_mid_written at k old xs e =
    ap (λ rest. take at old ++ (xs ++ rest)) (drop-drop k at old ∙ ap (λ n. drop (at + n) old) e)

pub length_written : (at : ℕ) (xs old : Octets) → at + length xs ≤ length old → length (written at xs old) ≡ length old
length_written at xs old room =
    let front = length-take-le at old (omega arith) in
    let back = length-drop (at + length xs) old in
    let both = length-append xs (drop (at + length xs) old) in
    length-append (take at old) (xs ++ drop (at + length xs) old) ∙ omega arith

-- what was written is read back
pub part_written : (at : ℕ) (xs old : Octets) → at ≤ length old → part at (length xs) (written at xs old) ≡ xs
part_written at xs old inside =
    ap (take (length xs)) (drop_at (take at old) (xs ++ drop (at + length xs) old) at (length-take-le at old inside))
    ∙ take_at xs (drop (at + length xs) old) (length xs) refl

pub length_part : (at n : ℕ) (xs : Octets) → at + n ≤ length xs → length (part at n xs) ≡ n
length_part at n xs room = length-take-le n (drop at xs) (omega (arith, length-drop at xs))

-- a write at the start, and one that goes on where the last ended
pub written_start : (xs old : Octets) → written 0 xs old ≡ begins xs old
written_start xs old = ap (λ n. xs ++ drop n old) (zero-add (length xs))

pub written_next : (at : ℕ) (xs ys old : Octets) → length xs ≡ at → written at ys (begins xs old) ≡ begins (xs ++ ys) old
written_next at xs ys old e =
    let rest = drop (length xs) old in
    let front : take at (begins xs old) ≡ xs = take_at xs rest at e in
    let back : drop (at + length ys) (begins xs old) ≡ drop (length (xs ++ ys)) old =
    sym (drop-drop (length ys) at (begins xs old))
    ∙ ap (drop (length ys)) (drop_at xs rest at e)
    ∙ drop-drop (length ys) (length xs) old
    ∙ ap (λ n. drop n old) (sym (length-append xs ys)) in
    ap (λ t. t ++ (ys ++ drop (at + length ys) (begins xs old))) front
    ∙ ap (λ t. xs ++ (ys ++ t)) back
    ∙ sym (append_assoc xs ys (drop (length (xs ++ ys)) old))

-- what stands behind the first octets of a memory, and other octets written over it
module _ (at : ℕ) (xs ys old : Octets) (e : length xs ≡ at) where
  behind : drop at (begins (xs ++ ys) old) ≡ ys ++ drop (length (xs ++ ys)) old
  behind = ap (drop at) (append_assoc xs ys (drop (length (xs ++ ys)) old)) ∙ drop_at xs (ys ++ drop (length (xs ++ ys)) old) at e

  pub part_behind : part at (length ys) (begins (xs ++ ys) old) ≡ ys
  part_behind = ap (take (length ys)) behind ∙ take_at ys (drop (length (xs ++ ys)) old) (length ys) refl

  pub written_over : (zs : Octets) → length zs ≡ length ys → written at zs (begins (xs ++ ys) old) ≡ begins (xs ++ zs) old
  written_over zs same =
      let rest = drop (length (xs ++ ys)) old in
      let first = length-append xs ys in
      let second = length-append xs zs in
      let front : take at (begins (xs ++ ys) old) ≡ xs = ap (take at) (append_assoc xs ys rest) ∙ take_at xs (ys ++ rest) at e in
      let back : drop (at + length zs) (begins (xs ++ ys) old) ≡ drop (length (xs ++ zs)) old =
      drop_at (xs ++ ys) rest (at + length zs) (omega arith) ∙ ap (λ n. drop n old) (omega arith) in
      ap (λ t. t ++ (zs ++ drop (at + length zs) (begins (xs ++ ys) old))) front
      ∙ ap (λ t. xs ++ (zs ++ t)) back
      ∙ sym (append_assoc xs zs (drop (length (xs ++ zs)) old))

pub length-begins : (xs old : Octets) → length xs ≤ length old → length (begins xs old) ≡ length old
length-begins xs old room = let back = length-drop (length xs) old in length-append xs (drop (length xs) old) ∙ omega arith

-- a list of n octets, spelled out
pub spelled : (n : ℕ) (xs : Octets) → length xs ≡ n → xs ≡ map (λ i. get_or xs i 0) (range_with_len 0 n)
spelled n xs e = fill_by_all (λ i. get_or xs i 0) xs n 0 e (λ k h. refl)

module _ (at : ℕ) (xs old : Octets) (inside : at ≤ length old) where
  length_front : length (take at old ++ xs) ≡ at + length xs
  length_front = let front = length-take-le at old inside in length-append (take at old) xs ∙ omega arith

  -- a write in the middle, as one at the start
  written_begins : written at xs old ≡ begins (take at old ++ xs) old
  written_begins =
      sym (append_assoc (take at old) xs (drop (at + length xs) old)) ∙ sym (ap (λ n. (take at old ++ xs) ++ drop n old) length_front)

-- a write that goes on where the last ended
pub written_on : (at : ℕ) (xs ys old : Octets) → at ≤ length old → written (at + length xs) ys (written at xs old) ≡ written at (xs ++ ys) old
written_on at xs ys old inside =
    ap (written (at + length xs) ys) (written_begins at xs old inside)
    ∙ written_next (at + length xs) (take at old ++ xs) ys old (length_front at xs old inside)
    ∙ ap (λ front. begins front old) (append_assoc (take at old) xs ys)
    ∙ sym (written_begins at (xs ++ ys) old inside)

-- one write more to the start of a memory, where the last ended
pub begun_more : (done ys old before after all : Octets) (a : ℕ) → length done ≡ a → done ++ ys ≡ all → before ≡ begins done old → after ≡ written a ys before → after ≡ begins all old
begun_more done ys old before after all a long joined was now =
    now ∙ ap (written a ys) was ∙ written_next a done ys old long ∙ ap (λ l. begins l old) joined

-- a write to all of a memory from a place on
pub put_mid_rest : (n : ℕ) (memory xs : Octets) → put_mid n (length memory - n) memory xs ≡ take n memory ++ xs
put_mid_rest n memory xs =
    let none = drop_all (length memory - n) (drop n memory) (omega (arith, length-drop n memory)) in
    ap (λ l. take n memory ++ (xs ++ l)) none ∙ ap (λ l. take n memory ++ l) (append-nil xs)

-- octets at the start of a memory, and then others at the start of the part that begins behind them
pub written_after : (n : ℕ) (first next old one rest : Octets) → length first ≡ n → one ≡ written 0 first old → rest ≡ begins next (take (length one - n) (drop n one)) → put_mid n (length one - n) one rest ≡ begins (first ++ next) old
written_after n first next old one rest long was is =
    let start = was ∙ written_start first old in
    let front : take n one ≡ first = ap (take n) start ∙ take_at first (drop (length first) old) n long in
    let back : take (length one - n) (drop n one) ≡ drop (length first) old = take_rest one n ∙ ap (drop n) start ∙ drop_at first (drop (length first) old) n long in
    let all : rest ≡ next ++ drop (length (first ++ next)) old = is
    ∙ ap (λ l. next ++ drop (length next) l) back
    ∙ ap (λ l. next ++ l) (drop-drop (length next) (length first) old ∙ ap (λ k. drop k old) (sym (length-append first next))) in
    put_mid_rest n one rest ∙ (λ i. front i ++ all i) ∙ sym (append_assoc first next (drop (length (first ++ next)) old))
