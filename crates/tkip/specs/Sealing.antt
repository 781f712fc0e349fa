-- What RC4 makes of octets under the key of a frame, whole and in two parts.
use Rattle.std.specs.Prelude.{◌≡◌, ℕ, ◌+◌, ◌-◌, ◌≤◌, ◌++◌, length, take, drop}
use Rattle.std.proofs.Common.{sym, ap, ◌∙◌, arith}
use borrow.Rule.Slice.PartMut.{put_mid}
use Rattle.std.proofs.lemmas.List.{append_assoc, length-append, take_at, drop_at, length-take-le}
use Rattle.octets.specs.Octets.{Octets, AreOctets, part, begins, written}
use Rattle.octets.proofs.Writing.{put_mid_written, written_start, written_next, part_behind, written_over}
use Rattle.frame.specs.Addresses.{address_at}
use Rattle.rc4.specs.Rc4.{after, masked}
use Rattle.rc4.specs.declared.Rc4.{Rc4}
use Rattle.rc4.proofs.Covering.{covered_twice, length-covered, octets-covered}
use Rattle.rc4.proofs.Stream.{masked_split, length-masked}
use Rattle.mixing.specs.Mixing.{rc4_key}
use Rattle.tkip.specs.Tkip.{counter_in, under, piece_in, check_in}

module _ (key header : Octets) (counter : ℕ) (xs : Octets) where
  pub under_twice : under key header counter (under key header counter xs) ≡ xs
  unfolding under
  under_twice = covered_twice (rc4_key key (address_at 10 header) counter) xs

  pub length_under : length (under key header counter xs) ≡ length xs
  unfolding under
  length_under = length-covered (rc4_key key (address_at 10 header) counter) xs

  pub octets_under : AreOctets xs → AreOctets (under key header counter xs)
  unfolding under
  octets_under all = octets-covered (rc4_key key (address_at 10 header) counter) xs all

-- the first n octets under a key stream, and those behind them
module _ (s : Rc4) (xs : Octets) (n : ℕ) (h : n ≤ length xs) where
  long : length (masked s (take n xs)) ≡ n
  long = length-masked s (take n xs) ∙ length-take-le n xs h

  pub front-masked : take n (masked s xs) ≡ masked s (take n xs)
  front-masked = ap (take n) (sym (masked_split s xs n h)) ∙ take_at (masked s (take n xs)) (masked (after n s) (drop n xs)) n long

  pub back_masked : drop n (masked s xs) ≡ masked (after n s) (drop n xs)
  back_masked = ap (drop n) (sym (masked_split s xs n h)) ∙ drop_at (masked s (take n xs)) (masked (after n s) (drop n xs)) n long

-- the two parts that RC4 is taken away from, one after the other
pub parts_masked : (s t : Rc4) (xs first second ys zs : Octets) (n : ℕ) → n ≤ length xs → first ≡ take n xs → second ≡ drop n xs → ys ≡ masked s first → t ≡ after (length first) s → zs ≡ masked t second → (ys ≡ take n (masked s xs)) × (zs ≡ drop n (masked s xs))
parts_masked s t xs first second ys zs n h ef es ey et ez =
    let state : t ≡ after n s = et ∙ ap (λ l. after (length l) s) ef ∙ ap (λ k. after k s) (length-take-le n xs h) in (
      ey ∙ ap (masked s) ef ∙ sym (front-masked s xs n h),
      ez ∙ ap (masked t) es ∙ ap (λ u. masked u (drop n xs)) state ∙ sym (back_masked s xs n h),
    )

-- a head, a piece and its check written one behind the other, and RC4 over the last two
pub seal-laid : (key header : Octets) (counter end k : ℕ) (head piece check m1 m2 m3 over old : Octets) → length head ≡ 8 → end ≡ 8 + length piece → k ≡ length piece + length check → m1 ≡ written 0 head old → m2 ≡ written 8 piece m1 → m3 ≡ written end check m2 → over ≡ under key header counter (take k (drop 8 m3)) → put_mid 8 k m3 over ≡ begins (head ++ under key header counter (piece ++ check)) old
seal-laid key header counter end k head piece check m1 m2 m3 over old lh le lk e1 e2 e3 e4 =
    let inner = piece ++ check in
    let first = e1 ∙ written_start head old in
    let second = e2 ∙ ap (written 8 piece) first ∙ written_next 8 head piece old lh in
    let third = e3 ∙ ap (written end check) second ∙ written_next end (head ++ piece) check old (omega (arith, length-append head piece)) in
    let laid : m3 ≡ begins (head ++ inner) old = third ∙ ap (λ xs. begins xs old) (append_assoc head piece check) in
    let size : k ≡ length inner = lk ∙ sym (length-append piece check) in
    let inside : take k (drop 8 m3) ≡ inner = ap (λ n. part 8 n m3) size ∙ ap (part 8 (length inner)) laid ∙ part_behind 8 head inner old lh in
    let is : over ≡ under key header counter inner = e4 ∙ ap (under key header counter) inside in
    let long : length over ≡ length inner = ap length is ∙ length_under key header counter inner in
    put_mid_written 8 k m3 over (size ∙ sym long) ∙ ap (written 8 over) laid ∙ written_over 8 head inner old lh over long
    ∙ ap (λ ys. begins (head ++ ys) old) is

-- what stands beyond a head, taken apart
pub opened_parts : (key header body : Octets) (counter n : ℕ) (sealed piece check : Octets) → counter ≡ counter_in body → n ≡ length body - 12 → sealed ≡ drop 8 body → piece ≡ take n (under key header counter sealed) → check ≡ drop n (under key header counter sealed) → (piece ≡ piece_in key header body) × (check ≡ check_in key header body)
opened_parts key header body counter n sealed piece check ec en es ep ek =
    let bare : under key header counter sealed ≡ under key header (counter_in body) (drop 8 body) = λ i. under key header (ec i) (es i) in
    (ep ∙ (λ i. take (en i) (bare i)), ek ∙ (λ i. drop (en i) (bare i)))
