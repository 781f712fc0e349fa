-- The key stream over joined lists, over a piece in the middle, and twice.
use Rattle.std.proofs.Common.{◌≡◌, ℕ, suc, ◌+◌, ◌≤◌, List, [], ◌∷◌, ◌++◌, length, take, drop, sym, refl, ap, ◌∙◌, append_assoc, arith}
use lib.Bits.{bit_xor, xor_assoc, xor_self, xor_zero_r}
use borrow.Rule.Slice.PartMut.{put_mid}
use Rattle.std.proofs.lemmas.List.{length-drop, length-take-le, take-append-drop, drop-drop}
use Rattle.std.proofs.lemmas.Slice.{take-put_mid, drop-put_mid}
use Rattle.rc4.specs.declared.Rc4.{Rc4}
use Rattle.rc4.specs.Rc4.{stepped, output, after, masked, GoesOn}

pub masked-append : (s : Rc4) (xs ys : List ℕ) → masked s (xs ++ ys) ≡ masked s xs ++ masked (after (length xs) s) ys
masked-append s [] ys = refl
masked-append s (x ∷ xs) ys = ap (λ l. bit_xor x (output (stepped s)) ∷ l) (masked-append (stepped s) xs ys)

pub after-append : (s : Rc4) (xs ys : List ℕ) → after (length (xs ++ ys)) s ≡ after (length ys) (after (length xs) s)
after-append s [] ys = refl
after-append s (x ∷ xs) ys = after-append (stepped s) xs ys

pub goes_on : (from : Rc4) (octets out : List ℕ) (to : Rc4) → out ≡ masked from octets → to ≡ after (length octets) from → GoesOn from octets out to
goes_on from octets out to o t =
    record {
      stream = λ s before e. masked-append s before octets ∙ ap (λ f. masked s before ++ masked f octets) e ∙ ap (λ l. masked s before ++ l) (sym o);
      state = λ s before e. after-append s before octets ∙ ap (after (length octets)) e ∙ sym t;
    }

-- twice the same key stream is none
pub masked_twice : (s : Rc4) (xs : List ℕ) → masked s (masked s xs) ≡ xs
masked_twice s [] = refl
masked_twice s (x ∷ xs) =
    let k = output (stepped s) in
    let one : bit_xor (bit_xor x k) k ≡ x = xor_assoc x k k ∙ ap (bit_xor x) (xor_self k) ∙ xor_zero_r x in
    let rest = masked_twice (stepped s) xs in
    λ i. one i ∷ rest i

pub length-masked : (s : Rc4) (xs : List ℕ) → length (masked s xs) ≡ length xs
length-masked s [] = refl
length-masked s (x ∷ xs) = ap suc (length-masked (stepped s) xs)

-- the first n octets, and those behind them
module _ (s : Rc4) (xs : List ℕ) (n : ℕ) (h : n ≤ length xs) where
  size : length (take n xs) ≡ n
  size = length-take-le n xs h

  pub masked_split : masked s (take n xs) ++ masked (after n s) (drop n xs) ≡ masked s xs
  masked_split =
      ap (λ k. masked s (take n xs) ++ masked (after k s) (drop n xs)) (sym size) ∙ sym (masked-append s (take n xs) (drop n xs))
      ∙ ap (masked s) (take-append-drop n xs)

  pub after_split : after (length (drop n xs)) (after n s) ≡ after (length xs) s
  after_split =
      ap (λ k. after (length (drop n xs)) (after k s)) (sym size) ∙ sym (after-append s (take n xs) (drop n xs))
      ∙ ap (λ l. after (length l) s) (take-append-drop n xs)

-- Octets of which the first i are done, with the state s: what they come to, and the last state.
abbrev pub made : ℕ → Rc4 → List ℕ → List ℕ
made i s xs = take i xs ++ masked s (drop i xs)

abbrev pub last : ℕ → Rc4 → List ℕ → Rc4
last i s xs = after (length (drop i xs)) s

-- n octets from the place i on, which hold zs now
module _ (s : Rc4) (xs zs : List ℕ) (i n k : ℕ) (h : i + n ≤ length xs) (e : k ≡ n) (made_of : zs ≡ masked s (take k (drop i xs))) where
  abbrev then : List ℕ
  then = put_mid i k xs zs

  within : n ≤ length (drop i xs)
  within = simp length-drop (omega arith)

  here : zs ≡ masked s (take n (drop i xs))
  here = made_of ∙ ap (λ m. masked s (take m (drop i xs))) e

  long : length zs ≡ n
  long = ap length here ∙ length-masked s (take n (drop i xs)) ∙ length-take-le n (drop i xs) within

  behind : drop (i + n) then ≡ drop n (drop i xs)
  behind = drop-put_mid i k xs zs (i + n) (omega arith) (omega arith) (long ∙ sym e) ∙ sym (drop-drop n i xs)

  pub made-piece : made (i + n) (after n s) then ≡ made i s xs
  made-piece =
      ap (λ l. l ++ masked (after n s) (drop (i + n) then)) (take-put_mid i k xs zs (i + n) (omega (arith, long)) (omega arith))
      ∙ append_assoc (take i xs) zs _ ∙ ap (λ l. take i xs ++ (zs ++ masked (after n s) l)) behind
      ∙ ap (λ l. take i xs ++ (l ++ masked (after n s) (drop n (drop i xs)))) here
      ∙ ap (λ l. take i xs ++ l) (masked_split s (drop i xs) n within)

  pub last_piece : last (i + n) (after n s) then ≡ last i s xs
  last_piece = ap (λ l. after (length l) (after n s)) behind ∙ after_split s (drop i xs) n within
