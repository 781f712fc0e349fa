-- Rounds as the code makes them, column by column of the state.
use Rattle.std.proofs.Common.{◌≡◌, ℕ, ◌+◌, ◌/◌, ◌%◌, ◌<◌, List, [], ◌∷◌, ◌++◌, map, length, get_or, take, drop, sym, refl, ap, ◌∙◌, add-one, arith}
use Rattle.std.proofs.lemmas.List.{get_or-map, get_or-take, get_or-drop}
use lib.Bits.{bit_xor, xor_assoc, xor_comm, xor_zero_l, xor_zero_r}
use Rattle.sbox.specs.Field.{sub}
use Rattle.octets.specs.Octets.{xored}
use Rattle.aes.specs.Aes.{sub_bytes, shift_rows, mix_columns, add_round_key, round, last_round, rounds, encrypted}
use Rattle.aes.specs.Words.{quad, held, seat, mixes, places, Added, given, round_by}
use Rattle.aes.specs.declared.state.State.{State}

xored_assoc : (xs ys zs : List ℕ) → xored (xored xs ys) zs ≡ xored xs (xored ys zs)
xored_assoc [] ys zs = refl
xored_assoc (x ∷ xs) [] zs = refl
xored_assoc (x ∷ xs) (y ∷ ys) [] = refl
xored_assoc (x ∷ xs) (y ∷ ys) (z ∷ zs) = λ i. xor_assoc x y z i ∷ xored_assoc xs ys zs i

xored_comm : (xs ys : List ℕ) → xored xs ys ≡ xored ys xs
xored_comm [] [] = refl
xored_comm [] (y ∷ ys) = refl
xored_comm (x ∷ xs) [] = refl
xored_comm (x ∷ xs) (y ∷ ys) = λ i. xor_comm x y i ∷ xored_comm xs ys i

abbrev sum : List ℕ → List ℕ → List ℕ → List ℕ → List ℕ
sum w x y z = xored (xored (xored w x) y) z

-- the first of four to the end, and of five
around : (w x y z : List ℕ) → sum w x y z ≡ sum x y z w
around w x y z = ap (λ v. xored v z) (xored_assoc w x y) ∙ xored_assoc w (xored x y) z ∙ xored_comm w (xored (xored x y) z)

key_last : (k w x y z : List ℕ) → xored (sum k w x y) z ≡ xored (sum w x y z) k
key_last k w x y z =
    ap (λ v. xored v z) (around k w x y) ∙ xored_assoc (xored (xored w x) y) k z ∙ ap (xored (xored (xored w x) y)) (xored_comm k z)
    ∙ sym (xored_assoc (xored (xored w x) y) z k)

-- four sums in turn
chain : (k w x y z t u v r : List ℕ) → t ≡ xored k w → u ≡ xored t x → v ≡ xored u y → r ≡ xored v z → r ≡ xored (sum w x y z) k
chain k w x y z t u v r p q m n =
    n ∙ ap (λ a. xored a z) (m ∙ ap (λ a. xored a y) (q ∙ ap (λ a. xored a x) p)) ∙ key_last k w x y z

-- the columns of the state s, added in turn to the key k
pub added : (gives : ℕ → ℕ → List ℕ) (k s t u v r : State) → Added gives k s.a t → Added gives t s.b u → Added gives u s.c v → Added gives v s.d r → held r ≡ round_by gives k s
unfolding held round_by
added gives k s t u v r p q m n =
    let a = s.a in
    let b = s.b in
    let c = s.c in
    let d = s.d in
    let from : ℕ → ℕ → List ℕ = given gives in
    let first = chain (quad k.a) (from 0 a) (from 1 b) (from 2 c) (from 3 d) _ _ _ _ p.fourth q.third m.second n.first in
    let second =
    chain (quad k.b) (from 3 a) (from 0 b) (from 1 c) (from 2 d) _ _ _ _ p.first q.fourth m.third n.second
    ∙ ap (λ x. xored x (quad k.b)) (around (from 3 a) (from 0 b) (from 1 c) (from 2 d))
    in
    let third =
    chain (quad k.c) (from 2 a) (from 3 b) (from 0 c) (from 1 d) _ _ _ _ p.second q.first m.fourth n.third
    ∙ ap (λ x. xored x (quad k.c)) (around (from 2 a) (from 3 b) (from 0 c) (from 1 d) ∙ around (from 3 b) (from 0 c) (from 1 d) (from 2 a))
    in
    let fourth =
    chain (quad k.d) (from 1 a) (from 2 b) (from 3 c) (from 0 d) _ _ _ _ p.third q.second m.first n.fourth
    ∙ ap (λ x. xored x (quad k.d))
    (around (from 1 a) (from 2 b) (from 3 c) (from 0 d) ∙ around (from 2 b) (from 3 c) (from 0 d) (from 1 a) ∙ around (from 3 c) (from 0 d) (from 1 a) (from 2 b))
    in
    λ i. first i ++ second i ++ third i ++ fourth i

-- the octets of a column, each in its row
seats : (a b c d : ℕ) → sum (seat 0 a) (seat 1 b) (seat 2 c) (seat 3 d) ≡ a ∷ b ∷ c ∷ d ∷ []
unfolding seat
seats a b c d =
    let z : (x : ℕ) → bit_xor (bit_xor x 0) 0 ≡ x = λ x. xor_zero_r (bit_xor x 0) ∙ xor_zero_r x in
    λ i. (xor_zero_r (bit_xor (bit_xor a 0) 0) ∙ z a) i ∷ (z (bit_xor 0 b) ∙ xor_zero_l b) i ∷ (xor_zero_r (bit_xor 0 c) ∙ xor_zero_l c) i ∷ xor_zero_l d i ∷ []

-- a round under the key k, and the last round
pub round_is : (k s : State) → round_by mixes k s ≡ round (held k) (held s)
unfolding held round_by mixes sub_bytes shift_rows mix_columns add_round_key round
round_is k s = refl

pub last_is : (k s : State) → round_by places k s ≡ last_round (held k) (held s)
unfolding held round_by sub_bytes shift_rows add_round_key last_round
last_is k s =
    let settled = λ (key a b c d : ℕ). ap (λ x. xored x (quad key)) (seats (sub (a % 256)) (sub (b / 256 % 256)) (sub (c / 65536 % 256)) (sub (d / 16777216 % 256))) in
    λ i. settled k.a s.a s.b s.c s.d i ++ settled k.b s.b s.c s.d s.a i ++ settled k.c s.c s.d s.a s.b i ++ settled k.d s.d s.a s.b s.c i

-- one round more
pub more : (ks : List (List ℕ)) (b : List ℕ) (n : ℕ) (k s r : List ℕ) → k ≡ get_or ks (n + 1) [] → s ≡ rounds ks b n → r ≡ round k s → r ≡ rounds ks b (n + 1)
unfolding rounds
more ks b n k s r p q e =
    e ∙ (λ i. round ((p ∙ ap (λ j. get_or ks j []) (add-one n)) i) (q i)) ∙ ap (rounds ks b) (sym (add-one n))

-- all of it: the first key, nine rounds and the last one
pub whole : (ks : List (List ℕ)) (b k l : List ℕ) (start s e r : List ℕ) (n : ℕ) → e ≡ b → k ≡ get_or ks 0 [] → start ≡ xored e k → s ≡ rounds ks start n → n ≡ 9 → l ≡ get_or ks 10 [] → r ≡ last_round l s → r ≡ encrypted ks b
unfolding add_round_key encrypted
whole ks b k l start s e r n block key first inner nine last outer =
    let first' = first ∙ (λ i. xored (block i) (key i)) in
    outer ∙ (λ i. last_round (last i) ((inner ∙ (λ j. rounds ks (first' j) (nine j))) i))

-- a round key, from the list of those that the code holds, and from the nine that stand between the first and the last
pub key_at : (keys : List State) (i : ℕ) (d : State) → i < length keys → held (get_or keys i d) ≡ get_or (map held keys) i []
key_at keys i d within = sym (get_or-map held keys i d [] within)

pub inner_key : (keys : List State) (i : ℕ) (d : State) → length keys ≡ 11 → i < 9 → held (get_or (take 9 (drop 1 keys)) i d) ≡ get_or (map held keys) (i + 1) []
inner_key keys i d long within =
    let n : 1 + i ≡ i + 1 = omega arith in
    ap held (get_or-take 9 (drop 1 keys) i d within ∙ get_or-drop 1 keys i d ∙ ap (λ k. get_or keys k d) n) ∙ key_at keys (i + 1) d (omega arith)
