-- The rule of the substitution's table, and the law of the inverse, each by one test over all octets.
use Rattle.std.proofs.Common.{◌≡◌, ℕ, ◌<◌, min, Bool, T, eqb, ltb, List, length, get_or, refl, ap, ◌∙◌, arith, eqb→eq, ltb→lt}
use Rattle.std.specs.List.{range_with_len}
use Rattle.sbox.specs.Field.{xtime, times, product, power, inverse, Inverts, sub}
use Rattle.octets.proofs.Tables.{both, both_left, both_right, every, at, at_octet}

unfoldable pub right : ℕ → ℕ → Bool
right k x = eqb x (sub k)

pub rule : (xs : List ℕ) → T (every right 0 xs) → (k : ℕ) → k < length xs → get_or xs k 0 ≡ sub k
unfolding right
rule xs t k h = eqb→eq (get_or xs k 0) (sub k) (at right xs t k h)

-- inverse a is an octet, and its product with a is 1, or 0 where a is 0
inverts : ℕ → ℕ → Bool
inverts k a = both (ltb (inverse a) 256) (eqb (product a (inverse a)) (min 1 a))

all_invert : T (every inverts 0 (range_with_len 0 256))
unfolding inverts xtime times product power inverse
all_invert = tt

none : inverse 0 ≡ 0
unfolding xtime times product power inverse
none = refl

pub inverse_law : (a : ℕ) → a < 256 → Inverts a
unfolding inverts
inverse_law a h =
    let t = at_octet inverts all_invert a h in
    let octet = both_left (ltb (inverse a) 256) (eqb (product a (inverse a)) (min 1 a)) t in
    let one = both_right (ltb (inverse a) 256) (eqb (product a (inverse a)) (min 1 a)) t in
    record {
      octet = ltb→lt (inverse a) 256 octet;
      none = λ e. ap inverse e ∙ none;
      one = λ p. eqb→eq (product a (inverse a)) (min 1 a) one ∙ omega arith;
    }
