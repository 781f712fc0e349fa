-- A text put under the key stream block by block, and what of it is chained.
use Rattle.std.proofs.Common.{◌≡◌, ℕ, ◌+◌, ◌-◌, ◌*◌, ◌<◌, ◌≤◌, Bool, true, false, not, eqb, ◌++◌, map, length, take, drop, sym, refl, ap, ◌∙◌, arith, take-add}
use lib.Bits.{bit_xor}
use Rattle.std.specs.List.{range_with_len}
use Rattle.std.proofs.lemmas.List.{length-drop, length-take-le, take_all, take_at, take-append-drop}
use Rattle.octets.specs.Octets.{Octets, part, written, begins, xored}
use Rattle.octets.proofs.Writing.{begun_more}
use Rattle.aes.specs.Words.{octets}
use Rattle.ccm.specs.Ccm.{block_of, blocks, count_blocks, counter_block, chained, covered}
use Rattle.ccm.specs.Inner.{WholeBlocks, filled, plain}
use Rattle.ccm.proofs.Blocks.{chained_more}
use Rattle.ccm.proofs.Stream.{length-covered, covered_part}
use Rattle.aes.proofs.Quads.{octets-xor}
use Rattle.octets.proofs.Words.{take-xored, length-xored}

-- a number that is not 0 says that a text is opened
abbrev pub opens : ℕ → Bool
opens n = not (eqb n 0)

pub opened_plain : (n : ℕ) (E : Octets → Octets) (nonce xs : Octets) → (n ≡ 0 → ⊥) → covered E nonce xs ≡ plain (opens n) E nonce xs
opened_plain n E nonce xs some = grind arith

pub sealed_plain : (n : ℕ) (E : Octets → Octets) (nonce xs : Octets) → n ≡ 0 → xs ≡ plain (opens n) E nonce xs
sealed_plain n E nonce xs none = grind arith

pub length_plain : (b : Bool) (E : Octets → Octets) (nonce xs : Octets) → WholeBlocks E → length (plain b E nonce xs) ≡ length xs
length_plain true E nonce xs whole = length-covered E nonce xs whole
length_plain false E nonce xs whole = refl

-- a whole block, b, under its block of the stream, k
pub covered-block : (E : Octets → Octets) (nonce xs : Octets) (i b k : ℕ) → WholeBlocks E → 16 * i + 16 ≤ length xs → octets b ≡ part (16 * i) 16 xs → octets k ≡ E (counter_block nonce (i + 1)) → octets (bit_xor b k) ≡ part (16 * i) 16 (covered E nonce xs)
covered-block E nonce xs i b k whole room text key =
    octets-xor b k ∙ (λ j. xored (text j) (key j)) ∙ sym (covered_part E nonce xs i whole (omega arith))

-- only as much of a sum as its first part
front-xored : (r ys zs : Octets) → length r ≤ length ys → take (length r) (xored (r ++ zs) ys) ≡ xored r ys
front-xored r ys zs room =
    let n = length r in
    take-xored n (r ++ zs) ys
    ∙ ap (λ l. xored l (take n ys)) (take_at r zs n refl ∙ sym (take_all n r (omega arith)))
    ∙ sym (take-xored n r ys)
    ∙ take_all n (xored r ys) (omega (arith, length-xored r ys room))

-- the last octets, filled up in b
pub covered-rest : (E : Octets → Octets) (nonce xs : Octets) (i b k size : ℕ) → WholeBlocks E → 16 * i < length xs → length xs ≤ 16 * i + 16 → size ≡ length xs - 16 * i → octets b ≡ filled (drop (16 * i) xs) → octets k ≡ E (counter_block nonce (i + 1)) → take size (octets (bit_xor b k)) ≡ drop (16 * i) (covered E nonce xs)
covered-rest E nonce xs i b k size whole some most is text key =
    let r = drop (16 * i) xs in
    let long = length-drop (16 * i) xs in
    let n : size ≡ length r = is ∙ sym long in
    let block = whole (counter_block nonce (i + 1)) in
    let end = length-drop (16 * i) (covered E nonce xs) in
    let same = length-covered E nonce xs whole in
    (λ j. take (n j) ((octets-xor b k ∙ (λ m. xored (text m) (key m))) j))
    ∙ front-xored r (E (counter_block nonce (i + 1))) _ (omega arith)
    ∙ ap (λ l. xored l (E (counter_block nonce (i + 1)))) (sym (take_all 16 r (omega arith)))
    ∙ sym (covered_part E nonce xs i whole some)
    ∙ take_all 16 (drop (16 * i) (covered E nonce xs)) (omega arith)

pub block_next : (cov old before after ys : Octets) (i : ℕ) → 16 * i + 16 ≤ length cov → before ≡ begins (take (16 * i) cov) old → after ≡ written (16 * i) ys before → ys ≡ part (16 * i) 16 cov → after ≡ begins (take (16 * (i + 1)) cov) old
block_next cov old before after ys i room was now is =
    let n : 16 * i + 16 ≡ 16 * (i + 1) = omega arith in
    begun_more (take (16 * i) cov) ys old before after _ (16 * i) (length-take-le (16 * i) cov (omega arith))
    (ap (λ l. take (16 * i) cov ++ l) is ∙ sym (take-add (16 * i) 16 cov) ∙ ap (λ m. take m cov) n) was now

pub rest_next : (cov old before after : Octets) (i k : ℕ) → i ≡ k → 16 * k ≤ length cov → before ≡ begins (take (16 * i) cov) old → after ≡ written (16 * k) (drop (16 * k) cov) before → after ≡ begins cov old
rest_next cov old before after i k e inside was now =
    begun_more (take (16 * k) cov) (drop (16 * k) cov) old before after cov (16 * k) (length-take-le (16 * k) cov inside) (take-append-drop (16 * k) cov)
    (was ∙ ap (λ n. begins (take (16 * n) cov) old) e) now

-- all blocks, with the last
pub chained_all : (E : Octets → Octets) (start xs : Octets) (i k : ℕ) (before after : Octets) → i ≡ k → k + 1 ≡ count_blocks xs → before ≡ chained E start (map (block_of xs) (range_with_len 0 i)) → after ≡ E (xored before (block_of xs k)) → after ≡ chained E start (blocks xs)
chained_all E start xs i k before after e all was now =
    now
    ∙ ap (λ l. E (xored l (block_of xs k))) (was ∙ ap (λ n. chained E start (map (block_of xs) (range_with_len 0 n))) e)
    ∙ sym (chained_more E start (block_of xs) k)
    ∙ ap (λ n. chained E start (map (block_of xs) (range_with_len 0 n))) all
