-- AES-128 makes sixteen octets of each block of octets.
use Rattle.std.proofs.Common.{◌≡◌, ℕ, zero, suc, ◌+◌, ◌/◌, ◌%◌, ◌<◌, Bool, T, ltb, List, [], ◌∷◌, ◌++◌, length, get_or, refl, ap, ◌∙◌, arith, ltb→lt}
use lib.Bits.{bit_xor, xor_lt}
use Rattle.std.specs.List.{range_with_len, AllByRecursion}
use Rattle.std.proofs.ByRecursion.{All-map, All-weaker}
use Rattle.octets.specs.Octets.{Octets, AreOctets, xored}
use Rattle.ccm.proofs.Everywhere.{all_of}
use Rattle.octets.proofs.Numbers.{octet_at, AreOctets-append}
use Rattle.sbox.specs.Field.{xtime, thrice, times, product, power, inverse, turned, affine, sub}
use Rattle.octets.proofs.Tables.{both, both_left, both_right, every, at_octet}
use Rattle.aes.specs.Aes.{at, sub_bytes, shift_rows, mix_column, mixed_at, mix_columns, add_round_key, word_at, turned_word, rcon, next_key, round_key, expanded, round, last_round, rounds, encrypted, aes128}
use Rattle.aes.specs.Words.{round_keys}
use Rattle.aes.specs.declared.Aes128.{Aes128}
use Rattle.ccm.specs.Inner.{under, WholeBlocks}
use Rattle.octets.proofs.Words.{AreOctets-xored}

pub aes_whole : (key : Octets) → WholeBlocks (aes128 key)
unfolding shift_rows add_round_key next_key round_key expanded last_round encrypted
aes_whole key = λ b. refl

pub under_whole : (cipher : Aes128) (key : Octets) → round_keys cipher ≡ expanded key → WholeBlocks (under cipher)
under_whole cipher key e = λ b. ap (λ ks. length (encrypted ks b)) e ∙ aes_whole key b

-- the substitution and the product with 2 give octets, by one test of all octets
within : ℕ → ℕ → Bool
within k a = both (ltb (sub a) 256) (ltb (xtime a) 256)

all_within : T (every within 0 (range_with_len 0 256))
unfolding within xtime times product power inverse turned affine sub
all_within = tt

sub-octet : (a : ℕ) → a < 256 → sub a < 256
unfolding within
sub-octet a h = ltb→lt (sub a) 256 (both_left (ltb (sub a) 256) (ltb (xtime a) 256) (at_octet within all_within a h))

xtime-octet : (a : ℕ) → a < 256 → xtime a < 256
unfolding within
xtime-octet a h = ltb→lt (xtime a) 256 (both_right (ltb (sub a) 256) (ltb (xtime a) 256) (at_octet within all_within a h))

thrice-octet : (a : ℕ) → a < 256 → thrice a < 256
unfolding thrice
thrice-octet a h = xor_lt 8 (xtime a) a (xtime-octet a h) h

sub_bytes_octets : (s : Octets) → AreOctets s → AreOctets (sub_bytes s)
unfolding sub_bytes
sub_bytes_octets s all = All-map (λ x. x < 256) sub s (All-weaker (λ x. x < 256) (λ x. sub x < 256) sub-octet s all)

shift_rows_octets : (s : Octets) → AreOctets s → AreOctets (shift_rows s)
unfolding shift_rows
shift_rows_octets s all =
    All-map (λ x. x < 256) (λ i. at s (i % 4) (i / 4 + i % 4)) (range_with_len 0 16)
    (all_of (λ i. at s (i % 4) (i / 4 + i % 4) < 256) (λ i. octet_at s _ all) (range_with_len 0 16))

four : (a b c d : ℕ) → a < 256 → b < 256 → c < 256 → d < 256 → bit_xor (bit_xor (bit_xor a b) c) d < 256
four a b c d p q r s = xor_lt 8 (bit_xor (bit_xor a b) c) d (xor_lt 8 (bit_xor a b) c (xor_lt 8 a b p q) r) s

quad-octets : (a b c d : ℕ) → a < 256 → b < 256 → c < 256 → d < 256 → AreOctets (a ∷ b ∷ c ∷ d ∷ [])
quad-octets a b c d p q r s = (p, (q, (r, (s, tt))))

mix_column_octets : (a b c d : ℕ) → a < 256 → b < 256 → c < 256 → d < 256 → AreOctets (mix_column a b c d)
mix_column_octets a b c d p q r s =
    quad-octets _ _ _ _ (four (xtime a) (thrice b) c d (xtime-octet a p) (thrice-octet b q) r s)
    (four a (xtime b) (thrice c) d p (xtime-octet b q) (thrice-octet c r) s)
    (four a b (xtime c) (thrice d) p q (xtime-octet c r) (thrice-octet d s))
    (four (thrice a) b c (xtime d) (thrice-octet a p) q r (xtime-octet d s))

mixed_at_octets : (s : Octets) (c : ℕ) → AreOctets s → AreOctets (mixed_at s c)
mixed_at_octets s c all =
    mix_column_octets (at s 0 c) (at s 1 c) (at s 2 c) (at s 3 c) (octet_at s _ all) (octet_at s _ all) (octet_at s _ all) (octet_at s _ all)

four-words : (a b c d : Octets) → AreOctets a → AreOctets b → AreOctets c → AreOctets d → AreOctets (a ++ b ++ c ++ d)
four-words a b c d p q r s = AreOctets-append (a ++ b ++ c) d (AreOctets-append (a ++ b) c (AreOctets-append a b p q) r) s

mix_columns_octets : (s : Octets) → AreOctets s → AreOctets (mix_columns s)
unfolding mix_columns
mix_columns_octets s all =
    four-words (mixed_at s 0) (mixed_at s 1) (mixed_at s 2) (mixed_at s 3) (mixed_at_octets s 0 all) (mixed_at_octets s 1 all) (mixed_at_octets s 2 all) (mixed_at_octets s 3 all)

word_at_octets : (k : Octets) (c : ℕ) → AreOctets k → AreOctets (word_at k c)
word_at_octets k c all = quad-octets _ _ _ _ (octet_at k _ all) (octet_at k _ all) (octet_at k _ all) (octet_at k _ all)

turned_word_octets : (w : Octets) → AreOctets w → AreOctets (turned_word w)
turned_word_octets w all =
    quad-octets _ _ _ _ (sub-octet (get_or w 1 0) (octet_at w 1 all)) (sub-octet (get_or w 2 0) (octet_at w 2 all)) (sub-octet (get_or w 3 0) (octet_at w 3 all)) (sub-octet (get_or w 0 0) (octet_at w 0 all))

next_key_octets : (x : ℕ) (k : Octets) → x < 256 → AreOctets k → AreOctets (next_key x k)
unfolding next_key
next_key_octets x k small all =
    let turn = turned_word (word_at k 3) in
    let first = xored turn (x ∷ 0 ∷ 0 ∷ 0 ∷ []) in
    let a = xored (word_at k 0) first in
    let b = xored (word_at k 1) a in
    let c = xored (word_at k 2) b in
    let d = xored (word_at k 3) c in
    let first-all = AreOctets-xored turn (x ∷ 0 ∷ 0 ∷ 0 ∷ []) (turned_word_octets (word_at k 3) (word_at_octets k 3 all)) (quad-octets x 0 0 0 small (omega arith) (omega arith) (omega arith)) in
    let a-all = AreOctets-xored (word_at k 0) first (word_at_octets k 0 all) first-all in
    let b_all = AreOctets-xored (word_at k 1) a (word_at_octets k 1 all) a-all in
    let c-all = AreOctets-xored (word_at k 2) b (word_at_octets k 2 all) b_all in
    let d-all = AreOctets-xored (word_at k 3) c (word_at_octets k 3 all) c-all in
    four-words a b c d a-all b_all c-all d-all

rcon-octet : (n : ℕ) → rcon n < 256
unfolding rcon
rcon-octet zero = omega arith
rcon-octet (suc n) = xtime-octet (rcon n) (rcon-octet n)

round_key_octets : (key : Octets) (n : ℕ) → AreOctets key → AreOctets (round_key key n)
unfolding round_key
round_key_octets key zero all = all
round_key_octets key (suc n) all = next_key_octets (rcon n) (round_key key n) (rcon-octet n) (round_key_octets key n all)

get_or_octets : (ks : List Octets) (n : ℕ) → AllByRecursion AreOctets ks → AreOctets (get_or ks n [])
get_or_octets [] n all = tt
get_or_octets (k ∷ ks) zero all = all.0
get_or_octets (k ∷ ks) (suc n) all = get_or_octets ks n all.1

expanded-octets : (key : Octets) → AreOctets key → AllByRecursion AreOctets (expanded key)
unfolding expanded
expanded-octets key all =
    All-map AreOctets (round_key key) (range_with_len 0 11) (all_of (λ n. AreOctets (round_key key n)) (λ n. round_key_octets key n all) (range_with_len 0 11))

rounds-octets : (ks : List Octets) (s : Octets) (n : ℕ) → AllByRecursion AreOctets ks → AreOctets s → AreOctets (rounds ks s n)
unfolding rounds round add_round_key
rounds-octets ks s zero keys all = all
rounds-octets ks s (suc n) keys all =
    AreOctets-xored _ (get_or ks (suc n) []) (mix_columns_octets _ (shift_rows_octets _ (sub_bytes_octets _ (rounds-octets ks s n keys all)))) (get_or_octets ks (suc n) keys)

encrypted-octets : (ks : List Octets) (b : Octets) → AllByRecursion AreOctets ks → AreOctets b → AreOctets (encrypted ks b)
unfolding encrypted last_round add_round_key
encrypted-octets ks b keys all =
    let start = AreOctets-xored b (get_or ks 0 []) all (get_or_octets ks 0 keys) in
    AreOctets-xored _ (get_or ks 10 []) (shift_rows_octets _ (sub_bytes_octets _ (rounds-octets ks _ 9 keys start))) (get_or_octets ks 10 keys)

pub aes_octets : (key : Octets) → AreOctets key → (b : Octets) → AreOctets b → AreOctets (aes128 key b)
aes_octets key all b block = encrypted-octets (expanded key) b (expanded-octets key all) block
