-- What RC4 makes of octets: as many, and octets again.
use Rattle.std.proofs.Common.{◌≡◌, ℕ, zero, suc, ◌<◌, [], ◌∷◌, length, get_or, set, arith}
use lib.Bits.{xor_lt}
use Rattle.std.specs.List.{range_with_len}
use Rattle.std.proofs.lemmas.List.FromFn.{get_or-range_with_len, length-range_with_len}
use Rattle.std.proofs.ByRecursion.{All-set, All-from_get_or}
use Rattle.octets.specs.Octets.{Octets, AreOctets}
use Rattle.octets.proofs.Numbers.{octet_at}
use Rattle.rc4.specs.declared.Rc4.{Rc4}
use Rattle.rc4.specs.Rc4.{swapped, key_move, key_turns, scheduled, stepped, output, masked, covered, next_i, next_j}
use Rattle.rc4.proofs.Stream.{masked_twice, length-masked}

octets-swapped : (table : Octets) (i j : ℕ) → AreOctets table → AreOctets (swapped table i j)
octets-swapped table i j all =
    All-set (λ x. x < 256) (set table i (get_or table j 0)) j (get_or table i 0) (octet_at table i all) (All-set (λ x. x < 256) table i (get_or table j 0) (octet_at table j all) all)

octets_first : AreOctets (range_with_len 0 256)
octets_first = All-from_get_or (λ x. x < 256) (range_with_len 0 256) 0 (λ i h. omega (arith, get_or-range_with_len 0 256 i 0 (omega (arith, length-range_with_len 0 256)), length-range_with_len 0 256))

octets-turned : (key : Octets) (n : ℕ) → AreOctets (key_turns key n).0
unfolding key_turns
octets-turned key zero = octets_first
octets-turned key (suc n) = octets-swapped (key_turns key n).0 n (key_move key n (key_turns key n)) (octets-turned key n)

octets-masked : (s : Rc4) (xs : Octets) → AreOctets s.table → AreOctets xs → AreOctets (masked s xs)
unfolding stepped output
octets-masked s [] table all = tt
octets-masked s (x ∷ xs) table all =
    let next = octets-swapped s.table (next_i s) (next_j s) table in
    (xor_lt 8 x (output (stepped s)) all.0 (octet_at (stepped s).table _ next), octets-masked (stepped s) xs next all.1)

pub octets-covered : (key xs : Octets) → AreOctets xs → AreOctets (covered key xs)
unfolding scheduled
octets-covered key xs all = octets-masked (scheduled key) xs (octets-turned key 256) all

pub length-covered : (key xs : Octets) → length (covered key xs) ≡ length xs
length-covered key xs = length-masked (scheduled key) xs

pub covered_twice : (key xs : Octets) → covered key (covered key xs) ≡ xs
covered_twice key xs = masked_twice (scheduled key) xs
