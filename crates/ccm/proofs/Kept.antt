-- What is sealed is octets where the cipher makes octets of octets.
use Rattle.std.proofs.Common.{◌≡◌, ℕ, ◌-◌, ◌*◌, ◌<◌, Bool, true, false, cond, eqb, List, [], ◌∷◌, ◌++◌, length, take, replicate, Some, subst, arith}
use Rattle.std.specs.List.{range_with_len, AllByRecursion}
use Rattle.std.proofs.ByRecursion.{All-append, All-map, All-take}
use Rattle.octets.specs.Octets.{Octets, AreOctets, big_octets, xored}
use Rattle.ccm.proofs.Everywhere.{all_of}
use Rattle.octets.proofs.Numbers.{AreOctets-append, AreOctets_part, AreOctets-big}
use Rattle.ccm.specs.Ccm.{block_of, blocks, count_blocks, numbered, first_flags, measured, authentication_blocks, counter_block, chained, cbc_mac, covered, ccm_tail, ccm_seal, ccm_open}
use Rattle.ccm.proofs.Exact.{opened_is}
use Rattle.ccm.proofs.Stream.{AreOctets-covered}
use Rattle.octets.proofs.Words.{AreOctets-xored}

-- octets of octets
abbrev pub KeepsOctets : (Octets → Octets) → Type 0
KeepsOctets E = (b : Octets) → AreOctets b → AreOctets (E b)

zeros : AreOctets (replicate 16 0)
zeros = search arith

octets-block : (xs : Octets) (i : ℕ) → AreOctets xs → AreOctets (block_of xs i)
unfolding block_of
octets-block xs i all =
    AreOctets_part (16 * i) 16 (xs ++ replicate 16 0) (AreOctets-append xs (replicate 16 0) all zeros)

octets-blocks : (xs : Octets) → AreOctets xs → AllByRecursion AreOctets (blocks xs)
octets-blocks xs all =
    All-map AreOctets (block_of xs) (range_with_len 0 (count_blocks xs)) (all_of (λ i. AreOctets (block_of xs i)) (λ i. octets-block xs i all) (range_with_len 0 (count_blocks xs)))

octets-numbered : (flags : ℕ) (nonce : Octets) (n : ℕ) → flags < 256 → AreOctets nonce → AreOctets (numbered flags nonce n)
octets-numbered flags nonce n small all = (small, AreOctets-append nonce (big_octets 2 n) all (AreOctets-big 2 n))

octets-chained : (E : Octets → Octets) (x : Octets) (bs : List Octets) → KeepsOctets E → AreOctets x → AllByRecursion AreOctets bs → AreOctets (chained E x bs)
unfolding chained
octets-chained E x [] keeps all each = all
octets-chained E x (b ∷ bs) keeps all each =
    octets-chained E (E (xored x b)) bs keeps (keeps (xored x b) (AreOctets-xored x b all each.0)) each.1

OctetsOf_either : (b : Bool) (xs ys : Octets) → AreOctets xs → AreOctets ys → AreOctets (cond b xs ys)
OctetsOf_either true xs ys p q = p
OctetsOf_either false xs ys p q = q

small_flags : (b : Bool) → cond b 0x19 0x59 < 256
small_flags true = omega arith
small_flags false = omega arith

octets_authentication : (nonce additional message : Octets) → AreOctets nonce → AreOctets additional → AreOctets message → AllByRecursion AreOctets (authentication_blocks nonce additional message)
octets_authentication nonce additional message n a m =
    let none = eqb (length additional) 0 in
    let more = OctetsOf_either none [] (big_octets 2 (length additional) ++ additional) tt (AreOctets-append (big_octets 2 (length additional)) additional (AreOctets-big 2 (length additional)) a) in
    (octets-numbered (first_flags additional) nonce (length message) (small_flags none) n, All-append AreOctets (blocks (measured additional)) (blocks message) (octets-blocks (measured additional) more) (octets-blocks message m))

pub AreOctets_tail : (E : Octets → Octets) (nonce additional message : Octets) → KeepsOctets E → AreOctets nonce → AreOctets additional → AreOctets message → AreOctets (ccm_tail E nonce additional message)
unfolding ccm_tail
AreOctets_tail E nonce additional message keeps n a m =
    let mac = octets-chained E (replicate 16 0) (authentication_blocks nonce additional message) keeps zeros (octets_authentication nonce additional message n a m) in
    let mask = keeps (counter_block nonce 0) (octets-numbered 1 nonce 0 (omega arith) n) in
    All-take (λ x. x < 256) 8 (xored (cbc_mac E (authentication_blocks nonce additional message)) (E (counter_block nonce 0))) (AreOctets-xored _ _ mac mask)

pub AreOctets-seal : (E : Octets → Octets) (nonce additional message : Octets) → KeepsOctets E → AreOctets nonce → AreOctets additional → AreOctets message → AreOctets (ccm_seal E nonce additional message)
unfolding ccm_seal
AreOctets-seal E nonce additional message keeps n a m =
    AreOctets-append (covered E nonce message) (ccm_tail E nonce additional message)
    (AreOctets-covered E nonce message (λ i. keeps (counter_block nonce i) (octets-numbered 1 nonce i (omega arith) n)) m)
    (AreOctets_tail E nonce additional message keeps n a m)

pub octets_opened : (E : Octets → Octets) (nonce additional sealed message : Octets) → KeepsOctets E → AreOctets nonce → AreOctets sealed → ccm_open E nonce additional sealed ≡ Some message → AreOctets message
octets_opened E nonce additional sealed message keeps n all e =
    subst AreOctets (opened_is E nonce additional sealed message e)
    (AreOctets-covered E nonce (take (length sealed - 8) sealed) (λ i. keeps (counter_block nonce i) (octets-numbered 1 nonce i (omega arith) n)) (All-take (λ x. x < 256) (length sealed - 8) sealed all))
