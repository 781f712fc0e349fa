-- Open gives a message exactly when sealing it gives what was opened.
use Rattle.std.proofs.Common.{◌≡◌, ℕ, ◌+◌, ◌-◌, Bool, true, false, cond, List, [], ◌∷◌, ◌++◌, length, take, drop, replicate, Some, None, sym, refl, ap, ◌∙◌, arith}
use Rattle.std.specs.Str.{bytes_eq}
use Rattle.std.proofs.lemmas.Slice.Eq.{bytes_eq-Decides}
use Rattle.std.proofs.lemmas.List.{length-append, length-take-le, take_at, drop_at, take-append-drop}
use Rattle.octets.specs.Octets.{Octets, xored}
use Rattle.ccm.specs.Ccm.{authentication_blocks, counter_block, chained, cbc_mac, covered, uncovered, ccm_tail, ccm_seal, ccm_open, OpensExactly}
use Rattle.ccm.specs.Inner.{WholeBlocks}
use Rattle.ccm.proofs.Stream.{length-covered, covered_twice}
use Rattle.octets.proofs.Words.{length-xored}

length-chained : (E : Octets → Octets) (x : Octets) (bs : List Octets) → WholeBlocks E → length x ≡ 16 → length (chained E x bs) ≡ 16
unfolding chained
length-chained E x [] whole long = long
length-chained E x (b ∷ bs) whole long = length-chained E (E (xored x b)) bs whole (whole (xored x b))

pub length_tail : (E : Octets → Octets) (nonce additional message : Octets) → WholeBlocks E → length (ccm_tail E nonce additional message) ≡ 8
unfolding ccm_tail
length_tail E nonce additional message whole =
    let mac = cbc_mac E (authentication_blocks nonce additional message) in
    let mask = E (counter_block nonce 0) in
    let one = length-chained E (replicate 16 0) (authentication_blocks nonce additional message) whole refl in
    let two = whole (counter_block nonce 0) in
    length-take-le 8 (xored mac mask) (omega (arith, length-xored mac mask (omega arith)))

pub length-seal : (E : Octets → Octets) (nonce additional message : Octets) → WholeBlocks E → length (ccm_seal E nonce additional message) ≡ length message + 8
unfolding ccm_seal
length-seal E nonce additional message whole =
    length-append (covered E nonce message) (ccm_tail E nonce additional message)
    ∙ (λ i. length-covered E nonce message whole i + length_tail E nonce additional message whole i)

-- what a test that gave a message says
chosen : (b : Bool) (u message : Octets) → cond b (Some u) None ≡ Some message → (b ≡ true) × (u ≡ message)
chosen true u message e = (refl, cc)
chosen false u message e = absurd (let z : ◌≡◌ {A = ℕ} 0 1 = cc in omega arith)

pub opened_is : (E : Octets → Octets) (nonce additional sealed message : Octets) → ccm_open E nonce additional sealed ≡ Some message → uncovered E nonce sealed ≡ message
unfolding ccm_open
opened_is E nonce additional sealed message e =
    (chosen (bytes_eq (ccm_tail E nonce additional (uncovered E nonce sealed)) (drop (length sealed - 8) sealed)) (uncovered E nonce sealed) message e).1

pub sealed_if_opened : (E : Octets → Octets) (nonce additional sealed message : Octets) → WholeBlocks E → ccm_open E nonce additional sealed ≡ Some message → ccm_seal E nonce additional message ≡ sealed
unfolding ccm_open ccm_seal
sealed_if_opened E nonce additional sealed message whole e =
    let n = length sealed - 8 in
    let u = uncovered E nonce sealed in
    let was = chosen (bytes_eq (ccm_tail E nonce additional u) (drop n sealed)) u message e in
    let tail : ccm_tail E nonce additional message ≡ drop n sealed = ap (ccm_tail E nonce additional) (sym was.1) ∙ (bytes_eq-Decides _ _).0 was.0 in
    let text : covered E nonce message ≡ take n sealed = ap (covered E nonce) (sym was.1) ∙ covered_twice E nonce (take n sealed) whole in
    (λ i. text i ++ tail i) ∙ take-append-drop n sealed

pub opened_if_sealed : (E : Octets → Octets) (nonce additional sealed message : Octets) → WholeBlocks E → ccm_seal E nonce additional message ≡ sealed → ccm_open E nonce additional sealed ≡ Some message
unfolding ccm_open ccm_seal
opened_if_sealed E nonce additional sealed message whole e =
    let n = length sealed - 8 in
    let text = covered E nonce message in
    let tail = ccm_tail E nonce additional message in
    let long = length-covered E nonce message whole in
    let short = length_tail E nonce additional message whole in
    let joined = length-append text tail in
    let size : length text ≡ n = omega (arith, ap length e) in
    let front : uncovered E nonce sealed ≡ message = ap (covered E nonce) (ap (take n) (sym e) ∙ take_at text tail n size) ∙ covered_twice E nonce message whole in
    let back : drop n sealed ≡ tail = ap (drop n) (sym e) ∙ drop_at text tail n size in
    let same : bytes_eq (ccm_tail E nonce additional (uncovered E nonce sealed)) (drop n sealed) ≡ true = (bytes_eq-Decides _ _).1 (ap (ccm_tail E nonce additional) front ∙ sym back) in
    (λ i. cond (same i) (Some (front i)) None)

pub opens_exactly : (E : Octets → Octets) (nonce additional sealed : Octets) → WholeBlocks E → OpensExactly E nonce additional sealed
opens_exactly E nonce additional sealed whole =
    λ message. (sealed_if_opened E nonce additional sealed message whole, opened_if_sealed E nonce additional sealed message whole)
