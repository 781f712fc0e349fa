-- What seal and open leave in memory, and what open answers.
use Rattle.std.proofs.Common.{◌≡◌, ℕ, ◌-◌, ◌/◌, ◌%◌, ◌≤◌, Bool, true, false, cond, eqb, ltb, length, get_or, take, drop, replicate, is_some, is_ok, Some, None, Ok, Err, Option, Result, sym, refl, ap, ◌∙◌, arith}
use Rattle.std.proofs.lemmas.List.{length-drop, take_rest}
use Rattle.std.proofs.lemmas.Bool.{ltb-false}
use Rattle.octets.specs.Octets.{Octets, begins}
use Rattle.suite.specs.Meaning.{length_or_fault, left_by_open}
use Rattle.suite.specs.declared.faults.HeadFault.{HeadFault}
use Rattle.suite.specs.declared.faults.HeadFault.TheVariants.{Short, Unmarked}
use Rattle.suite.specs.declared.faults.OpenFault.TheVariants.{Unequal}
use Rattle.aes.specs.Aes.{aes128}
use Rattle.ccm.specs.Ccm.{ccm_open, left_by_ccm_open}
use Rattle.ccmp.specs.Ccmp.{ccmp_sizes, ccmp_nonce, ccmp_additional, counter_in, ccmp_head, piece_or_unequal, opened_in, ccmp_open}
use Rattle.ccmp.specs.Laws.{open_is}

-- a body that head accepts is long enough
accepted_by : (short marked : Bool) (answer : ℕ × ℕ) → is_ok (cond {A = Result (ℕ × ℕ) HeadFault} short (Err Short) (cond {A = Result (ℕ × ℕ) HeadFault} marked (Ok answer) (Err Unmarked))) ≡ true → short ≡ false
accepted_by true marked answer e = sym e
accepted_by false marked answer e = refl

pub accepted : (body : Octets) → is_ok (ccmp_head body) ≡ true → 17 ≤ length body
accepted body e =
    ltb-false (length body) 17 (accepted_by (ltb (length body) 17) (eqb (get_or body 3 0 / 32 % 2) 1) (counter_in body, get_or body 3 0 / 64) e)

-- what open leaves, from what CCM leaves
left_by : (o : Option Octets) (body old out : Octets) → out ≡ left_by_ccm_open (drop 8 body) o old → out ≡ left_by_open ccmp_sizes body (piece_or_unequal o) old
left_by (Some piece) body old out e = e
left_by None body old out e = e ∙ ap (λ n. begins (replicate (n - 8) 0) old) (length-drop 8 body)

pub answer_right : (o : Option Octets) (n : ℕ) → is_some o ≡ true → ((piece : Octets) → o ≡ Some piece → length piece ≡ n) → Ok n ≡ length_or_fault (piece_or_unequal o)
answer_right (Some piece) n e size = sym (ap Ok (size piece refl))
answer_right None n e size = absurd (let z : ◌≡◌ {A = ℕ} 0 1 = cc in omega arith)

pub answer_wrong : (o : Option Octets) → is_some o ≡ false → Err Unequal ≡ length_or_fault (piece_or_unequal o)
answer_wrong (Some piece) e = absurd (let z : ◌≡◌ {A = ℕ} 0 1 = cc in omega arith)
answer_wrong None e = refl

-- what is known once CCM has answered: whether there is a piece, and what is in memory
pub record Answered (key header body old out : Octets) (right : Bool) : Type 0 where
  pub which : right ≡ is_some (opened_in key header body)
  pub opened : piece_or_unequal (opened_in key header body) ≡ ccmp_open key header body
  pub left : out ≡ left_by_open ccmp_sizes body (ccmp_open key header body) old

pub answered : (key header body old out k n a : Octets) (count : ℕ) (right : Bool) → length body ≤ 2328 → k ≡ key → count ≡ counter_in body → n ≡ ccmp_nonce header count → a ≡ ccmp_additional header → right ≡ is_some (ccm_open (aes128 k) n a (take (length body - 8) (drop 8 body))) → out ≡ left_by_ccm_open (take (length body - 8) (drop 8 body)) (ccm_open (aes128 k) n a (take (length body - 8) (drop 8 body))) old → Answered key header body old out right
answered key header body old out k n a count right short keys counts nonces additional answer memory =
    let rest = take_rest body 8 in
    let nonce : n ≡ ccmp_nonce header (counter_in body) = nonces ∙ ap (ccmp_nonce header) counts in
    let same : ccm_open (aes128 k) n a (take (length body - 8) (drop 8 body)) ≡ opened_in key header body = λ i. ccm_open (aes128 (keys i)) (nonce i) (additional i) (rest i) in
    let opened = sym (open_is key header body short) in
    record {
      which = answer ∙ ap is_some same;
      opened = opened;
      left = left_by (opened_in key header body) body old out (memory ∙ (λ i. left_by_ccm_open (rest i) (same i) old)) ∙ ap (λ o. left_by_open ccmp_sizes body o old) opened;
    }
