-- The tail from the parts of the CBC-MAC, and what seal and open leave.
use Rattle.std.proofs.Common.{◌≡◌, ℕ, ◌-◌, Bool, cond, ◌∷◌, ◌++◌, length, take, drop, replicate, Some, None, sym, ap, ◌∙◌, arith}
use Rattle.std.specs.Str.{bytes_eq}
use Rattle.std.proofs.lemmas.List.{length-replicate, length-take-le, take_at, drop_at}
use Rattle.octets.specs.Octets.{Octets, written, begins, xored}
use Rattle.octets.proofs.Writing.{begun_more}
use Rattle.ccm.specs.Ccm.{numbered, first_flags, measured, blocks, counter_block, chained, cbc_mac, covered, uncovered, ccm_tail, ccm_seal, ccm_open}
use Rattle.ccm.specs.Inner.{WholeBlocks}
use Rattle.ccm.proofs.Blocks.{chained_append}
use Rattle.ccm.proofs.Stream.{length-covered}

-- the chain in two parts: the first block with the additional data, and the message
pub tail_made : (E : Octets → Octets) (nonce additional message start mac end : Octets) (n : ℕ) → n ≡ length message → start ≡ cbc_mac E (numbered (first_flags additional) nonce n ∷ blocks (measured additional)) → mac ≡ chained E start (blocks message) → end ≡ take 8 (xored mac (E (counter_block nonce 0))) → end ≡ ccm_tail E nonce additional message
unfolding ccm_tail
tail_made E nonce additional message start mac end n size begun chain made =
    let bs = numbered (first_flags additional) nonce (length message) ∷ blocks (measured additional) in
    let whole : mac ≡ cbc_mac E (bs ++ blocks message) = chain
    ∙ ap (λ x. chained E x (blocks message)) (begun ∙ ap (λ k. cbc_mac E (numbered (first_flags additional) nonce k ∷ blocks (measured additional))) size)
    ∙ sym (chained_append E (replicate 16 0) bs (blocks message)) in
    made ∙ ap (λ m. take 8 (xored m (E (counter_block nonce 0)))) whole

pub sealed_in : (E : Octets → Octets) (nonce additional message old before after end : Octets) → WholeBlocks E → before ≡ begins (covered E nonce message) old → end ≡ ccm_tail E nonce additional message → after ≡ written (length message) end before → after ≡ begins (ccm_seal E nonce additional message) old
unfolding ccm_seal
sealed_in E nonce additional message old before after end whole was is now =
    begun_more (covered E nonce message) end old before after _ (length message) (length-covered E nonce message whole) (ap (λ l. covered E nonce message ++ l) is) was now

-- what comes out of a body, and its length
length-uncovered : (E : Octets → Octets) (nonce sealed : Octets) → WholeBlocks E → length (uncovered E nonce sealed) ≡ length sealed - 8
length-uncovered E nonce sealed whole =
    length-covered E nonce (take (length sealed - 8) sealed) whole ∙ length-take-le (length sealed - 8) sealed (omega arith)

-- zeros over what was written
pub zeroed : (u old out zeros : Octets) (n : ℕ) → length u ≡ n → out ≡ begins u old → zeros ≡ replicate (length (take n out)) 0 → zeros ++ drop n out ≡ begins (replicate n 0) old
zeroed u old out zeros n long was are =
    let front : take n out ≡ u = ap (take n) was ∙ take_at u (drop (length u) old) n long in
    let back : drop n out ≡ drop (length u) old = ap (drop n) was ∙ drop_at u (drop (length u) old) n long in
    let count : length (take n out) ≡ n = ap length front ∙ long in
    let rest : length u ≡ length (replicate n 0) = long ∙ sym (length-replicate n 0) in
    (λ i. (are ∙ ap (λ m. replicate m 0) count) i ++ (back ∙ ap (λ m. drop m old) rest) i)

-- what is known of an opening once the tails are compared: r says whether they are the same
pub record Opened (E : Octets → Octets) (nonce additional sealed old out : Octets) (r : Bool) : Type 0 where
  pub text : out ≡ begins (uncovered E nonce sealed) old
  pub size : length (uncovered E nonce sealed) ≡ length sealed - 8
  pub answer : ccm_open E nonce additional sealed ≡ cond r (Some (uncovered E nonce sealed)) None

pub opened_by : (E : Octets → Octets) (nonce additional sealed text rest old end out : Octets) (r : Bool) → WholeBlocks E → text ≡ take (length sealed - 8) sealed → rest ≡ drop (length sealed - 8) sealed → out ≡ begins (covered E nonce text) old → end ≡ ccm_tail E nonce additional (covered E nonce text) → r ≡ bytes_eq end rest → Opened E nonce additional sealed old out r
unfolding ccm_open
opened_by E nonce additional sealed text rest old end out r whole front back memory tail same =
    let u = uncovered E nonce sealed in
    let right = tail ∙ ap (λ l. ccm_tail E nonce additional (covered E nonce l)) front in
    record {
      text = memory ∙ ap (λ l. begins (covered E nonce l) old) front;
      size = length-uncovered E nonce sealed whole;
      answer = ap (λ t. cond t (Some u) None) (sym (same ∙ (λ i. bytes_eq (right i) (back i))));
    }
