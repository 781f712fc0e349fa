-- The suite for tests keeps the laws.
use Rattle.std.specs.Prelude.{◌≡◌, ℕ, ◌+◌, ◌-◌, ◌<◌, ◌≤◌, [], ◌∷◌, ◌++◌, length, drop, Ok, slice_index, slice_index_or, refl}
use Rattle.std.proofs.Common.{sym, ap, subst, ◌∙◌, arith}
use Rattle.std.proofs.ByRecursion.{All-get_or, All-take, All-drop, All-push}
use Rattle.std.proofs.lemmas.List.{length_push, same_from_push, take_more, take_all, length-drop, get_or-drop}
use Rattle.octets.specs.Octets.{Octets, AreOctets, part}
use Rattle.octets.proofs.Writing.{length_part}
use Rattle.suite.specs.Laws.{Sealable, Openable, Heads, Opens, SealsTo, Keeps}
use Rattle.suite.specs.Meaning.{length_or_fault}
use Rattle.suite_tests.specs.Plain.{plain, plain_seal, plain_head, plain_open}

seal_length : (key header : Octets) (id counter : ℕ) (piece : Octets) → length (plain_seal key header id counter piece) ≡ 2 + length piece + 1
seal_length key header id counter piece = omega (arith, length_push piece (slice_index key 0))

seal_octets : (key header : Octets) (id counter : ℕ) (piece : Octets) → Sealable plain key header id counter piece → AreOctets (plain_seal key header id counter piece)
seal_octets key header id counter piece s =
    let first = All-get_or (λ x. x < 256) key 0 0 (omega (arith, s.key_fits.long)) s.key_fits.octets in
    (omega (arith, s.counter_fits), (omega (arith, s.id_fits), All-push (λ x. x < 256) piece (slice_index key 0) s.piece_fits first))

head_says : (body : Octets) → AreOctets body → Heads plain.sizes body (plain_head body)
head_says body octets =
    let first : 4 ≤ length body → slice_index body 0 < 256 = λ h. All-get_or (λ x. x < 256) body 0 0 (omega arith) octets in
    grind arith

head_of_sealed : (key header : Octets) (id counter : ℕ) (piece : Octets) → Sealable plain key header id counter piece → plain_head (plain_seal key header id counter piece) ≡ Ok (counter, id)
head_of_sealed key header id counter piece s = let n = seal_length key header id counter piece in let some = s.some in let small = s.id_fits in grind arith

-- beyond its head a body is what it holds and one octet more
beyond_head : (body : Octets) → 4 ≤ length body → drop 2 body ≡ part 2 (length body - 3) body ++ (slice_index body (length body - 1) ∷ [])
beyond_head body h =
    let n = length-drop 2 body in
    let more = take_more (drop 2 body) (length body - 3) 0 (omega arith) in
    let all = take_all (length body - 3 + 1) (drop 2 body) (omega arith) in
    let at : slice_index_or (drop 2 body) (length body - 3) 0 ≡ slice_index_or body (length body - 1) 0 = get_or-drop 2 body (length body - 3) 0 ∙ ap (λ i. slice_index body i) (omega arith) in
    sym all ∙ more ∙ ap (λ x. part 2 (length body - 3) body ++ (x ∷ [])) at

opens_sealed : (key header body piece : Octets) (id counter : ℕ) → Openable plain key header body id counter → Sealable plain key header id counter piece → SealsTo plain key header id counter piece body → plain_open key header body ≡ Ok piece
opens_sealed key header body piece id counter o s same =
    let ok = o.accepted in
    let n : 4 ≤ length body = grind arith in
    let parts = same_from_push piece (part 2 (length body - 3) body) (slice_index key 0) (slice_index body (length body - 1)) (same ∙ beyond_head body n) in
    let is = parts.0 in
    let last = parts.1 in
    let most = s.most in
    let size = length_part 2 (length body - 3) body (omega arith) in
    let len = ap length is in
    grind arith

sealed_if_opens : (key header body piece : Octets) (id counter : ℕ) → Openable plain key header body id counter → plain_open key header body ≡ Ok piece → Sealable plain key header id counter piece × SealsTo plain key header id counter piece body
sealed_if_opens key header body piece id counter o given =
    let ok = o.accepted in
    let n : 4 ≤ length body = grind arith in
    let small : id ≤ 3 = grind arith in
    let top : counter ≡ slice_index_or body 0 0 = grind arith in
    let octet = All-get_or (λ x. x < 256) body 0 0 (omega arith) o.body_fits in
    let last : slice_index_or body (length body - 1) 0 ≡ slice_index_or key 0 0 = grind arith in
    let is : part 2 (length body - 3) body ≡ piece = grind arith in
    let long : length body ≤ 2315 = grind arith in
    let size = length_part 2 (length body - 3) body (omega arith) in
    let len = ap length is in
    let octets = All-take (λ x. x < 256) (length body - 3) (drop 2 body) (All-drop (λ x. x < 256) 2 body o.body_fits) in (
      record { key_fits = o.key_fits; header_fits = o.header_fits; id_fits = small; counter_fits = omega arith; some = omega arith; most = omega arith; piece_fits = subst AreOctets is octets },
      ap (λ p. p ++ (slice_index key 0 ∷ [])) (sym is) ∙ ap (λ x. part 2 (length body - 3) body ++ (x ∷ [])) (sym last) ∙ sym (beyond_head body n),
    )

open_says : (key header body : Octets) (id counter : ℕ) → plain_head body ≡ Ok (counter, id) → Opens plain.sizes body (length_or_fault (plain_open key header body))
open_says key header body id counter ok =
    let n : 4 ≤ length body = grind arith in
    let size = length_part 2 (length body - 3) body (omega arith) in
    grind arith

pub keeps : Keeps plain
keeps =
    record {
      bounded = record { head_most = omega arith; tail_most = omega arith; code_most = omega arith; key_most = omega arith; top_most = omega arith };
      code_length = λ key direction destination source priority message c. refl;
      code_octets = λ key direction destination source priority message c. (omega arith, tt);
      seal_length = λ key header id counter piece s. seal_length key header id counter piece;
      seal_octets = seal_octets;
      head_says = head_says;
      head_of_sealed = λ key header id counter piece s some. head_of_sealed key header id counter piece s;
      opens_sealed = opens_sealed;
      sealed_if_opens = sealed_if_opens;
      open_says = λ key header body id counter o. open_says key header body id counter o.accepted;
    }
