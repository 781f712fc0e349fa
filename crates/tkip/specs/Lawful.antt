-- TKIP keeps the laws of a suite.
use Rattle.std.specs.Prelude.{◌≡◌, ℕ, ◌+◌, ◌-◌, ◌*◌, ◌/◌, ◌%◌, ◌^◌, ◌<◌, ◌≤◌, true, ◌++◌, length, take, drop, Ok, bit_or, slice_index_or}
use Rattle.std.proofs.Common.{sym, ap, subst, ◌∙◌, arith}
use Rattle.std.proofs.lemmas.Nat.{and_le_r}
use Rattle.std.specs.Str.{bytes_eq}
use Rattle.std.proofs.ByRecursion.{All-append, All-drop, All-take}
use Rattle.std.proofs.lemmas.Slice.Eq.{bytes_eq-Decides}
use Rattle.std.proofs.lemmas.List.{length-append, length-drop, length-take-le, take_at, drop_at, take-append-drop}
use Rattle.octets.specs.Octets.{Octets, AreOctets, little, part}
use Rattle.octets.proofs.Numbers.{octet_at, AreOctets-little, little_from_octets, little-below}
use Rattle.octets.proofs.Writing.{length_part}
use Rattle.crc32.specs.Crc32.{check_octets}
use Rattle.michael.specs.Michael.{heading}
use Rattle.michael.proofs.Codes.{length-michael, AreOctets-michael}
use Rattle.suite.specs.Meaning.{length_or_fault}
use Rattle.suite.specs.Laws.{Sealable, Openable, Heads, Opens, SealsTo, Keeps}
use Rattle.tkip.specs.Tkip.{tkip, tsc, head_octets, code_key, counter_in, under, bared, piece_in, check_in, tkip_seal, tkip_head, tkip_open}
use Rattle.tkip.specs.Sealing.{under_twice, length_under, octets_under}

-- sealing

octets_head : (id counter : ℕ) → id ≤ 3 → AreOctets (head_octets id counter)
octets_head id counter small =
    let second = and_le_r (bit_or (tsc 1 counter) 0x20) 0x7f in
    (omega arith, (omega arith, (omega arith, (omega arith, (omega arith, (omega arith, (omega arith, (omega arith, tt))))))))

length_sealed : (key header : Octets) (counter : ℕ) (piece : Octets) → length (under key header counter (piece ++ check_octets piece)) ≡ length piece + 4
length_sealed key header counter piece = length_under key header counter (piece ++ check_octets piece) ∙ length-append piece (check_octets piece)

pub seal_length : (key header : Octets) (id counter : ℕ) (piece : Octets) → length (tkip_seal key header id counter piece) ≡ 8 + length piece + 4
seal_length key header id counter piece =
    length-append (head_octets id counter) (under key header counter (piece ++ check_octets piece)) ∙ omega (arith, length_sealed key header counter piece)

seal_octets : (key header : Octets) (id counter : ℕ) (piece : Octets) → Sealable tkip key header id counter piece → AreOctets (tkip_seal key header id counter piece)
seal_octets key header id counter piece s =
    All-append (λ x. x < 256) (head_octets id counter) (under key header counter (piece ++ check_octets piece)) (octets_head id counter s.id_fits)
    (octets_under key header counter (piece ++ check_octets piece) (All-append (λ x. x < 256) piece (check_octets piece) s.piece_fits (AreOctets-little 4 _)))

-- heads

counter-below : (body : Octets) → AreOctets body → 8 ≤ length body → counter_in body < 281474976710656
counter-below body octets long =
    let a = octet_at body 2 octets in
    let b = octet_at body 0 octets in
    let rest = little-below (part 4 4 body) (All-take (λ x. x < 256) 4 (drop 4 body) (All-drop (λ x. x < 256) 4 body octets)) in
    let four : little (part 4 4 body) < 4294967296 = subst (λ n. little (part 4 4 body) < 256 ^ n) (length_part 4 4 body (omega arith)) rest in
    omega arith

pub head_says : (body : Octets) → AreOctets body → Heads tkip.sizes body (tkip_head body)
head_says body octets =
    let marked = octet_at body 3 octets in
    let id : slice_index_or body 3 0 / 64 ≤ 3 = omega arith in
    let below : 8 ≤ length body → counter_in body < 281474976710656 = counter-below body octets in
    grind arith

head_of_sealed : (key header : Octets) (id counter : ℕ) (piece : Octets) → Sealable tkip key header id counter piece → tkip_head (tkip_seal key header id counter piece) ≡ Ok (counter, id)
head_of_sealed key header id counter piece s =
    let some = s.some in
    let rest = length_sealed key header counter piece in
    let value = little_from_octets 6 counter (omega (arith, s.counter_fits)) in
    let mark : (id * 64 + 32) / 32 % 2 ≡ 1 = omega arith in
    let is : (id * 64 + 32) / 64 ≡ id = omega arith in
    grind arith

-- what head tells of a body that it accepts
pub record Accepted (body : Octets) (counter id : ℕ) : Type 0 where
  pub long : 13 ≤ length body
  pub counter_is : counter_in body ≡ counter
  pub id_is : slice_index_or body 3 0 / 64 ≡ id

accepted : (body : Octets) (counter id : ℕ) → tkip_head body ≡ Ok (counter, id) → Accepted body counter id
accepted body counter id ok = record { long = grind arith; counter_is = grind arith; id_is = grind arith }

-- opening

module _ (key header body : Octets) (long : 13 ≤ length body) where
  length-bared : length (bared key header body) ≡ length body - 8
  length-bared = length_under key header (counter_in body) (drop 8 body) ∙ length-drop 8 body

  pub length-piece : length (piece_in key header body) ≡ length body - 12
  length-piece = length-take-le (length body - 12) (bared key header body) (omega (arith, length-bared))

opens_sealed : (key header body piece : Octets) (id counter : ℕ) → Openable tkip key header body id counter → Sealable tkip key header id counter piece → SealsTo tkip key header id counter piece body → tkip_open key header body ≡ Ok piece
opens_sealed key header body piece id counter o s same =
    let head = accepted body counter id o.accepted in
    let check = check_octets piece in
    let bare : bared key header body ≡ piece ++ check = ap (λ c. under key header c (drop 8 body)) head.counter_is ∙ ap (under key header counter) (sym same) ∙ under_twice key header counter (piece ++ check) in
    let size : length body - 12 ≡ length piece = omega (arith, ap length same, length_sealed key header counter piece, length-drop 8 body, head.long) in
    let is : piece_in key header body ≡ piece = ap (λ xs. take (length body - 12) xs) bare ∙ take_at piece check (length body - 12) (sym size) in
    let behind : check_in key header body ≡ check = ap (λ xs. drop (length body - 12) xs) bare ∙ drop_at piece check (length body - 12) (sym size) in
    let agrees : bytes_eq (check_octets (piece_in key header body)) (check_in key header body) ≡ true = (bytes_eq-Decides _ _).1 (ap check_octets is ∙ sym behind) in
    let short : length body ≤ 2324 = omega (arith, head.long, s.most) in
    grind arith

sealed_if_opens : (key header body piece : Octets) (id counter : ℕ) → Openable tkip key header body id counter → tkip_open key header body ≡ Ok piece → Sealable tkip key header id counter piece × SealsTo tkip key header id counter piece body
sealed_if_opens key header body piece id counter o given =
    let head = accepted body counter id o.accepted in
    let short : length body ≤ 2324 = grind arith in
    let agrees : bytes_eq (check_octets (piece_in key header body)) (check_in key header body) ≡ true = grind arith in
    let is : piece_in key header body ≡ piece = grind arith in
    let behind = (bytes_eq-Decides (check_octets (piece_in key header body)) (check_in key header body)).0 agrees in
    let whole : piece ++ check_octets piece ≡ bared key header body =
    ap (λ p. p ++ check_octets p) (sym is) ∙ ap (λ t. piece_in key header body ++ t) behind ∙ take-append-drop (length body - 12) (bared key header body) in
    let seals : under key header counter (piece ++ check_octets piece) ≡ drop 8 body =
    ap (under key header counter) whole ∙ ap (λ c. under key header counter (under key header c (drop 8 body))) head.counter_is ∙ under_twice key header counter (drop 8 body) in
    let size : length piece ≡ length body - 12 = ap length (sym is) ∙ length-piece key header body head.long in
    let octets = octets_under key header (counter_in body) (drop 8 body) (All-drop (λ x. x < 256) 8 body o.body_fits) in
    let below = counter-below body o.body_fits (omega (arith, head.long)) in
    let marked = octet_at body 3 o.body_fits in (
      record {
        key_fits = o.key_fits;
        header_fits = o.header_fits;
        id_fits = omega (arith, head.id_is);
        counter_fits = omega (arith, head.counter_is);
        some = omega (arith, head.long);
        most = omega arith;
        piece_fits = subst AreOctets is (All-take (λ x. x < 256) (length body - 12) (bared key header body) octets);
      },
      seals,
    )

pub open_says : (key header body : Octets) (id counter : ℕ) → tkip_head body ≡ Ok (counter, id) → Opens tkip.sizes body (length_or_fault (tkip_open key header body))
open_says key header body id counter ok =
    let head = accepted body counter id ok in
    let long = head.long in
    let size = length-piece key header body long in
    grind arith

pub keeps : Keeps tkip
keeps =
    record {
      bounded = record { head_most = omega arith; tail_most = omega arith; code_most = omega arith; key_most = omega arith; top_most = omega arith };
      code_length = λ key direction destination source priority message c. length-michael (code_key direction key) (heading destination source priority ++ message);
      code_octets = λ key direction destination source priority message c. AreOctets-michael (code_key direction key) (heading destination source priority ++ message);
      seal_length = λ key header id counter piece s. seal_length key header id counter piece;
      seal_octets = seal_octets;
      head_says = head_says;
      head_of_sealed = λ key header id counter piece s some. head_of_sealed key header id counter piece s;
      opens_sealed = opens_sealed;
      sealed_if_opens = sealed_if_opens;
      open_says = λ key header body id counter o. open_says key header body id counter o.accepted;
    }
