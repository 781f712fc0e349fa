-- The laws of CCMP.
use Rattle.std.specs.Prelude.{◌≡◌, ℕ, ◌+◌, ◌-◌, ◌*◌, ◌/◌, ◌%◌, ◌<◌, ◌≤◌, Bool, true, false, cond, ltb, length, drop, Some, None, Ok, Err, Option, Result, ◌==◌, nat_eq, nat_lt, slice_index, slice_index_or, refl}
use Rattle.std.proofs.Common.{sym, ap, subst, ◌∙◌, arith}
use Rattle.std.proofs.ByRecursion.{All-drop}
use Rattle.std.proofs.lemmas.List.{length-append, length-drop}
use Rattle.std.proofs.lemmas.Bool.{ltb-true, ltb-false, le-ltb, eq-eqb}
use Rattle.octets.specs.Octets.{Octets, AreOctets}
use Rattle.octets.proofs.Numbers.{octet_at, AreOctets-append}
use Rattle.suite.specs.Meaning.{length_or_fault}
use Rattle.suite.specs.Laws.{Sealable, Openable, Heads, Opens, SealsTo, Keeps}
use Rattle.suite.specs.declared.faults.HeadFault.{HeadFault}
use Rattle.suite.specs.declared.faults.HeadFault.TheVariants.{Short, Unmarked}
use Rattle.suite.specs.declared.faults.OpenFault.{OpenFault}
use Rattle.suite.specs.declared.faults.OpenFault.TheVariants.{Long}
use Rattle.aes.specs.Aes.{aes128}
use Rattle.ccm.specs.Ccm.{ccm_seal}
use Rattle.ccm.proofs.Cipher.{aes_whole, aes_octets}
use Rattle.ccm.proofs.Exact.{length-seal, opened_if_sealed, sealed_if_opened}
use Rattle.ccm.proofs.Kept.{AreOctets-seal, octets_opened}
use Rattle.ccmp.specs.Ccmp.{ccmp_sizes, ccmp_nonce, ccmp_additional, head_octets, counter_in, ccmp_seal, ccmp_head, piece_or_unequal, opened_in, ccmp_open, ccmp}
use Rattle.ccmp.specs.Parts.{octets_nonce, octets_additional, octets_head, counter_back, counter-below}

-- a piece beyond its head
abbrev sealed : Octets → Octets → ℕ → Octets → Octets
sealed key header counter piece = ccm_seal (aes128 key) (ccmp_nonce header counter) (ccmp_additional header) piece

pub length_sealed : (key header : Octets) (id counter : ℕ) (piece : Octets) → length (ccmp_seal key header id counter piece) ≡ 8 + length piece + 8
length_sealed key header id counter piece =
    let e = length-seal (aes128 key) (ccmp_nonce header counter) (ccmp_additional header) piece (aes_whole key) in
    length-append (head_octets id counter) (sealed key header counter piece) ∙ omega arith

seal_octets : (key header : Octets) (id counter : ℕ) (piece : Octets) → Sealable ccmp key header id counter piece → AreOctets (ccmp_seal key header id counter piece)
seal_octets key header id counter piece ok =
    let nonce = octets_nonce header counter ok.header_fits.octets in
    let additional = octets_additional header ok.header_fits.octets in
    AreOctets-append (head_octets id counter) (sealed key header counter piece) (octets_head id counter ok.id_fits)
    (AreOctets-seal (aes128 key) (ccmp_nonce header counter) (ccmp_additional header) piece (aes_octets key ok.key_fits.octets) nonce additional ok.piece_fits)

-- what head answers, by its two tests
heads_by : (body : Octets) (short marked : Bool) (counter id : ℕ) → (short ≡ true → length body < 17) → (short ≡ false → 17 ≤ length body) → (17 ≤ length body → counter ≤ 281474976710655) → (17 ≤ length body → id ≤ 3) → Heads ccmp_sizes body (cond {A = Result (ℕ × ℕ) HeadFault} short (Err Short) (cond {A = Result (ℕ × ℕ) HeadFault} marked (Ok (counter, id)) (Err Unmarked)))
heads_by body true marked counter id p q r s = p refl
heads_by body false true counter id p q r s = (q refl, r (q refl), s (q refl))
heads_by body false false counter id p q r s = q refl

pub head_says : (body : Octets) → AreOctets body → Heads ccmp_sizes body (ccmp_head body)
head_says body all =
    heads_by body (nat_lt (length body) 17) (slice_index body 3 / 32 % 2 == 1) (counter_in body) (slice_index body 3 / 64) (ltb-true (length body) 17) (ltb-false (length body) 17)
    (λ long. counter-below body (omega arith) all)
    (λ long. let small = octet_at body 3 all in omega arith)

-- what an answer of head says
record Read (body : Octets) (id counter : ℕ) : Type 0 where
  long : 17 ≤ length body
  same : counter_in body ≡ counter
  key : slice_index_or body 3 0 / 64 ≡ id

read_by : (body : Octets) (short marked : Bool) (id counter : ℕ) → (short ≡ false → 17 ≤ length body) → cond {A = Result (ℕ × ℕ) HeadFault} short (Err Short) (cond {A = Result (ℕ × ℕ) HeadFault} marked (Ok (counter_in body, slice_index body 3 / 64)) (Err Unmarked)) ≡ Ok (counter, id) → Read body id counter
read_by body true marked id counter long e = absurd (let z : ◌≡◌ {A = ℕ} 0 1 = cc in omega arith)
read_by body false true id counter long e =
    let pair : ◌≡◌ {A = ℕ × ℕ} (counter_in body, slice_index body 3 / 64) (counter, id) = cc in
    record { long = long refl; same = ap (λ z. z.0) pair; key = ap (λ z. z.1) pair }
read_by body false false id counter long e = absurd (let z : ◌≡◌ {A = ℕ} 0 1 = cc in omega arith)

read : (body : Octets) (id counter : ℕ) → ccmp_head body ≡ Ok (counter, id) → Read body id counter
read body id counter e =
    read_by body (nat_lt (length body) 17) (slice_index body 3 / 32 % 2 == 1) id counter (ltb-false (length body) 17) e

head_of_sealed : (key header : Octets) (id counter : ℕ) (piece : Octets) → Sealable ccmp key header id counter piece → ccmp_head (ccmp_seal key header id counter piece) ≡ Ok (counter, id)
head_of_sealed key header id counter piece ok =
    let body = ccmp_seal key header id counter piece in
    let size = length_sealed key header id counter piece in
    let some = ok.some in
    let three = ok.id_fits in
    let short : ltb (length body) 17 ≡ false = le-ltb (length body) 17 (omega arith) in
    let marked : nat_eq ((id * 64 + 32) / 32 % 2) 1 ≡ true = eq-eqb ((id * 64 + 32) / 32 % 2) 1 (omega arith) in
    let number : counter_in body ≡ counter = counter_back id counter (sealed key header counter piece) ok.counter_fits in
    let which : (id * 64 + 32) / 64 ≡ id = omega arith in
    (λ i. cond {A = Result (ℕ × ℕ) HeadFault} (short i) (Err Short) (cond {A = Result (ℕ × ℕ) HeadFault} (marked i) (Ok (number i, which i)) (Err Unmarked)))

-- a body that is not too long is opened by CCM
pub open_is : (key header body : Octets) → length body ≤ 2328 → ccmp_open key header body ≡ piece_or_unequal (opened_in key header body)
open_is key header body short =
    ap (λ t. cond {A = Result Octets OpenFault} t (Err Long) (piece_or_unequal (opened_in key header body))) (le-ltb 2328 (length body) short)

-- what an answer of open says
gave_by : (long : Bool) (o : Option Octets) (piece : Octets) → cond {A = Result Octets OpenFault} long (Err Long) (piece_or_unequal o) ≡ Ok piece → (long ≡ false) × (o ≡ Some piece)
gave_by true o piece e = absurd (let z : ◌≡◌ {A = ℕ} 0 1 = cc in omega arith)
gave_by false (Some x) piece e = (refl, let same : x ≡ piece = cc in ap Some same)
gave_by false None piece e = absurd (let z : ◌≡◌ {A = ℕ} 0 1 = cc in omega arith)

-- a piece that comes out of a body, sealed, is that body beyond its head
pub seals_back : (key header body piece : Octets) → opened_in key header body ≡ Some piece → sealed key header (counter_in body) piece ≡ drop 8 body
seals_back key header body piece e =
    sealed_if_opened (aes128 key) (ccmp_nonce header (counter_in body)) (ccmp_additional header) (drop 8 body) piece (aes_whole key) e

pub piece_length : (key header body piece : Octets) → 17 ≤ length body → opened_in key header body ≡ Some piece → length piece ≡ length body - 16
piece_length key header body piece long e =
    let size = length-seal (aes128 key) (ccmp_nonce header (counter_in body)) (ccmp_additional header) piece (aes_whole key) in
    let beyond = ap length (seals_back key header body piece e) ∙ length-drop 8 body in
    omega arith

opens_sealed : (key header body piece : Octets) (id counter : ℕ) → Openable ccmp key header body id counter → Sealable ccmp key header id counter piece → SealsTo ccmp key header id counter piece body → ccmp_open key header body ≡ Ok piece
opens_sealed key header body piece id counter openable ok seals =
    let r = read body id counter openable.accepted in
    let most = ok.most in
    let size = length-seal (aes128 key) (ccmp_nonce header counter) (ccmp_additional header) piece (aes_whole key) in
    let beyond = ap length seals ∙ length-drop 8 body in
    let long = r.long in
    let short : length body ≤ 2328 = omega arith in
    let same : sealed key header (counter_in body) piece ≡ drop 8 body = ap (λ n. sealed key header n piece) r.same ∙ seals in
    open_is key header body short
    ∙ ap piece_or_unequal (opened_if_sealed (aes128 key) (ccmp_nonce header (counter_in body)) (ccmp_additional header) (drop 8 body) piece (aes_whole key) same)

sealed_if_opens : (key header body piece : Octets) (id counter : ℕ) → Openable ccmp key header body id counter → ccmp_open key header body ≡ Ok piece → Sealable ccmp key header id counter piece × SealsTo ccmp key header id counter piece body
sealed_if_opens key header body piece id counter openable e =
    let r = read body id counter openable.accepted in
    let long = r.long in
    let gave = gave_by (nat_lt 2328 (length body)) (opened_in key header body) piece e in
    let short = ltb-false 2328 (length body) gave.0 in
    let size = piece_length key header body piece long gave.1 in
    let says = subst (Heads ccmp_sizes body) openable.accepted (head_says body openable.body_fits) in
    let octets = octets_opened (aes128 key) (ccmp_nonce header (counter_in body)) (ccmp_additional header) (drop 8 body) piece (aes_octets key openable.key_fits.octets) (octets_nonce header (counter_in body) openable.header_fits.octets) (All-drop (λ x. x < 256) 8 body openable.body_fits) gave.1 in
    let seals : sealed key header counter piece ≡ drop 8 body = ap (λ n. sealed key header n piece) (sym r.same) ∙ seals_back key header body piece gave.1 in (
      record {
        key_fits = openable.key_fits;
        header_fits = openable.header_fits;
        id_fits = says.2;
        counter_fits = says.1;
        some = omega arith;
        most = omega arith;
        piece_fits = octets;
      },
      seals,
    )

opens_by : (body : Octets) (long : Bool) (o : Option Octets) → (long ≡ true → 2328 < length body) → (long ≡ false → length body ≤ 2328) → ((piece : Octets) → o ≡ Some piece → length piece ≡ length body - 16) → 17 ≤ length body → Opens ccmp_sizes body (length_or_fault (cond {A = Result Octets OpenFault} long (Err Long) (piece_or_unequal o)))
opens_by body true o over within size enough = over refl
opens_by body false (Some piece) over within size enough =
    let n = size piece refl in
    let short = within refl in
    (omega arith, omega arith, omega arith)
opens_by body false None over within size enough = within refl

pub open_says : (key header body : Octets) → 17 ≤ length body → Opens ccmp_sizes body (length_or_fault (ccmp_open key header body))
open_says key header body long =
    opens_by body (nat_lt 2328 (length body)) (opened_in key header body) (ltb-true 2328 (length body)) (ltb-false 2328 (length body)) (λ piece e. piece_length key header body piece long e) long

pub keeps : Keeps ccmp
keeps =
    record {
      bounded = record { head_most = omega arith; tail_most = omega arith; code_most = omega arith; key_most = omega arith; top_most = omega arith };
      code_length = λ key direction destination source priority message ok. refl;
      code_octets = λ key direction destination source priority message ok. tt;
      seal_length = λ key header id counter piece ok. length_sealed key header id counter piece;
      seal_octets = seal_octets;
      head_says = head_says;
      head_of_sealed = λ key header id counter piece ok one. head_of_sealed key header id counter piece ok;
      opens_sealed = opens_sealed;
      sealed_if_opens = sealed_if_opens;
      open_says = λ key header body id counter openable. open_says key header body (read body id counter openable.accepted).long;
    }
