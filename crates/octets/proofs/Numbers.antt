-- Numbers in octets: as long as asked, made of octets, and read back as they were written, in both orders.
use Rattle.std.proofs.Common.{◌≡◌, ℕ, zero, suc, ◌+◌, ◌*◌, ◌/◌, ◌%◌, ◌^◌, ◌<◌, [], ◌∷◌, ◌++◌, reverse, length, get_or, drop, sym, refl, ap, ◌∙◌, subst, pow-suc, arith}
use mathlib.Core.List.{reverse_aux}
use Rattle.std.proofs.ByRecursion.{All-append, All-take, All-drop, All-from_get_or}
use Rattle.std.proofs.lemmas.List.{length-reverse, reverse-reverse}
use Rattle.octets.specs.Octets.{Octets, AreOctets, part, little, big, little_octets, big_octets}

pub length-little_octets : (n v : ℕ) → length (little_octets n v) ≡ n
length-little_octets zero v = refl
length-little_octets (suc n) v = ap suc (length-little_octets n (v / 256))

pub AreOctets-little : (n v : ℕ) → AreOctets (little_octets n v)
AreOctets-little zero v = tt
AreOctets-little (suc n) v = (omega arith, AreOctets-little n (v / 256))

-- an octet of a list; past its end a read gives 0
pub octet_at : (xs : Octets) (i : ℕ) → AreOctets xs → get_or xs i 0 < 256
octet_at [] i all = omega arith
octet_at (x ∷ xs) zero all = all.0
octet_at (x ∷ xs) (suc i) all = octet_at xs i all.1

pub AreOctets-append : (xs ys : Octets) → AreOctets xs → AreOctets ys → AreOctets (xs ++ ys)
AreOctets-append xs ys p q = All-append (λ x. x < 256) xs ys p q

pub AreOctets_part : (at n : ℕ) (xs : Octets) → AreOctets xs → AreOctets (part at n xs)
AreOctets_part at n xs all = All-take (λ x. x < 256) n (drop at xs) (All-drop (λ x. x < 256) at xs all)

-- what the type of a memory says
pub AreOctets-part_at : (at n : ℕ) (xs : Octets) → ((i : ℕ) → get_or xs i 0 < 256) → AreOctets (part at n xs)
AreOctets-part_at at n xs each = AreOctets_part at n xs (All-from_get_or (λ x. x < 256) xs 0 (λ i inside. each i))

-- a number is read back from as many octets as it has
pub little_from_octets : (n v : ℕ) → v < 256 ^ n → little (little_octets n v) ≡ v
little_from_octets zero v small = omega arith
little_from_octets (suc n) v small =
    let p = pow-suc 256 n in
    let rest = little_from_octets n (v / 256) (omega arith) in
    omega arith

-- octets are written again as they were read
pub octets_from_little : (xs : Octets) → AreOctets xs → little_octets (length xs) (little xs) ≡ xs
octets_from_little [] all = refl
octets_from_little (x ∷ xs) all =
    let low : (x + 256 * little xs) % 256 ≡ x = omega (arith, all.0) in
    let high : (x + 256 * little xs) / 256 ≡ little xs = omega (arith, all.0) in
    let rest = octets_from_little xs all.1 in
    ap (λ y. y ∷ little_octets (length xs) ((x + 256 * little xs) / 256)) low
    ∙ ap (λ v. x ∷ little_octets (length xs) v) high
    ∙ ap (λ ys. x ∷ ys) rest

pub little-below : (xs : Octets) → AreOctets xs → little xs < 256 ^ length xs
little-below [] all = omega arith
little-below (x ∷ xs) all =
    let p = pow-suc 256 (length xs) in
    let rest = little-below xs all.1 in
    omega (arith, all.0)

pub length-big_octets : (n v : ℕ) → length (big_octets n v) ≡ n
length-big_octets n v = length-reverse (little_octets n v) ∙ length-little_octets n v

AreOctets_onto : (xs ys : Octets) → AreOctets xs → AreOctets ys → AreOctets (reverse_aux xs ys)
AreOctets_onto [] ys all more = more
AreOctets_onto (x ∷ xs) ys all more = AreOctets_onto xs (x ∷ ys) all.1 (all.0, more)

pub AreOctets-reverse : (xs : Octets) → AreOctets xs → AreOctets (reverse xs)
AreOctets-reverse xs all = AreOctets_onto xs [] all tt

pub AreOctets-big : (n v : ℕ) → AreOctets (big_octets n v)
AreOctets-big n v = AreOctets-reverse (little_octets n v) (AreOctets-little n v)

pub big_from_octets : (n v : ℕ) → v < 256 ^ n → big (big_octets n v) ≡ v
big_from_octets n v small = ap little (reverse-reverse (little_octets n v)) ∙ little_from_octets n v small

pub octets_from_big : (xs : Octets) → AreOctets xs → big_octets (length xs) (big xs) ≡ xs
octets_from_big xs all =
    let back = octets_from_little (reverse xs) (AreOctets-reverse xs all) in
    ap (λ n. reverse (little_octets n (big xs))) (sym (length-reverse xs)) ∙ ap reverse back ∙ reverse-reverse xs

pub big-below : (xs : Octets) → AreOctets xs → big xs < 256 ^ length xs
big-below xs all =
    let P : ℕ → Type 0 = λ n. big xs < 256 ^ n in
    subst P (length-reverse xs) (little-below (reverse xs) (AreOctets-reverse xs all))
