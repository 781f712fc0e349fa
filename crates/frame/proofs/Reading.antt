-- A header that was written is read back the same.
use Rattle.std.proofs.Common.{◌≡◌, ℕ, ◌+◌, ◌*◌, ◌/◌, ◌%◌, ◌<◌, ◌≤◌, Bool, true, false, ltb, [], ◌∷◌, ◌++◌, map, length, get_or, replicate, Ok, Err, sym, refl, ap, ◌∙◌, arith}
use mathlib.Core.Path.{transport}
use Rattle.std.specs.List.{range_with_len}
use Rattle.std.proofs.lemmas.List.{append-nil, length-append}
use Rattle.std.proofs.lemmas.Bool.{cond-false, le-ltb}
use Rattle.std.proofs.lemmas.Bool.Decides.{nat_tests}
use Rattle.octets.specs.Octets.{Octets, AreOctets, little, little_octets, written}
use Rattle.octets.proofs.Numbers.{little_from_octets, AreOctets-little, AreOctets-append}
use Rattle.octets.proofs.Writing.{spelled}
use Rattle.frame.specs.Headers.{header_length, worth, has_bit, flags_octet, header_octets, fields_in, header_in}
use Rattle.frame.specs.declared.headers.Header.{Header}
use Rattle.frame.specs.declared.headers.HeaderFault.TheVariants.{Short}

-- each flag is read back from the octet of all five
pub record FlagsBack (h : Header) : Type 0 where
  pub to_ds : has_bit (flags_octet h) 1 ≡ h.to_ds
  pub from_ds : has_bit (flags_octet h) 2 ≡ h.from_ds
  pub more : has_bit (flags_octet h) 4 ≡ h.more_fragments
  pub protected : has_bit (flags_octet h) 64 ≡ h.protected
  pub order : has_bit (flags_octet h) 128 ≡ h.order

pub flags_back : (h : Header) → FlagsBack h
flags_back h =
    record { to_ds = grind (arith, nat_tests); from_ds = grind (arith, nat_tests); more = grind (arith, nat_tests); protected = grind (arith, nat_tests); order = grind (arith, nat_tests) }

-- the octets of a list that has n of them, one by one
abbrev each : ℕ → Octets → Octets
each n xs = map (λ i. get_or xs i 0) (range_with_len 0 n)

-- a header written part by part is its parts joined
pub laid_out : (flags : ℕ) (a b c control : Octets) → length a ≡ 6 → length b ≡ 6 → length c ≡ 6 → length control ≡ 2 → written 22 control (written 16 c (written 10 b (written 4 a (8 ∷ flags ∷ replicate 22 0)))) ≡ 8 ∷ flags ∷ 0 ∷ 0 ∷ (a ++ (b ++ (c ++ control)))
laid_out flags a b c control la lb lc lt =
    let ea = spelled 6 a la in
    let eb = spelled 6 b lb in
    let ec = spelled 6 c lc in
    let et = spelled 2 control lt in
    transport (λ i. written 22 (sym et i) (written 16 (sym ec i) (written 10 (sym eb i) (written 4 (sym ea i) (8 ∷ flags ∷ replicate 22 0)))) ≡ 8 ∷ flags ∷ 0 ∷ 0 ∷ (sym ea i ++ (sym eb i ++ (sym ec i ++ sym et i)))) refl

worth-most : (flag : Bool) (n : ℕ) → worth flag n ≤ n
worth-most true n = omega arith
worth-most false n = omega arith

pub AreOctets_header : (h : Header) → AreOctets h.address1.octets → AreOctets h.address2.octets → AreOctets h.address3.octets → AreOctets (header_octets h)
AreOctets_header h a1 a2 a3 =
    let flags : flags_octet h < 256 = omega (arith, worth-most h.to_ds 1, worth-most h.from_ds 2, worth-most h.more_fragments 4, worth-most h.protected 64, worth-most h.order 128) in
    let control = AreOctets-little 2 (h.sequence * 16 + h.fragment) in
    (omega arith, (flags, (omega arith, (omega arith, AreOctets-append h.address1.octets _ a1 (AreOctets-append h.address2.octets _ a2 (AreOctets-append h.address3.octets _ a3 control))))))

-- a header with addresses of six octets
module _ (h : Header) (l1 : length h.address1.octets ≡ 6) (l2 : length h.address2.octets ≡ 6) (l3 : length h.address3.octets ≡ 6) where
  pub length_header : length (header_octets h) ≡ header_length
  length_header =
      let control = little_octets 2 (h.sequence * 16 + h.fragment) in
      let third = length-append h.address3.octets control in
      let second = length-append h.address2.octets (h.address3.octets ++ control) in
      let first = length-append h.address1.octets (h.address2.octets ++ (h.address3.octets ++ control)) in
      omega arith

  -- it is read back from any frame that begins with it
  pub fields_back : (body : Octets) → h.sequence < 4096 → h.fragment < 16 → fields_in (header_octets h ++ body) ≡ h
  fields_back body s f =
      let v = h.sequence * 16 + h.fragment in
      let e1 = spelled 6 h.address1.octets l1 in
      let e2 = spelled 6 h.address2.octets l2 in
      let e3 = spelled 6 h.address3.octets l3 in
      let bits = flags_back h in
      let control = little_from_octets 2 v (omega arith) in
      let sequence : little (little_octets 2 v) / 16 ≡ h.sequence = omega arith in
      let fragment : little (little_octets 2 v) % 16 ≡ h.fragment = omega arith in
      let read : fields_in (8 ∷ flags_octet h ∷ 0 ∷ 0 ∷ ((each 6 h.address1.octets ++ (each 6 h.address2.octets ++ (each 6 h.address3.octets ++ little_octets 2 v))) ++ body)) ≡ h =
      λ i. record { to_ds = bits.to_ds i; from_ds = bits.from_ds i; more_fragments = bits.more i; protected = bits.protected i; order = bits.order i; address1 = record { octets = sym e1 i }; address2 = record { octets = sym e2 i }; address3 = record { octets = sym e3 i }; sequence = sequence i; fragment = fragment i } in
      transport (λ i. fields_in (8 ∷ flags_octet h ∷ 0 ∷ 0 ∷ ((sym e1 i ++ (sym e2 i ++ (sym e3 i ++ little_octets 2 v))) ++ body)) ≡ h) read

  pub reads_back : h.sequence < 4096 → h.fragment < 16 → header_in (header_octets h) ≡ Ok h
  reads_back s f =
      cond-false (ltb (length (header_octets h)) header_length) (Err Short) (Ok (fields_in (header_octets h))) (le-ltb (length (header_octets h)) header_length (omega (arith, length_header)))
      ∙ ap (λ frame. Ok (fields_in frame)) (sym (append-nil (header_octets h)))
      ∙ ap Ok (fields_back [] s f)
