-- From the header that was read to what is decided of the frame.
use Rattle.std.proofs.Common.{◌≡◌, ℕ, ◌≤◌, Bool, true, false, cond, eqb, List, [], ◌∷◌, length, get_or, Ok, Err, Result, sym, refl, ap, ◌∙◌, arith}
use Rattle.std.proofs.lemmas.Bool.{cond-false, le-ltb, eqb-true}
use Rattle.octets.specs.Octets.{Octets}
use Rattle.frame.specs.Headers.{header_length, fields_in, header_in}
use Rattle.frame.specs.declared.headers.Header.{Header}
use Rattle.frame.specs.declared.headers.HeaderFault.TheVariants.{NotData}
use Rattle.ends.specs.declared.refusals.Refusal.{Refusal}
use Rattle.ends.specs.declared.roles.CodedSuites.{CodedSuites}
use Rattle.ends.specs.Holding.{End}
use Rattle.ends.specs.Checks.{Check, first, then}
use Rattle.ends.specs.Arrivals.{range_checks, header_checks, admitted}

-- what is answered where no check applies
pub first_then : {A B : Type 0} (cs : List Check) (x : A) (g : A → B) → first cs (g x) ≡ then (first cs x) (λ y. Ok (g y))
first_then [] x g = refl
first_then (c ∷ cs) x g = go c.0 (first_then cs x g)
  where
    go : (b : Bool) → first cs (g x) ≡ then (first cs x) (λ y. Ok (g y)) → cond b (Err c.1) (first cs (g x)) ≡ then (cond b (Err c.1) (first cs x)) (λ y. Ok (g y))
    go true e = refl
    go false e = e

-- what is read of a frame that is long enough are its fields, and its first octet is a data frame's
data_frame : (frame : Octets) (h : Header) → header_length ≤ length frame → header_in frame ≡ Ok h → (get_or frame 0 0 ≡ 8) × (fields_in frame ≡ h)
data_frame frame h long read = go (eqb (get_or frame 0 0) 8) refl (sym (cond-false _ _ _ (le-ltb (length frame) header_length long)) ∙ read)
  where
    go : (b : Bool) → eqb (get_or frame 0 0) 8 ≡ b → cond b (Ok (fields_in frame)) (Err NotData) ≡ Ok h → (get_or frame 0 0 ≡ 8) × (fields_in frame ≡ h)
    go true e r = (eqb-true (get_or frame 0 0) 8 e, cc)
    go false e r = let z : ◌≡◌ {A = ℕ} 0 1 = cc in absurd (omega arith)

module _ (c : CodedSuites) (e : End) (frame : Octets) (time working message : ℕ) where
  -- ranges that hold, a header that was read, and what its checks answer
  pub admits : (h : Header) (x : Unit {0}) (r : Result (Unit {0}) Refusal) → Ok x ≡ first (range_checks time working message (length frame)) (tt {0}) → header_length ≤ length frame → Ok h ≡ header_in frame → r ≡ first (header_checks c e time 8 h) (tt {0}) → admitted c e frame time working message ≡ then r (λ _. Ok h)
  admits h x r ranges long read checks =
      let known = data_frame frame h long (sym read) in
      ap (λ (o : Result (Unit {0}) Refusal). then o (λ _. first (header_checks c e time (get_or frame 0 0) (fields_in frame)) (fields_in frame))) (sym ranges)
      ∙ (λ i. first (header_checks c e time (known.0 i) (known.1 i)) (known.1 i))
      ∙ first_then (header_checks c e time 8 h) (tt {0}) (λ _. h)
      ∙ ap (λ (o : Result (Unit {0}) Refusal). then o (λ _. Ok h)) (sym checks)
