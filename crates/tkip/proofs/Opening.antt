-- What open answers, and what it leaves in a memory.
use Rattle.std.proofs.Common.{◌≡◌, ℕ, ◌-◌, ◌≤◌, Bool, true, false, ◌++◌, length, take, drop, Ok, Err, ap, ◌∙◌, arith}
use Rattle.std.specs.Str.{bytes_eq}
use Rattle.octets.specs.Octets.{Octets, begins}
use Rattle.frame.specs.Addresses.{address_at}
use Rattle.crc32.specs.Crc32.{check_octets}
use Rattle.rc4.specs.Rc4.{covered}
use Rattle.mixing.specs.Mixing.{rc4_key}
use Rattle.suite.specs.declared.faults.OpenFault.TheVariants.{Unequal}
use Rattle.tkip.specs.Tkip.{counter_in, under, piece_in, check_in, tkip_open}
use Rattle.tkip.specs.Sealing.{opened_parts}

-- what RC4 was taken away from, under the key of the frame: a piece, and the check behind it
pub record Bared (key header body mixed sealed piece check : Octets) (counter n : ℕ) : Type 0 where
  pub short : length body ≤ 2324
  pub count : n ≡ length body - 12
  pub counter_is : counter ≡ counter_in body
  pub mixed_is : mixed ≡ rc4_key key (address_at 10 header) counter
  pub sealed_is : sealed ≡ drop 8 body
  pub front : piece ≡ take n (covered mixed sealed)
  pub behind : check ≡ drop n (covered mixed sealed)

module _ (key header body mixed sealed piece check : Octets) (counter n : ℕ) (b : Bared key header body mixed sealed piece check counter n) where
  pub parts : (piece ≡ piece_in key header body) × (check ≡ check_in key header body)
  unfolding under
  parts =
      opened_parts key header body counter n sealed piece check b.counter_is b.count b.sealed_is (b.front ∙ ap (λ k. take n (covered k sealed)) b.mixed_is) (b.behind ∙ ap (λ k. drop n (covered k sealed)) b.mixed_is)

  agreeing : (same : Bool) → same ≡ bytes_eq (check_octets piece) check → same ≡ bytes_eq (check_octets (piece_in key header body)) (check_in key header body)
  agreeing same e = e ∙ (λ i. bytes_eq (check_octets (parts.0 i)) (parts.1 i))

  pub granted : true ≡ bytes_eq (check_octets piece) check → tkip_open key header body ≡ Ok piece
  granted e = let short = b.short in let agrees = agreeing true e in let is = parts.0 in grind arith

  pub refused : false ≡ bytes_eq (check_octets piece) check → tkip_open key header body ≡ Err Unequal
  refused e = let short = b.short in let differs = agreeing false e in grind arith

-- octets written to the start of a memory
pub left : (xs expected out : Octets) (k : ℕ) → xs ≡ expected → k ≡ length xs → xs ++ drop k out ≡ begins expected out
left xs expected out k is size = ap (λ n. xs ++ drop n out) size ∙ ap (λ p. begins p out) is
