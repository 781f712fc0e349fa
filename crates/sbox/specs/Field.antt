-- The field of 256 elements of FIPS 197, and its substitution of octets.
-- An octet is the polynomial whose coefficients are its bits; a sum is `bit_xor`, and products are taken modulo
-- x^8 + x^4 + x^3 + x + 1, whose bits are 0x11b.
use Rattle.std.specs.Prelude.{◌≡◌, ℕ, zero, suc, ◌+◌, ◌-◌, ◌*◌, ◌/◌, ◌%◌, ◌^◌, ◌<◌, bit_xor}

-- the product with x, which is 2: moved up by one place, and less the modulus where x^8 is reached
unfoldable pub xtime : ℕ → ℕ
xtime a = bit_xor (a * 2) (a / 128 * 0x11b)

-- the product with x + 1, which is 3
unfoldable pub thrice : ℕ → ℕ
thrice a = bit_xor (xtime a) a

-- the product of a with the lowest n coefficients of b
unfoldable pub times : ℕ → ℕ → ℕ → ℕ
times zero a b = 0
times (suc n) a b = bit_xor (b % 2 * a) (times n (xtime a) (b / 2))

-- the product of two octets
unfoldable pub product : ℕ → ℕ → ℕ
product a b = times 8 a b

-- a to the power 2 ^ (n + 1) - 2, which is the square of a times that power of the square
unfoldable pub power : ℕ → ℕ → ℕ
power zero a = 1
power (suc n) a = product (product a a) (power n (product a a))

-- the inverse: a to the power 254, and 0 of 0
unfoldable pub inverse : ℕ → ℕ
inverse a = power 7 a

-- it is the inverse of the octet a: an octet, 0 of 0, and otherwise its product with a is 1
pub record Inverts (a : ℕ) : Type 0 where
  pub octet : inverse a < 256
  pub none : a ≡ 0 → inverse a ≡ 0
  pub one : 0 < a → product a (inverse a) ≡ 1

-- the bits of an octet, moved round by k places
unfoldable pub turned : ℕ → ℕ → ℕ
turned k a = a * 2 ^ k % 256 + a / 2 ^ (8 - k)

-- the affine map: each bit plus the bits 4, 5, 6 and 7 places on, and then 0x63
unfoldable pub affine : ℕ → ℕ
affine a = bit_xor (bit_xor (bit_xor (bit_xor (bit_xor a (turned 1 a)) (turned 2 a)) (turned 3 a)) (turned 4 a)) 0x63

-- the substitution
unfoldable pub sub : ℕ → ℕ
sub a = affine (inverse a)
