-- How the code holds octets: in words of 32 and 128 bits, the first octet least significant.
use Rattle.std.specs.Prelude.{◌≡◌, ℕ, zero, suc, ◌/◌, ◌%◌, ◌^◌, List, [], ◌∷◌, ◌++◌, map}
use Rattle.sbox.specs.Field.{sub, xtime, thrice}
use Rattle.octets.specs.Octets.{xored}
use Rattle.aes.specs.declared.state.State.{State}
use Rattle.aes.specs.declared.Aes128.{Aes128}

-- the four octets of a word of 32 bits
abbrev pub quad : ℕ → List ℕ
quad w = (w % 256) ∷ (w / 256 % 256) ∷ (w / 65536 % 256) ∷ (w / 16777216 % 256) ∷ []

-- the sixteen octets of a word of 128 bits; they fix the word
unfoldable pub octets : ℕ → List ℕ
octets x = quad (x % 2 ^ 32) ++ quad (x / 2 ^ 32 % 2 ^ 32) ++ quad (x / 2 ^ 64 % 2 ^ 32) ++ quad (x / 2 ^ 96 % 2 ^ 32)

-- the sixteen octets of a state, a word for each column; they fix its words
unfoldable pub held : State → List ℕ
held s = quad s.a ++ quad s.b ++ quad s.c ++ quad s.d

-- what the octet x in a row gives to the four rows of its mixed column: a column of the matrix times the substitution of x
unfoldable pub mixes : ℕ → ℕ → List ℕ
mixes zero x = xtime (sub x) ∷ sub x ∷ sub x ∷ thrice (sub x) ∷ []
mixes (suc zero) x = thrice (sub x) ∷ xtime (sub x) ∷ sub x ∷ sub x ∷ []
mixes (suc (suc zero)) x = sub x ∷ thrice (sub x) ∷ xtime (sub x) ∷ sub x ∷ []
mixes (suc (suc (suc row))) x = sub x ∷ sub x ∷ thrice (sub x) ∷ xtime (sub x) ∷ []

-- the octet v in a row, and 0 in the others
unfoldable pub seat : ℕ → ℕ → List ℕ
seat zero v = v ∷ 0 ∷ 0 ∷ 0 ∷ []
seat (suc zero) v = 0 ∷ v ∷ 0 ∷ 0 ∷ []
seat (suc (suc zero)) v = 0 ∷ 0 ∷ v ∷ 0 ∷ []
seat (suc (suc (suc row))) v = 0 ∷ 0 ∷ 0 ∷ v ∷ []

-- what the octet x gives where columns are not mixed: its substitution, in its row
abbrev pub places : ℕ → ℕ → List ℕ
places row x = seat row (sub x)

-- r is t with the column w of a state added: what its octet in row n gives goes n columns to the left. The columns are then
-- moved on by one, so that the first is that of the state's next column
pub record Added (gives : ℕ → ℕ → List ℕ) (t : State) (w : ℕ) (r : State) : Type 0 where
  pub first : quad r.a ≡ xored (quad t.b) (gives 3 (w / 16777216 % 256))
  pub second : quad r.b ≡ xored (quad t.c) (gives 2 (w / 65536 % 256))
  pub third : quad r.c ≡ xored (quad t.d) (gives 1 (w / 256 % 256))
  pub fourth : quad r.d ≡ xored (quad t.a) (gives 0 (w % 256))

-- what the octet of the word w in row j gives
abbrev pub given : (ℕ → ℕ → List ℕ) → ℕ → ℕ → List ℕ
given gives zero w = gives 0 (w % 256)
given gives (suc zero) w = gives 1 (w / 256 % 256)
given gives (suc (suc zero)) w = gives 2 (w / 65536 % 256)
given gives (suc (suc (suc j))) w = gives 3 (w / 16777216 % 256)

-- what the octets on a diagonal give, one of each of four words, and a word of the key
abbrev pub diagonal : (ℕ → ℕ → List ℕ) → ℕ → ℕ → ℕ → ℕ → ℕ → List ℕ
diagonal gives key a b c d =
    xored (xored (xored (xored (given gives 0 a) (given gives 1 b)) (given gives 2 c)) (given gives 3 d)) (quad key)

-- a round of the state s under the key k, where the octet x in row j gives `gives j x` to its column
unfoldable pub round_by : (ℕ → ℕ → List ℕ) → State → State → List ℕ
round_by gives k s =
    diagonal gives k.a s.a s.b s.c s.d ++ diagonal gives k.b s.b s.c s.d s.a
    ++ diagonal gives k.c s.c s.d s.a s.b ++ diagonal gives k.d s.d s.a s.b s.c

-- the round keys that an expanded key holds
unfoldable pub round_keys : Aes128 → List (List ℕ)
round_keys s = map held s.keys
