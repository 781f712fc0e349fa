-- The rule of the table of words, by one test over all of it.
use Rattle.std.proofs.Common.{◌≡◌, ℕ, ◌<◌, Bool, T, eqb, List, length, get_or, eqb→eq}
use Rattle.octets.proofs.Tables.{every, at}
use Rattle.mixing.specs.Mixing.{table_entry}

unfoldable pub right : ℕ → ℕ → Bool
right n x = eqb x (table_entry n)

pub rule : (xs : List ℕ) → T (every right 0 xs) → (n : ℕ) → n < length xs → get_or xs n 0 ≡ table_entry n
unfolding right
rule xs t n h = eqb→eq (get_or xs n 0) (table_entry n) (at right xs t n h)
