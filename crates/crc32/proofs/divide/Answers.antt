use Rattle.std.proofs.Common.{ℕ, ◌^◌, ◌<◌, List, get_or, ap, rules}
use lib.Bits.{bit_xor}
use Rattle.crc32.specs.Crc32.{steps}
use Rattle.crc32.proofs.Division.{word_apart}
use Rattle.crc32.proofs.divide.Goals as goal

-- the octets of a word, each by its table
abbrev by_tables : List ℕ → ℕ
by_tables os = bit_xor (bit_xor (bit_xor (bit_xor (bit_xor (bit_xor (bit_xor (steps 64 (get_or os 0 0)) (steps 56 (get_or os 1 0))) (steps 48 (get_or os 2 0))) (steps 40 (get_or os 3 0))) (steps 32 (get_or os 4 0))) (steps 24 (get_or os 5 0))) (steps 16 (get_or os 6 0))) (steps 8 (get_or os 7 0))

pub returns : goal.returns
returns c =
    let fits : c.args.word < 2 ^ 64 = search rules in
    let cut = ap by_tables c.to_octets.ensures in
    let whole = word_apart c.args.word fits in
    cc
