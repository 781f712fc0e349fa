use Rattle.std.proofs.Common.{◌≡◌, ◌^◌, ◌<◌, ◌++◌, drop, replicate, sym, ap, ◌∙◌, subst, arith, rules}
use Rattle.std.specs.Int.{w64, from_le_bytes}
use Rattle.std.proofs.lemmas.Grind.{common_steps}
use Rattle.octets.specs.Octets.{Octets, little, part}
use Rattle.octets.proofs.Numbers.{AreOctets-part_at, little-below}
use Rattle.octets.proofs.Writing.{length_part}
use Rattle.octets.proofs.Widths.{little_filled}
use Rattle.octets.proofs.little.number_at.Goals as goal

pub returns : goal.returns
returns g c =
    let n = g.row.N in
    let xs = part c.args.at n c.args.octets.now in
    let here : c.copy_from_slice.new.self ≡ xs = c.copy_from_slice.ensures.after ∙ ap (λ n. part c.args.at n c.args.octets.now) (omega arith) in
    let long = length_part c.args.at n c.args.octets.now c.requires.room in
    let word : Octets = c.copy_from_slice.new.self ++ drop n (replicate 8 0) in
    let read : from_le_bytes w64 word ≡ little xs = ap (λ l. from_le_bytes w64 (l ++ drop n (replicate 8 0))) here ∙ little_filled n xs c.requires.width long in
    let value : c.from_le_bytes.result ≡ little xs = grind (arith, common_steps, read) in
    let octets = AreOctets-part_at c.args.at n c.args.octets.now (λ i. let small = c.type_inv.octets i in search rules) in
    record { value = value; bound = subst (λ v. v < 256 ^ n) (sym value) (subst (λ k. little xs < 256 ^ k) long (little-below xs octets)) }
