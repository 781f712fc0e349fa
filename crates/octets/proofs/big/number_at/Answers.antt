use Rattle.std.proofs.Common.{◌≡◌, ◌-◌, ◌^◌, ◌<◌, ◌++◌, length, take, replicate, sym, ap, ◌∙◌, subst, arith, rules}
use Rattle.std.specs.Int.{w64, from_be_bytes}
use Rattle.std.proofs.lemmas.Grind.{common_steps}
use borrow.Rule.Slice.PartMut.{put_mid}
use Rattle.octets.specs.Octets.{Octets, big, part}
use Rattle.octets.proofs.Numbers.{AreOctets-part_at, big-below}
use Rattle.octets.proofs.Writing.{length_part, put_mid_rest}
use Rattle.octets.proofs.Widths.{big_filled}
use Rattle.octets.proofs.big.number_at.Goals as goal

pub returns : goal.returns
returns g c =
    let n = g.row.N in
    let zeros : Octets = replicate 8 0 in
    let xs = part c.args.at n c.args.octets.now in
    let here : c.copy_from_slice.new.self ≡ xs = c.copy_from_slice.ensures.after ∙ ap (λ n. part c.args.at n c.args.octets.now) (omega arith) in
    let long = length_part c.args.at n c.args.octets.now c.requires.room in
    let word = put_mid (8 - n) (length zeros - (8 - n)) zeros c.copy_from_slice.new.self in
    let read : from_be_bytes w64 word ≡ big xs = ap (from_be_bytes w64) (put_mid_rest (8 - n) zeros c.copy_from_slice.new.self ∙ ap (λ l. take (8 - n) zeros ++ l) here) ∙ big_filled n xs c.requires.width long in
    let value : c.from_be_bytes.result ≡ big xs = grind (arith, common_steps, read) in
    let octets = AreOctets-part_at c.args.at n c.args.octets.now (λ i. let small = c.type_inv.octets i in search rules) in
    record { value = value; bound = subst (λ v. v < 256 ^ n) (sym value) (subst (λ k. big xs < 256 ^ k) long (big-below xs octets)) }
