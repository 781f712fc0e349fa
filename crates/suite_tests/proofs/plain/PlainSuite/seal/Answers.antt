use Rattle.std.proofs.Common.{◌+◌, [], ◌∷◌, ◌++◌, length, get_or, refl, ap, ◌∙◌, arith}
use Rattle.std.proofs.lemmas.List.{length_push}
use Rattle.octets.specs.Octets.{written}
use Rattle.octets.proofs.Writing.{written_start, written_next}
use Rattle.suite_tests.proofs.plain.PlainSuite.seal.Goals as goal

pub returns : goal.returns
returns c =
    let old = c.args.out.now in
    let head = c.args.counter ∷ c.args.key_id ∷ [] in
    let piece = c.args.piece.now in
    let tail = get_or c.args.key.now 0 0 ∷ [] in
    let first = c.put.ensures ∙ written_start head old in
    let second = c.put-2.ensures ∙ ap (written 2 piece) first ∙ written_next 2 head piece old refl in
    let third = c.put-3.ensures ∙ ap (written (2 + length piece) tail) second ∙ written_next (2 + length piece) (head ++ piece) tail old (omega arith) in
    record { length = omega (arith, length_push piece (get_or c.args.key.now 0 0)); memory = third }
