use Rattle.std.proofs.Common.{◌+◌, ◌-◌, length, take, drop, refl, ap, ◌∙◌, arith}
use Rattle.octets.specs.Octets.{written}
use Rattle.crc32.specs.Crc32.{check_octets}
use Rattle.tkip.specs.Tkip.{head_octets, under}
use Rattle.rc4.specs.Rc4.{covered}
use Rattle.tkip.specs.Lawful.{seal_length}
use Rattle.tkip.specs.Sealing.{seal-laid}
use Rattle.tkip.proofs.TkipSuite.seal.Goals as goal

pub returns : goal.returns
unfolding under
returns c =
    let key = c.args.key.now in
    let header = c.args.header.now in
    let piece = c.args.piece.now in
    let old = c.args.out.now in
    record {
      length = seal_length key header c.args.key_id c.args.counter piece;
      memory =
          seal-laid key header c.args.counter (8 + length piece) _ (head_octets c.args.key_id c.args.counter) piece (check_octets piece) _ _ _ _ old refl refl (omega arith)
          (c.put.ensures ∙ ap (λ h. written 0 h old) c.head_octets.ensures)
          c.put-2.ensures
          (c.put-3.ensures ∙ ap (λ t. written (8 + length piece) t c.put-2.new.memory) c.check_octets.ensures)
          (c.cover.ensures.octets ∙ ap (λ k. covered k (take (8 + length piece + 4 - 8) (drop 8 c.put-3.new.memory))) cc);
    }
