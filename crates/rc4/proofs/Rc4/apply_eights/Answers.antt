use Rattle.std.proofs.Common.{◌≡◌, ◌+◌, ◌-◌, ◌*◌, ◌≤◌, length, ap, ◌∙◌, arith}
use borrow.Rule.Slice.PartMut.{put_mid}
use Rattle.rc4.proofs.Stream.{made, last, made-piece, last_piece}
use Rattle.rc4.proofs.Rc4.apply_eights.Goals as goal

pub loop-k-preserved : goal.loop-k-preserved
loop-k-preserved c =
    let xs = c.loop-k.octets in
    let s = c.loop-k.self in
    let i = 8 * c.loop-k.k in
    let zs = c.apply_eight.new.octets in
    let count : i + 8 - i ≡ 8 = omega arith in
    let within : i + 8 ≤ length xs = omega arith in
    let place : 8 * (c.loop-k.k + 1) ≡ i + 8 = omega arith in
    let told = c.apply_eight.ensures in
    let ys = put_mid i (i + 8 - i) xs zs in (
      ap (λ n. made n c.apply_eight.new.self ys) place ∙ ap (λ t. made (i + 8) t ys) told.state
          ∙ made-piece s xs zs i 8 (i + 8 - i) within count told.octets ∙ c.loop-k.invariant.0,
      ap (λ n. last n c.apply_eight.new.self ys) place ∙ ap (λ t. last (i + 8) t ys) told.state
          ∙ last_piece s xs zs i 8 (i + 8 - i) within count told.octets ∙ c.loop-k.invariant.1,
    )
