use Rattle.std.proofs.Common.{◌≡◌, length, ◌++◌}
use Rattle.rc4.specs.Rc4.{masked, after}
use Rattle.rc4.proofs.Stream.{masked-append, after-append, goes_on}
use Rattle.rc4.proofs.Rc4.apply.Goals as goal

pub returns : goal.returns
returns c =
    let s = c.args.self.now in
    let xs = c.args.octets.now in
    let eights = c.split_at_mut-eights.result.0.now in
    let rest = c.split_at_mut-eights.result.1.now in
    let whole : xs ≡ eights ++ rest = c.split_at_mut-eights.ensures.value in
    let octets : c.apply_eights.new.octets ++ c.apply_octets.new.octets ≡ masked s xs = cc (masked-append s eights rest) in
    let state : c.apply_octets.new.self ≡ after (length xs) s = cc (after-append s eights rest) in
    record { octets = octets; state = state; goes_on = goes_on s xs _ _ octets state }
