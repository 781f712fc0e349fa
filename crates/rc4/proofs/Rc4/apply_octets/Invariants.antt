use Rattle.std.proofs.Common.{◌≡◌, length}
use Rattle.rc4.specs.Rc4.{masked, after}
use Rattle.rc4.proofs.Stream.{made, last}
use Rattle.rc4.proofs.Rc4.apply_octets.Given as goal

abbrev pub invariant-loop-x : goal.invariant-loop-x
invariant-loop-x l =
    (made l.x-index l.self l.octets ≡ masked l.initial.self l.initial.octets)
    × (last l.x-index l.self l.octets ≡ after (length l.initial.octets) l.initial.self)
