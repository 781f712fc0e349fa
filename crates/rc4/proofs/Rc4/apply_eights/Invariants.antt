use Rattle.std.proofs.Common.{◌≡◌, ◌*◌, length}
use Rattle.rc4.specs.Rc4.{masked, after}
use Rattle.rc4.proofs.Stream.{made, last}
use Rattle.rc4.proofs.Rc4.apply_eights.Given as goal

abbrev pub invariant-loop-k : goal.invariant-loop-k
invariant-loop-k l =
    (made (8 * l.k) l.self l.octets ≡ masked l.initial.self l.initial.octets)
    × (last (8 * l.k) l.self l.octets ≡ after (length l.initial.octets) l.initial.self)
