use Rattle.std.proofs.Common.{◌+◌}
use Rattle.frame.specs.Headers.{header_length}
use Rattle.ends.specs.Sends.{frame_of}
use Rattle.sending.proofs.Laying.{Written}
use Rattle.sending.proofs.sealing.Sealing.write_frames.Given as goal

abbrev pub invariant-loop-i : goal.invariant-loop-i
invariant-loop-i g l =
    Written (frame_of g.S.Suite.means l.self.plan.now l.self.key.now l.self.octets.now) (header_length + g.S.Suite.means.sizes.head + g.S.Suite.means.sizes.tail) l.self.plan.now.piece_length l.self.plan.now.count l.self.octets.now l.initial.frames l.initial.row-items l.i l.offset l.frames l.row-items
