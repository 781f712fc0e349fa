use Rattle.std.proofs.Common.{◌+◌, arith}
use Rattle.std.proofs.lemmas.List.{length-take}
use Rattle.frame.specs.Headers.{header_length}
use Rattle.ends.specs.Sends.{frame_of}
use Rattle.sending.proofs.Laying.{none_written, one_more, rows_whole}
use Rattle.sending.proofs.sealing.Sealing.write_frames.Goals as goal

pub loop-i-init : goal.loop-i-init
loop-i-init g c =
    let M = g.S.Suite.means in
    let p = c.args.self.now.plan.now in
    let octets = c.args.self.now.octets.now in
    none_written (frame_of M p c.args.self.now.key.now octets) (header_length + M.sizes.head + M.sizes.tail) p.piece_length p.count octets c.args.frames.now _ c.requires.frames_room

pub loop-i-preserved : goal.loop-i-preserved
loop-i-preserved g c =
    let M = g.S.Suite.means in
    let p = c.args.self.now.plan.now in
    let octets = c.args.self.now.octets.now in
    one_more (frame_of M p c.args.self.now.key.now octets) (header_length + M.sizes.head + M.sizes.tail) p.piece_length p.count octets c.args.frames.now _ c.requires.frames_room
    c.loop-i.i c.loop-i.offset c.loop-i.frames c.loop-i.row-items c.loop-i.invariant (omega (arith, length-take p.count c.args.index.now))
    c.write_frame-length.result c.write_frame-length.new.out c.write_frame-length.ensures.length (omega (arith, c.write_frame-length.ensures.sizes)) c.write_frame-length.ensures.memory

pub returns-clause-index : goal.returns-clause-index
returns-clause-index g c =
    let p = c.args.self.now.plan.now in
    rows_whole (frame_of g.S.Suite.means p c.args.self.now.key.now c.args.self.now.octets.now) c.loop-i.i p.count c.args.index.now c.loop-i.row-items
    (omega (arith, length-take p.count c.args.index.now)) c.requires.index_room c.loop-i.invariant.laid.places
