use Rattle.std.proofs.Common.{◌≡◌, ◌∙◌, ap, length, rules}
use Rattle.frame.specs.Headers.{header_length, header_octets}
use Rattle.sending.proofs.Laying.{frame_laid}
use Rattle.sending.proofs.sealing.Sealing.write_frame.Goals as goal

pub returns-clause-memory : goal.returns-clause-memory
returns-clause-memory g c =
    let s = c.args.self.now in
    let header = c.octets-header.result in
    let long : length header ≡ header_length = search rules in
    frame_laid g.S.Suite.means s.plan.now s.key.now s.octets.now c.args.i header c.piece-piece.result.now
    (c.octets-header.ensures.value ∙ ap header_octets c.header.ensures) c.piece-piece.ensures.value long
    c.args.out.now c.put.new.memory c.seal.new.out c.put.ensures c.seal.ensures.memory
