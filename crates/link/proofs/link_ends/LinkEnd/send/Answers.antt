use Rattle.std.proofs.Common.{replicate, ap, ◌∙◌}
use Rattle.ends.specs.Places.{suites, suite_at}
use Rattle.ends.specs.Holding.{held}
use Rattle.ends.specs.Calls.{sending}
use Rattle.link.proofs.Stepping.{send-step}
use Rattle.link.proofs.link_ends.LinkEnd.send.Goals as goal

pub returns-in-Pairwise-clause-step : goal.returns-in-Pairwise-clause-step
returns-in-Pairwise-clause-step g c =
    let S = suites g.P.Suite.means g.G.Suite.means in
    let s = sending c.args.request.now c.args.message.now c.args.frames.now c.args.index.now c.args.working.now in
    send-step S (held c.args.self.now.state) (held c.send_over.new.state) s g.P.Suite.means c.send_over.result c.send_over.new.frames c.send_over.new.index c.drop-guard.new.self.0 (ap (suite_at S) c.in-Pairwise.is) c.send_over.ensures (c.drop-guard.ensures ∙ ap (λ n. replicate n 0) c.send_over.auto.working)

pub returns-clause-step : goal.returns-clause-step
returns-clause-step g c =
    let S = suites g.P.Suite.means g.G.Suite.means in
    let s = sending c.args.request.now c.args.message.now c.args.frames.now c.args.index.now c.args.working.now in
    send-step S (held c.args.self.now.state) (held c.send_over-in-Group.new.state) s g.G.Suite.means c.send_over-in-Group.result c.send_over-in-Group.new.frames c.send_over-in-Group.new.index c.drop-guard-2.new.self.0 (ap (suite_at S) c.in-Group.is) c.send_over-in-Group.ensures (c.drop-guard-2.ensures ∙ ap (λ n. replicate n 0) c.send_over-in-Group.auto.working)
