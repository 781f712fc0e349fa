use Rattle.std.proofs.Common.{rules}
use Rattle.ends.proofs.Tables.{placed}
use Rattle.ends.proofs.roles.State.put.Goals as goal

pub returns : goal.returns
returns c = search (rules, placed c.args.self.now c.args.place c.args.slot)
