use Rattle.aes.proofs.Rounds.{added}
use Rattle.aes.proofs.state.State.round.Goals as goal

pub returns : goal.returns
returns g c = added g.G.Giving.gives c.args.self c.args.s _ _ _ _ c.add.ensures c.add-2.ensures c.add-3.ensures c.add-4.ensures
