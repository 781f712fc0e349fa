use Rattle.suite.proofs.Following.{one_piece, long_refused}
use Rattle.suite.proofs.consequences.laws_follow.Goals as goal

pub returns : goal.returns
returns g c = record { one_piece = one_piece _ g.met.S.Suite.keeps; long_refused = long_refused _ g.met.S.Suite.keeps }
