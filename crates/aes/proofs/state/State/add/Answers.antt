use Rattle.std.proofs.Common.{◌≡◌, ◌/◌, ◌%◌, refl, ap, ◌∙◌, arith}
use Rattle.aes.proofs.Quads.{quad-sum}
use Rattle.aes.proofs.state.State.add.Goals as goal

pub returns : goal.returns
returns g c =
    let t = c.args.self in
    let w = c.args.w in
    let last : w / 16777216 ≡ w / 16777216 % 256 = omega arith in
    record {
      first = quad-sum t.b _ _ _ refl (c.give-4.ensures ∙ ap (g.G.Giving.gives 3) last);
      second = quad-sum t.c _ _ _ refl c.give.ensures;
      third = quad-sum t.d _ _ _ refl c.give-3.ensures;
      fourth = quad-sum t.a _ _ _ refl c.give-2.ensures;
    }
