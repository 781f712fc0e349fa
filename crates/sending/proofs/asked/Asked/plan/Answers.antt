use Rattle.std.proofs.Common.{sym, mod-lt, arith, rules}
use Rattle.std.proofs.lemmas.Grind.{common_steps}
use Rattle.ends.specs.Holding.{held, filling}
use Rattle.sending.proofs.Deciding.{plan-ready}
use Rattle.sending.proofs.asked.Asked.plan.Goals as goal

pub returns-clause-granted : goal.returns-clause-granted
returns-clause-granted c =
    let a = c.args.self.now in
    let e = held a.state.now in
    let q = a.request.now in
    let f = filling c.in_ok-installation.installation.now in
    let p = c.plan_of-plan.result in
    let n = a.lengths in
    record {
      fill = f;
      fills = grind (arith, common_steps);
      is_planned = search rules;
      is_key = search rules;
      next = search rules;
      ready = plan-ready a.sizes e q n.message n.frames n.index n.working a.bounded (mod-lt a.state.now.sequence (omega arith)) f p c.plan_of-plan.ensures (search rules) (sym c.in_ok-check_lengths.ensures) (sym c.in_ok-check_supply.ensures);
    }
