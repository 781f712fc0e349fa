use Rattle.std.proofs.Common.{sym, ap, ◌∙◌}
use Rattle.aes.specs.Words.{octets}
use Rattle.ccm.specs.Ccm.{blocks, chained}
use Rattle.ccm.specs.Inner.{under}
use Rattle.ccm.proofs.Additional.{no_additional}
use Rattle.ccm.proofs.Blocks.{chained_none}
use Rattle.ccm.proofs.Mode.chain_additional.Goals as goal

pub returns-then-size-eq0 : goal.returns-then-size-eq0
returns-then-size-eq0 c =
    let E = under c.args.self.now.cipher in
    let x = octets c.args.start in
    sym (chained_none E x) ∙ ap (λ l. chained E x (blocks l)) (sym (no_additional c.args.self.now.additional.now c.if-size-eq0.true))
