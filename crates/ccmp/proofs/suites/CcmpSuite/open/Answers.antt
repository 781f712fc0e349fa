use Rattle.std.proofs.Common.{◌≡◌, ◌-◌, ◌≤◌, true, false, length, is_ok, Ok, Err, sym, ap, ◌∙◌, arith, rules}
use Rattle.std.proofs.lemmas.List.{take_all}
use Rattle.suite.specs.Meaning.{length_or_fault}
use Rattle.suite.specs.declared.faults.OpenFault.TheVariants.{Unequal}
use Rattle.ccmp.specs.Ccmp.{opened_in}
use Rattle.ccmp.specs.Laws.{piece_length}
use Rattle.ccmp.proofs.Memory.{accepted, answered, answer_right, answer_wrong}
use Rattle.ccmp.proofs.suites.CcmpSuite.open.Goals as goal

pub returns-in_err-map_err : goal.returns-in_err-map_err
returns-in_err-map_err c =
    let body = c.args.body.now in
    let short : length body ≤ 2328 = omega arith in
    let a = answered c.args.key.now c.args.header.now body c.args.out.now c.open.new.out _ _ _ _ (is_ok c.open.result) short (c.array_at.ensures ∙ take_all 16 c.args.key.now (omega arith)) c.counter.ensures.value c.nonce.ensures c.additional.ensures c.open.ensures.answer c.open.ensures.memory in
    let wrong : is_ok c.open.result ≡ false = search rules in
    let fault : c.from_residual.result ≡ Err Unequal = search rules in
    record {
      answer = fault ∙ answer_wrong (opened_in c.args.key.now c.args.header.now body) (sym a.which ∙ wrong) ∙ ap length_or_fault a.opened;
      says = search rules;
      memory = a.left;
    }

pub returns : goal.returns
returns c =
    let key = c.args.key.now in
    let header = c.args.header.now in
    let body = c.args.body.now in
    let long = accepted body c.requires.accepted in
    let short : length body ≤ 2328 = omega arith in
    let a = answered key header body c.args.out.now c.open.new.out _ _ _ _ (is_ok c.open.result) short (c.array_at.ensures ∙ take_all 16 c.args.key.now (omega arith)) c.counter.ensures.value c.nonce.ensures c.additional.ensures c.open.ensures.answer c.open.ensures.memory in
    let right : is_ok c.open.result ≡ true = search rules in
    let count : length body - 8 - 8 ≡ length body - 16 = omega arith in
    record {
      answer = ap Ok count ∙ answer_right (opened_in key header body) (length body - 16) (sym a.which ∙ right) (λ piece e. piece_length key header body piece long e) ∙ ap length_or_fault a.opened;
      says = (omega arith, omega arith, omega arith);
      memory = a.left;
    }
