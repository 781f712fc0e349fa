use Rattle.std.proofs.Common.{Ok, Err, sym, ap, ◌∙◌}
use Rattle.std.proofs.lemmas.Result.{err_from_is_err_and}
use Rattle.ends.specs.Holding.{held}
use Rattle.admission.proofs.Reading.{admits}
use Rattle.admission.proofs.admitting.admit.Goals as goal

pub returns-in_err-check_header-clause-value : goal.returns-in_err-check_header-clause-value
returns-in_err-check_header-clause-value c =
    let p = err_from_is_err_and c.from_residual-in_err-check_header.result c.from_residual-in_err-check_header.ensures.1 in
    let ranges = c.in_ok-check_ranges.ensures in
    p.1 ∙ ap Err p.2
    ∙ sym (admits c.args.coded (held c.args.state.now) c.args.frame.now c.args.time c.args.lengths.working c.args.lengths.message
    c.in_ok-header.header c.in_ok-check_ranges.field-0 (Err c.in_err-check_header.field-0.0) ranges.value ranges.range.least c.in_ok-header.ensures c.in_err-check_header.ensures)

pub returns-clause-value : goal.returns-clause-value
returns-clause-value c =
    let ranges = c.in_ok-check_ranges.ensures in
    sym (admits c.args.coded (held c.args.state.now) c.args.frame.now c.args.time c.args.lengths.working c.args.lengths.message
    c.in_ok-header.header c.in_ok-check_ranges.field-0 (Ok c.in_ok-check_header.field-0) ranges.value ranges.range.least c.in_ok-header.ensures c.in_ok-check_header.ensures)
