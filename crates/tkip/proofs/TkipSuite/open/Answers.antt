use Rattle.std.proofs.Common.{◌≡◌, ◌-◌, length, take, drop, replicate, Ok, refl, sym, ap, ◌∙◌, rules}
use Rattle.std.specs.Str.{bytes_eq}
use Rattle.std.proofs.lemmas.List.{take_rest}
use Rattle.suite.specs.Meaning.{length_or_fault, left_by_open}
use Rattle.tkip.specs.Tkip.{tkip_sizes}
use Rattle.tkip.proofs.Opening.{Bared, granted, refused, left}
use Rattle.tkip.proofs.TkipSuite.open.Goals as goal
use Rattle.tkip.proofs.TkipSuite.open.Goals.{After-same}

bared : (c : After-same) → Bared c.args.key.now c.args.header.now c.args.body.now c.frame_key-frame_key.result (take (length c.args.body.now - 8) (drop 8 c.args.body.now)) c.bare-check.new.piece c.bare-check.result c.counter_in.result (length (take (length c.args.body.now - 8 - 4) c.args.out.now))
bared c =
    record {
      short = c.if-size-gt-LONGEST_BODY.false;
      count = search rules;
      counter_is = c.counter_in.ensures.value;
      mixed_is = c.frame_key-frame_key.ensures;
      sealed_is = take_rest c.args.body.now 8;
      front = c.bare-check.ensures.piece;
      behind = c.bare-check.ensures.check;
    }

pub returns-then-not-same : goal.returns-then-not-same
returns-then-not-same c =
    let piece = c.bare-check.new.piece in
    let size : length piece ≡ length c.args.body.now - 8 - 4 = search rules in
    let is = refused _ _ _ _ _ _ _ _ _ (bared (goal.at.returns-then-not-same c).After-same) (c.if-not-same.ensures ∙ ap (λ x. bytes_eq x c.bare-check.result) c.check_octets.ensures) in
    record {
      answer = ap length_or_fault (sym is);
      says = c.if-size-gt-LONGEST_BODY.false;
      memory =
          left c.fill.new.memory (replicate (length c.args.body.now - 8 - 4) 0) c.args.out.now _ (c.fill.ensures ∙ ap (λ n. replicate n 0) size) (search rules)
          ∙ ap (λ opened. left_by_open tkip_sizes c.args.body.now opened c.args.out.now) (sym is);
    }

pub returns : goal.returns
returns c =
    let piece = c.bare-check.new.piece in
    let size : length piece ≡ length c.args.body.now - 8 - 4 = search rules in
    let is = granted _ _ _ _ _ _ _ _ _ (bared (goal.at.returns c).After-same) (c.if-not-same.ensures ∙ ap (λ x. bytes_eq x c.bare-check.result) c.check_octets.ensures) in
    record {
      answer = ap Ok (sym size) ∙ ap length_or_fault (sym is);
      says = search rules;
      memory = left piece piece c.args.out.now _ refl (sym size) ∙ ap (λ opened. left_by_open tkip_sizes c.args.body.now opened c.args.out.now) (sym is);
    }
