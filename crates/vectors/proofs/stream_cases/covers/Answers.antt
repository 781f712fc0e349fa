use Rattle.std.proofs.Common.{◌≡◌, true, sym, ap, ◌∙◌, rules}
use Rattle.std.proofs.lemmas.Slice.Eq.{slice_eq-Decides}
use Rattle.rc4.specs.Rc4.{covered}
use Rattle.vectors.proofs.stream_cases.covers.Goals as goal
use Rattle.std.proofs.lemmas.Bool.Decides.{Decides-eqb}

pub returns : goal.returns
returns c right =
    let cover = c.args.cover.now in
    let same : c.eq.result ≡ true = search rules in
    sym (c.cover.ensures.octets ∙ ap (covered cover.key.now) c.copy_from_slice.ensures.after)
    ∙ (slice_eq-Decides Decides-eqb c.cover.new.octets cover.cipher.now c.eq.result c.eq.ensures).0 same
