use Rattle.std.proofs.Common.{◌≡◌, ℕ, List, ◌++◌, true, length, take, replicate, sym, ap, ◌∙◌, rules, arith, append-nil}
use Rattle.std.proofs.lemmas.List.{drop_all, length-take-le}
use Rattle.std.proofs.lemmas.Slice.Eq.{slice_eq-Decides}
use Rattle.std.proofs.lemmas.Bool.Decides.{Decides-eqb}
use Rattle.vectors.proofs.sealings.Sealing.seals.Goals as goal

pub returns : goal.returns
returns g c right =
    let sealing = c.args.self.now in
    let same : c.eq.result ≡ true = search rules in
    let equal = (slice_eq-Decides Decides-eqb c.seal.new.out sealing.body.now c.eq.result c.eq.ensures).0 same in
    let made = g.S.Suite.means.seal sealing.key.now sealing.header.now 0 sealing.counter sealing.piece.now in
    let room : List ℕ = take (length sealing.body.now) (replicate 112 0) in
    let long : length room ≡ length made = length-take-le (length sealing.body.now) (replicate 112 0) sealing.room ∙ omega (arith, c.seal.ensures.length, sealing.body_fits) in
    let whole = c.seal.ensures.memory ∙ ap (λ l. made ++ l) (drop_all (length made) room (omega (arith, long))) ∙ append-nil made in
    sym whole ∙ equal
