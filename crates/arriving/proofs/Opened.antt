-- What stands in working memory, by what each step answered.
use Rattle.std.proofs.Common.{◌≡◌, ℕ, ◌+◌, ◌≤◌, ◌++◌, length, take, drop, IfOk, Ok, Err, Result, sym, ap, ◌∙◌, subst, arith}
use Rattle.std.proofs.lemmas.List.{take_at, length-append, length-take}
use Rattle.std.proofs.lemmas.Result.{IfOk-at_ok}
use Rattle.octets.specs.Octets.{Octets, begins}
use Rattle.octets.proofs.Writing.{length-begins}
use Rattle.frame.specs.Headers.{header_length}
use Rattle.frame.specs.declared.headers.Header.{Header}
use Rattle.suite.specs.Meaning.{Meaning, left_by_open}
use Rattle.suite.specs.declared.sizes.Sizes.{Sizes}
use Rattle.suite.specs.declared.faults.OpenFault.{OpenFault}
use Rattle.suite.specs.declared.faults.PieceFault.{PieceFault}
use Rattle.ends.specs.declared.places.Place.{Place}
use Rattle.ends.specs.declared.refusals.Refusal.{Refusal}
use Rattle.ends.specs.declared.refusals.Refusal.TheVariants.{OpenRefused}
use Rattle.ends.specs.Holding.{Filling, key_for}
use Rattle.ends.specs.Checks.{first, then, raised}
use Rattle.ends.specs.Arrivals.{turn_checks, opened, prior, assembly_checks}
use Rattle.arriving.specs.Gathering.{Gives, piece_length, refused_at, gathered}

-- a piece that was opened, where the suite's answer passed on
opened_piece : (z : Sizes) (body old memory : Octets) (q : Place) (fragment size : ℕ) (piece : Result Octets OpenFault) (o : Result ℕ PieceFault) → o ≡ piece_length piece → IfOk o (λ n. n ≤ length old) → memory ≡ left_by_open z body piece old → Ok size ≡ raised (refused_at q fragment) o → (size ≤ length memory) × (raised (OpenRefused q fragment) piece ≡ Ok (take size memory))
opened_piece z body old memory q fragment size (Err fault) o is fits was answer =
    let told : ◌≡◌ {A = Result ℕ Refusal} (Ok size) (Err (OpenRefused q fragment fault)) = answer ∙ ap (raised (refused_at q fragment)) is in
    absurd cc
opened_piece z body old memory q fragment size (Ok piece) o is fits was answer =
    let told : ◌≡◌ {A = Result ℕ Refusal} (Ok size) (Ok (length piece)) = answer ∙ ap (raised (refused_at q fragment)) is in
    let same : length piece ≡ size = cc in
    let room : length piece ≤ length old = IfOk-at_ok (λ n. n ≤ length old) is fits in
    let long : length (begins piece old) ≡ length old = length-begins piece old room in
    let kept : length memory ≡ length (begins piece old) = ap length was in
    (omega arith, ap Ok (sym (ap (take size) was ∙ take_at piece (drop (length piece) old) size same)))

module _ (M : Meaning) (q : Place) (f : Filling) (h : Header) (frame : Octets) (counter : ℕ) where
  abbrev piece : Result Octets OpenFault
  piece = M.opens (key_for M f) (take header_length frame) (drop header_length frame)

  -- in turn, opened and joined
  pub gathers : (x : Unit {0}) (o : Result ℕ PieceFault) (size : ℕ) (old one two : Octets) (r : Result ℕ Refusal) → Ok x ≡ first (turn_checks q f h counter) (tt {0}) → o ≡ piece_length piece → IfOk o (λ n. n ≤ length old) → one ≡ left_by_open M.sizes (drop header_length frame) piece old → Ok size ≡ raised (refused_at q h.fragment) o → Gives (first (assembly_checks q h M.sizes.code (length (prior f h) + size)) (prior f h ++ take size one)) r two → Gives (gathered M q f h frame counter) r two
  gathers x o size old one two r turn is fits was answer joined =
      let assembled : Octets → Result Octets Refusal = λ piece. first (assembly_checks q h M.sizes.code (length (prior f h ++ piece))) (prior f h ++ piece) in
      let opens = opened_piece M.sizes (drop header_length frame) old one q h.fragment size piece o is fits was answer in
      let long : length (prior f h ++ take size one) ≡ length (prior f h) + size = simp (length-append, length-take) (omega (arith, opens.0)) in
      let all : first (assembly_checks q h M.sizes.code (length (prior f h) + size)) (prior f h ++ take size one) ≡ gathered M q f h frame counter =
      ap (λ n. first (assembly_checks q h M.sizes.code n) (prior f h ++ take size one)) (sym long)
      ∙ ap (λ (o : Result Octets Refusal). then o assembled) (sym opens.1)
      ∙ ap (λ (o : Result (Unit {0}) Refusal). then o (λ _. then (opened M q f h frame) assembled)) turn in
      subst (λ (want : Result Octets Refusal). Gives want r two) all joined
