-- A call that was refused, and not for a failed code, might as well not have come.
use Rattle.std.proofs.Common.{◌≡◌, Bool, true, false, cond, not, List, [], ◌∷◌, refl, ap, subst}
use Rattle.std.proofs.lemmas.Bool.{false≢true}
use Rattle.ends.specs.Places.{Suites}
use Rattle.ends.specs.Holding.{End}
use Rattle.ends.specs.Calls.{Call, Verdict}
use Rattle.ends.specs.Calls.Verdict.{Refuses, Fills, Empties, Sends, Holds, Delivers, Fails}
use Rattle.ends.specs.Installs.{new}
use Rattle.ends.specs.Steps.{Step, judge, step, run, final, after, answer, soon, failed, is_failed_code}
use Rattle.laws.specs.Words.{is_struck, remaining, calls_of}
use Rattle.laws.specs.Laws.{RefusedCallsLeaveNoTrace}

unchanged : (S : Suites) (e : End) (v : Verdict) → is_struck (answer e v) ≡ true → after S e v ≡ e
unchanged S e (Refuses r) h = refl
unchanged S e (Fills p f) h = absurd (false≢true h)
unchanged S e (Empties p) h = absurd (false≢true h)
unchanged S e (Sends p f frames) h = absurd (false≢true h)
unchanged S e (Holds p f part) h = absurd (false≢true h)
unchanged S e (Delivers p f counter destination source message) h = absurd (false≢true h)
unchanged S e (Fails p f fragment time) h = absurd (never (soon time e.failure) h)
  where
    never : (b : Bool) → not (is_failed_code (failed b p fragment)) ≡ true → ⊥
    never true k = false≢true k
    never false k = false≢true k

-- a step that is struck out, or remains, before a rest of which something holds
module _ (S : Suites) (e : End) (c : Call) (rest : List Step) where
  struck_run : (b : Bool) → is_struck (step S e c).answer ≡ b → run S (step S e c).after (calls_of rest) ≡ rest → run S e (calls_of (cond b rest (step S e c ∷ rest))) ≡ cond b rest (step S e c ∷ rest)
  struck_run true h same = subst (λ x. run S x (calls_of rest) ≡ rest) (unchanged S e (judge S e c) h) same
  struck_run false h same = ap (λ steps. step S e c ∷ steps) same

  struck_final : (b : Bool) → is_struck (step S e c).answer ≡ b → (last : End) → final S (step S e c).after (calls_of rest) ≡ last → final S e (calls_of (cond b rest (step S e c ∷ rest))) ≡ last
  struck_final true h last same = subst (λ x. final S x (calls_of rest) ≡ last) (unchanged S e (judge S e c) h) same
  struck_final false h last same = same

remaining-run : (S : Suites) (e : End) (calls : List Call) → run S e (calls_of (remaining (run S e calls))) ≡ remaining (run S e calls)
remaining-run S e [] = refl
remaining-run S e (c ∷ calls) =
    struck_run S e c (remaining (run S (step S e c).after calls)) (is_struck (step S e c).answer) refl (remaining-run S (step S e c).after calls)

remaining-final : (S : Suites) (e : End) (calls : List Call) → final S e (calls_of (remaining (run S e calls))) ≡ final S e calls
remaining-final S e [] = refl
remaining-final S e (c ∷ calls) =
    struck_final S e c (remaining (run S (step S e c).after calls)) (is_struck (step S e c).answer) refl (final S (step S e c).after calls) (remaining-final S (step S e c).after calls)

pub refused_calls_leave_no_trace : (S : Suites) → RefusedCallsLeaveNoTrace S
refused_calls_leave_no_trace S role own calls = (remaining-run S (new role own) calls, remaining-final S (new role own) calls)
