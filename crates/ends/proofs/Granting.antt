-- Calls that checks alone decide: install and remove.
use Rattle.std.proofs.Common.{◌≡◌, Bool, true, false, cond, List, [], ◌∷◌, Err, Result, sym, refl, ap, ◌∙◌}
use Rattle.ends.specs.declared.refusals.Refusal.{Refusal}
use Rattle.ends.specs.Places.{Suites}
use Rattle.ends.specs.Holding.{End}
use Rattle.ends.specs.Calls.{Call, Verdict, told}
use Rattle.ends.specs.Calls.Answer.{Granted}
use Rattle.ends.specs.Checks.{Check, first, settled}
use Rattle.ends.specs.Installs.{if_granted}
use Rattle.ends.specs.Steps.{judge, answer, after, memories, no_memories, IsStep}

module _ (S : Suites) (e : End) (v : Verdict) (grants : answer e v ≡ Granted) where
  answered_by : (cs : List Check) → told (λ (x : Unit {0}). Granted) (first cs tt) ≡ answer e (settled (first cs v))
  answered_by [] = sym grants
  answered_by (c ∷ cs) = go c.0 (answered_by cs)
    where
      go : (b : Bool) → told (λ (x : Unit {0}). Granted) (first cs tt) ≡ answer e (settled (first cs v)) → told (λ (x : Unit {0}). Granted) (cond b (Err c.1) (first cs tt)) ≡ answer e (settled (cond b (Err c.1) (first cs v)))
      go true h = refl
      go false h = h

  left_by : (cs : List Check) → if_granted (first cs tt) (after S e v) e ≡ after S e (settled (first cs v))
  left_by [] = refl
  left_by (c ∷ cs) = go c.0 (left_by cs)
    where
      go : (b : Bool) → if_granted (first cs tt) (after S e v) e ≡ after S e (settled (first cs v)) → if_granted (cond b (Err c.1) (first cs tt)) (after S e v) e ≡ after S e (settled (cond b (Err c.1) (first cs v)))
      go true h = refl
      go false h = h

  pub granted-step : (c : Call) (cs : List Check) (r : Result (Unit {0}) Refusal) (e' : End) → judge S e c ≡ settled (first cs v) → ((w : Verdict) → memories c w ≡ no_memories) → r ≡ first cs tt → e' ≡ if_granted r (after S e v) e → IsStep S e c (told (λ (x : Unit {0}). Granted) r) e' no_memories
  granted-step c cs r e' judged lent is left =
      record {
        answered = ap (told (λ (x : Unit {0}). Granted)) is ∙ answered_by cs ∙ ap (answer e) (sym judged);
        holds = left ∙ ap (λ (o : Result (Unit {0}) Refusal). if_granted o (after S e v) e) is ∙ left_by cs ∙ ap (after S e) (sym judged);
        leaves = sym (lent (judge S e c));
      }
