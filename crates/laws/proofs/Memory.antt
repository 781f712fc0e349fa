-- The frames of a send, cut out of the frames memory by the index memory, are those that were sent.
use Rattle.std.proofs.Common.{◌≡◌, ℕ, suc, ◌+◌, true, List, [], ◌∷◌, ◌++◌, length, take, refl, ap, ◌∙◌}
use Rattle.std.proofs.lemmas.List.{length-append, append_assoc, take_at, drop_at}
use Rattle.std.proofs.lemmas.Bool.{cond-true}
use Rattle.octets.specs.Octets.{Octets, begins, part}
use Rattle.ends.specs.declared.places.Place.{Place}
use Rattle.ends.specs.Places.{same_place, Suites}
use Rattle.ends.specs.Holding.{Filling, End}
use Rattle.ends.specs.Calls.{Sending}
use Rattle.ends.specs.Calls.Call.{Send}
use Rattle.ends.specs.Calls.Verdict.{Sends}
use Rattle.ends.specs.Sends.{joined, spans}
use Rattle.ends.specs.Steps.{rows_begin, step_by}
use Rattle.laws.specs.Words.{cut_out, sent_under}

length-spans : (offset : ℕ) (frames : List Octets) → length (spans offset frames) ≡ length frames
length-spans offset [] = refl
length-spans offset (x ∷ frames) = ap suc (length-spans (offset + length x) frames)

cut_spans : (frames : List Octets) (offset : ℕ) (front rest memory : Octets) → length front ≡ offset → memory ≡ front ++ (joined frames ++ rest) → cut_out (spans offset frames) memory ≡ frames
cut_spans [] offset front rest memory long is = refl
cut_spans (x ∷ frames) offset front rest memory long is =
    λ i. here i ∷ cut_spans frames (offset + length x) (front ++ x) rest memory (length-append front x ∙ ap (λ n. n + length x) long) (is ∙ apart) i
  where
    apart : front ++ ((x ++ joined frames) ++ rest) ≡ (front ++ x) ++ (joined frames ++ rest)
    apart = simp append_assoc

    here : part offset (length x) memory ≡ x
    here =
        ap (part offset (length x)) is
        ∙ ap (take (length x)) (drop_at front ((x ++ joined frames) ++ rest) offset long ∙ append_assoc x (joined frames) rest)
        ∙ take_at x (joined frames ++ rest) (length x) refl

pub frames_back : (p : Place) (S : Suites) (e : End) (s : Sending) (f : Filling) (frames : List Octets) → same_place p s.request.place ≡ true → sent_under p (step_by S e (Send s) (Sends s.request.place f frames)) ≡ frames
frames_back p S e s f frames here =
    cond-true (same_place p s.request.place) (cut_out (take (length frames) (rows_begin (spans 0 frames) s.index)) (begins (joined frames) s.frames)) [] here
    ∙ ap (λ xs. cut_out xs (begins (joined frames) s.frames)) (take_at (spans 0 frames) _ (length frames) (length-spans 0 frames))
    ∙ cut_spans frames 0 [] _ (begins (joined frames) s.frames) refl refl
