-- Words that grow in place, one after another.
use Rattle.std.proofs.Common.{◌≡◌, ℕ, ◌+◌, ◌*◌, ◌/◌, ◌%◌, ◌^◌, ◌<◌, List, [], ◌∷◌, ◌++◌, length, get_or, take, drop, set, sym, ap, ◌∙◌, arith}
use lib.Bits.{bit_or, bit_xor, or_shifted_r}
use Rattle.std.proofs.lemmas.List.{append_assoc, take_more_set, drop_more, drop-set-lt}
use Rattle.mixing.specs.Mixing.{plus, turned, chained, around}

pub turned_from_or : (w : ℕ) → w < 2 ^ 16 → bit_or (w / 2) ((w * 2 ^ 15) % 2 ^ 16) ≡ turned w
unfolding turned
turned_from_or w small =
    let top : (w * 2 ^ 15) % 2 ^ 16 ≡ w % 2 * 2 ^ 15 = omega arith in
    ap (bit_or (w / 2)) top ∙ or_shifted_r (w % 2) 15 (w / 2) (omega arith)

-- the words before place n have grown, and those from n on have still to
abbrev pub Going : (ℕ → ℕ) → List ℕ → List ℕ → ℕ → ℕ → List ℕ → Type 0
Going f ks start n before ws = take n ws ++ chained f before (drop n ks) (drop n ws) ≡ around f ks start

-- the word at place n grows
pub going_more : (f : ℕ → ℕ) (ks start : List ℕ) (n before : ℕ) (ws : List ℕ) (by : ℕ) → n < length ks → n < length ws → by ≡ f (bit_xor before (get_or ks n 0)) → Going f ks start n before ws → Going f ks start (n + 1) (plus (get_or ws n 0) by) (set ws n (plus (get_or ws n 0) by))
going_more f ks start n before ws by hk hw e h =
    let k = get_or ks n 0 in
    let grown = plus (get_or ws n 0) by in
    let keys = drop (n + 1) ks in
    let rest = drop (n + 1) (set ws n grown) in
    let step : List ℕ → ℕ → List ℕ = λ back x. take n ws ++ (plus (get_or ws n 0) x ∷ chained f (plus (get_or ws n 0) x) keys back) in
    ap (λ front. front ++ chained f grown keys rest) (take_more_set ws n grown hw)
    ∙ append_assoc (take n ws) (grown ∷ []) (chained f grown keys rest)
    ∙ ap (λ back. step back by) (drop-set-lt (n + 1) ws n grown (omega arith))
    ∙ ap (step (drop (n + 1) ws)) e
    ∙ sym (ap (λ back. take n ws ++ chained f before (k ∷ keys) back) (drop_more ws n 0 hw))
    ∙ sym (ap (λ from. take n ws ++ chained f before from (drop n ws)) (drop_more ks n 0 hk))
    ∙ h
