-- Checks run in order, and the first that applies refuses.
use Rattle.std.specs.Prelude.{ℕ, ◌^◌, Bool, false, cond, List, [], ◌∷◌, Some, None, Ok, Err, Option, Result, nat_lt}
use Rattle.suite.specs.declared.sizes.Sizes.{Sizes}
use Rattle.ends.specs.declared.refusals.Refusal.{Refusal}
use Rattle.ends.specs.Holding.{End}
use Rattle.ends.specs.Calls.{Verdict}
use Rattle.ends.specs.Calls.Verdict.{Refuses}

-- a check: whether it applies, and what it then answers
abbrev pub Check : Type 0
Check = Bool × Refusal

abbrev pub first : {A : Type 0} → List Check → A → Result A Refusal
first [] x = Ok x
first (c ∷ cs) x = cond c.0 (Err c.1) (first cs x)

-- one step after the other, as long as none refuses
abbrev pub then : {A B : Type 0} → Result A Refusal → (A → Result B Refusal) → Result B Refusal
then (Ok x) next = next x
then (Err r) next = Err r

-- a suite's fault inside a refusal
abbrev pub raised : {A E : Type 0} → (E → Refusal) → Result A E → Result A Refusal
raised refusal (Ok x) = Ok x
raised refusal (Err fault) = Err (refusal fault)

abbrev pub or_refuse : {A : Type 0} → Refusal → Option A → Result A Refusal
or_refuse r (Some x) = Ok x
or_refuse r None = Err r

abbrev pub settled : Result Verdict Refusal → Verdict
settled (Ok v) = v
settled (Err r) = Refuses r

-- times in milliseconds
abbrev pub last_time : ℕ
last_time = 2 ^ 62

abbrev pub before : ℕ → Option ℕ → Bool
before time None = false
before time (Some end) = nat_lt time end

-- only a suite with a code is blocked, before the end of the last block
abbrev pub blocked : Bool → End → ℕ → Bool
blocked coded e time = cond coded (before time e.block) false

abbrev pub has_code : Sizes → Bool
has_code z = nat_lt 0 z.code
