use Rattle.std.proofs.Common.{◌≡◌, [], ◌++◌, ◌∙◌, arith}
use Rattle.std.proofs.lemmas.Grind.{common_steps}
use Rattle.aes.specs.Words.{held}
use Rattle.aes.proofs.state.ArrayU816FromState.from.Goals as goal

pub returns : goal.returns
unfolding held
returns c =
    let laid : c.copy_from_slice.new.self ≡ held c.args.s =
    c.copy_from_slice.ensures.after ∙ c.as_flattened.ensures.value
    ∙ (λ i. c.to_le_bytes.ensures i ++ (c.to_le_bytes-2.ensures i ++ (c.to_le_bytes-3.ensures i ++ (c.to_le_bytes-4.ensures i ++ [])))) in
    grind (arith, common_steps, laid)
