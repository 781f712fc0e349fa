use Rattle.std.proofs.Common.{◌*◌, ◌/◌, ◌++◌, map, drop, length, sym, ap, ◌∙◌, arith}
use Rattle.std.specs.Int.{w32, from_le_bytes}
use Rattle.michael.specs.Michael.{chain, ends_in}
use Rattle.michael.specs.Stages.{held}
use Rattle.michael.proofs.Codes.{ends_in_chunked}
use Rattle.michael.proofs.stages.Addressed.many.Goals as goal

-- whole words are taken at once, and the octets after them one by one
pub returns-in-Nothing : goal.returns-in-Nothing
returns-in-Nothing c rest =
    let state = c.args.self.state in
    let octets = c.args.octets.now in
    let words = c.as_chunks.result.0.now in
    c.few.ensures rest
    ∙ c.over.ensures (c.as_chunks.result.1.now ++ rest)
    ∙ ap (λ s. ends_in s (c.as_chunks.result.1.now ++ rest)) c.take_words.ensures
    ∙ ap (λ ragged. ends_in (chain state (map (from_le_bytes w32) words)) (ragged ++ rest)) c.as_chunks.ensures.back
    ∙ ap (λ chunks. ends_in (chain state (map (from_le_bytes w32) chunks)) (drop (length octets / 4 * 4) octets ++ rest)) c.as_chunks.ensures.front
    ∙ ends_in_chunked state (length octets / 4) octets rest (omega arith)
    ∙ sym (ap (λ w. ends_in state (held w ++ (octets ++ rest))) c.in-Nothing.is)
