use Rattle.std.proofs.Common.{take, ap, ◌∙◌}
use Rattle.octets.specs.Octets.{part, xored}
use Rattle.aes.specs.Words.{octets}
use Rattle.aes.proofs.Quads.{octets-xor}
use Rattle.ccm.proofs.Mode.tail.Goals as goal

pub returns : goal.returns
returns c =
    c.array_at.ensures ∙ ap (part 0 8) c.store.ensures
    ∙ ap (take 8) (octets-xor c.args.mac c.stream.result ∙ ap (xored (octets c.args.mac)) c.stream.ensures)
