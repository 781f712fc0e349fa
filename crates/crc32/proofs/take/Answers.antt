use Rattle.std.proofs.Common.{◌/◌, ◌<◌, ap, ◌∙◌, rules}
use lib.Bits.{bit_xor, and_mask}
use Rattle.crc32.specs.Crc32.{steps}
use Rattle.crc32.proofs.Division.{one-octet}
use Rattle.crc32.proofs.take.Goals as goal

pub returns : goal.returns
returns c =
    let b : c.args.octet < 256 = search rules in
    let x = bit_xor c.args.c c.args.octet in
    ap (λ e. bit_xor e (c.args.c / 256)) (c.entry.ensures ∙ ap (steps 8) (and_mask x 8)) ∙ one-octet c.args.c c.args.octet b
