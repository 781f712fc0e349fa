use Rattle.std.proofs.Common.{ℕ, ◌*◌, ◌/◌, length, drop, sym, ap, ◌∙◌}
use lib.Bits.{bit_xor}
use Rattle.std.specs.Simd.{first_chunks}
use Rattle.std.specs.List.{flat_map}
use Rattle.crc32.specs.Crc32.{remainder}
use Rattle.crc32.proofs.Octets.{remainder-append, pieces_whole}
use Rattle.crc32.proofs.checksum.Goals as goal

pub returns : goal.returns
returns c =
    let xs = c.args.octets.now in
    let k = length xs / 8 in
    let start : ℕ = 0xFFFF_FFFF in
    let cut = c.as_chunks.ensures in
    ap (λ x. bit_xor x 0xFFFF_FFFF)
    (c.take_octets.ensures ∙ ap (λ x. remainder x c.as_chunks.result.1.now) c.take_eights.ensures
    ∙ ap (λ es. remainder (remainder start (flat_map (λ e. e) es)) c.as_chunks.result.1.now) cut.front
    ∙ ap (remainder (remainder start (flat_map (λ e. e) (first_chunks 8 k xs)))) cut.back
    ∙ sym (remainder-append start (flat_map (λ e. e) (first_chunks 8 k xs)) (drop (k * 8) xs)) ∙ ap (remainder start) (pieces_whole 8 k xs))
