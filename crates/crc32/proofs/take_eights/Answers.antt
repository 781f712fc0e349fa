use Rattle.std.proofs.Common.{◌≡◌, ◌∙◌, rules}
use Rattle.std.specs.List.{fold}
use Rattle.crc32.specs.Crc32.{remainder}
use Rattle.crc32.proofs.Octets.{remainder_joined}
use Rattle.crc32.proofs.take_eights.Goals as goal

pub returns : goal.returns
returns c =
    let each : c.fold.result ≡ fold remainder c.args.start c.args.eights.now = search rules in
    each ∙ remainder_joined c.args.start c.args.eights.now
