use Rattle.std.proofs.Common.{◌<◌, rules}
use Rattle.crc32.specs.Crc32.{steps}
use Rattle.crc32.proofs.Table.{rule}
use Rattle.crc32.proofs.tables.entry.Goals as goal

pub returns : goal.returns
unfolding steps
returns c =
    let rank : c.args.rank < 8 = c.requires in
    let octet : c.args.octet < 256 = search rules in
    search (rules, rule)
