use Rattle.std.proofs.Common.{◌<◌, rules}
use Rattle.sbox.specs.Field.{xtime, thrice, times, product, power, inverse, turned, affine, sub}
use Rattle.aes.specs.Words.{mixes}
use Rattle.aes.proofs.Rules.{right, mixed_rule}
use Rattle.aes.proofs.ttable.MixingGiving.give.Goals as goal

pub returns : goal.returns
unfolding right mixes xtime thrice times product power inverse turned affine sub
returns c =
    let octet : c.args.x < 256 = search rules in
    search (rules, mixed_rule)
