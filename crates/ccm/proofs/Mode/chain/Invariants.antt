use Rattle.std.proofs.Common.{◌≡◌, map}
use Rattle.std.specs.List.{range_with_len}
use Rattle.aes.specs.Words.{octets}
use Rattle.ccm.specs.Ccm.{block_of, chained}
use Rattle.ccm.specs.Inner.{under}
use Rattle.ccm.proofs.Mode.chain.Given as goal

abbrev pub invariant-loop-block : goal.invariant-loop-block
invariant-loop-block l =
    octets l.mac ≡ chained (under l.self.cipher) (octets l.start) (map (block_of l.octets) (range_with_len 0 l.block-index))
