use Rattle.ccm.proofs.Cipher.{under_whole}
use Rattle.ccm.proofs.Mode.new.Goals as goal

pub invariant_of-result : goal.invariant_of-result
invariant_of-result c =
    record {
      whole = under_whole c.expand.result c.args.key.now c.expand.ensures;
      few = c.requires;
      zero = c.numbered_word.ensures;
    }
