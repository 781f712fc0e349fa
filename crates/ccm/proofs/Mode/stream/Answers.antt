use Rattle.std.proofs.Common.{ap, ◌∙◌, arith}
use Rattle.ccm.specs.Inner.{under}
use Rattle.ccm.proofs.Words.{counted}
use Rattle.ccm.proofs.Mode.stream.Goals as goal

pub returns : goal.returns
returns c =
    let mode = c.args.self.now in
    c.encrypt_word.ensures
    ∙ ap (under mode.cipher) (counted mode.nonce.now mode.base c.args.i c.from.result mode.zero (omega arith) (c.from.ensures ∙ c.swap_bytes.ensures))
