use Rattle.std.proofs.Common.{◌<◌, length, ◌∙◌, rules}
use Rattle.aes.specs.Words.{round_keys}
use Rattle.aes.proofs.Rounds.{key_at}
use Rattle.aes.proofs.Aes128.round_key.Goals as goal

pub returns : goal.returns
unfolding round_keys
returns c =
    let ks = c.args.self.now.keys in
    let within : c.args.n < length ks = search rules in
    c.into.ensures ∙ key_at ks c.args.n _ within
