use Rattle.std.proofs.Common.{◌≡◌, sym, ◌∙◌, rules}
use Rattle.mixing.specs.Mixing.{rc4_key}
use Rattle.mixing.proofs.Keys.{length-rc4_key, AreOctets-rc4_key, rc4_key_part}
use Rattle.mixing.proofs.rc4_key.Goals as goal

pub returns : goal.returns
unfolding rc4_key
returns c =
    let key = c.args.key.now in
    let transmitter = c.args.transmitter.now in
    let counter = c.args.counter in
    let value : c.rc4_key.result ≡ rc4_key key transmitter counter = search rules in
    record {
      value = value;
      size = length-rc4_key key transmitter counter;
      octets = AreOctets-rc4_key key transmitter counter;
      temporal = value ∙ sym (rc4_key_part key transmitter counter);
    }
