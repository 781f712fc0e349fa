use Rattle.std.proofs.Common.{◌≡◌, length, sym, ap, ◌∙◌}
use Rattle.octets.specs.Octets.{little_octets, xored}
use Rattle.octets.proofs.Writing.{spelled}
use Rattle.rc4.specs.Rc4.{keystream}
use Rattle.rc4.proofs.Rc4.apply_eight.Goals as goal

pub returns : goal.returns
returns c =
    let xs = c.args.octets.now in
    let s = c.args.self.now in
    let eight : length xs ≡ 8 = c.requires in
    record {
      octets =
          c.copy_from_slice.ensures.after ∙ c.exclusive_or.ensures ∙ ap (λ l. xored l (little_octets 8 c.next_word-mask.result)) (sym (spelled 8 xs eight))
          ∙ ap (xored xs) c.next_word-mask.ensures.value ∙ ap (λ n. xored xs (keystream s n)) (sym eight);
      state = c.next_word-mask.ensures.state;
    }
