use Rattle.std.proofs.Common.{◌+◌, ◌%◌, ◌<◌, length, get_or, sym, refl, ap, ◌∙◌, rules}
use Rattle.rc4.specs.Rc4.{swapped, next_i, next_j, stepped, output}
use Rattle.rc4.proofs.Tables.{swapped_at_i, swapped_at_j}
use Rattle.rc4.proofs.Rc4.next.Goals as goal

pub returns : goal.returns
unfolding stepped output
returns c =
    let g = c.args.self.now in
    let p : next_i g < length g.table = search rules in
    let q : next_j g < length g.table = search rules in
    let s = swapped g.table (next_i g) (next_j g) in
    let a = swapped_at_i g.table (next_i g) (next_j g) p q in
    let b = swapped_at_j g.table (next_i g) (next_j g) p q in
    record {
      state = refl;
      value = sym (ap (λ n. get_or s ((n + get_or s (next_j g) 0) % 256) 0) a ∙ ap (λ n. get_or s ((get_or g.table (next_j g) 0 + n) % 256) 0) b);
    }
