use Rattle.std.proofs.Common.{◌≡◌, ◌+◌, ◌*◌, ◌∷◌, ◌++◌, length, refl, ap, ◌∙◌, rules}
use Rattle.octets.specs.Octets.{little_octets, written}
use Rattle.frame.specs.Headers.{header_octets, header_in}
use Rattle.frame.proofs.Reading.{laid_out, reads_back}
use Rattle.frame.proofs.headers.Header.octets.Goals as goal

pub returns : goal.returns
returns c =
    let h = c.args.self.now in
    let a1 = h.address1.octets in
    let a2 = h.address2.octets in
    let a3 = h.address3.octets in
    let l1 : length a1 ≡ 6 = search rules in
    let l2 : length a2 ≡ 6 = search rules in
    let l3 : length a3 ≡ 6 = search rules in
    let control = little_octets 2 (c.from.result * 16 + c.from-2.result) in
    let puts = c.put_number.ensures ∙ ap (written 22 control) (c.put-3.ensures ∙ ap (written 16 a3) (c.put-2.ensures ∙ ap (written 10 a2) c.put.ensures)) in
    let joined = laid_out c.flags.result a1 a2 a3 control l1 l2 l3 refl in
    let parts : 8 ∷ c.flags.result ∷ 0 ∷ 0 ∷ (a1 ++ (a2 ++ (a3 ++ control))) ≡ header_octets h = λ i. 8 ∷ c.flags.ensures i ∷ 0 ∷ 0 ∷ (a1 ++ (a2 ++ (a3 ++ little_octets 2 (c.from.ensures i * 16 + c.from-2.ensures i)))) in
    let value = puts ∙ joined ∙ parts in
    record { value = value; reads_back = ap header_in value ∙ reads_back h l1 l2 l3 c.requires.sequence c.requires.fragment }
