use Rattle.std.proofs.Common.{◌≡◌, ℕ, ◌+◌, ◌*◌, List, [], ◌∷◌, ap, ◌∙◌, arith}
use Rattle.octets.specs.Octets.{little, little_octets}
use Rattle.octets.proofs.Numbers.{octets_from_little}
use Rattle.rc4.specs.Rc4.{after, keystream}
use Rattle.rc4.proofs.Rc4.next_word.Goals as goal

-- octets put together are the little of their list
sum : (a b c d e f g h : ℕ) → a + b * 256 + c * 65536 + d * 16777216 + e * 4294967296 + f * 1099511627776 + g * 281474976710656 + h * 72057594037927936 ≡ little (a ∷ b ∷ c ∷ d ∷ e ∷ f ∷ g ∷ h ∷ [])
sum a b c d e f g h = omega arith

pub returns : goal.returns
returns c =
    let s = c.args.self.now in
    let ks : List ℕ =
    c.next-a.result ∷ c.next.result ∷ c.next-2.result ∷ c.next-3.result ∷ c.next-4.result ∷ c.next-5.result ∷ c.next-6.result ∷ c.next-7.result ∷ [] in
    let state : c.next-7.new.self ≡ after 8 s = cc in
    let stream : ks ≡ keystream s 8 = cc in
    record {
      state = state;
      value =
          ap (little_octets 8)
          (sum c.next-a.result c.next.result c.next-2.result c.next-3.result c.next-4.result c.next-5.result c.next-6.result c.next-7.result)
          ∙ octets_from_little ks (c.next-a.type_inv, (c.next.type_inv, (c.next-2.type_inv, (c.next-3.type_inv, (c.next-4.type_inv, (c.next-5.type_inv, (c.next-6.type_inv, (c.next-7.type_inv, tt))))))))
          ∙ stream;
    }
