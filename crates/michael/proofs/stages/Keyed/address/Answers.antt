use Rattle.std.proofs.Common.{◌≡◌, length, ap, ◌∙◌, rules}
use Rattle.michael.specs.Michael.{ends_in}
use Rattle.michael.proofs.Codes.{ends_in-heading}
use Rattle.michael.proofs.stages.Keyed.address.Goals as goal

pub returns : goal.returns
returns c rest =
    let destination = c.args.heading.now.destination in
    let source = c.args.heading.now.source in
    let ld : length destination.octets ≡ 6 = search rules in
    let ls : length source.octets ≡ 6 = search rules in
    c.over.ensures rest
    ∙ ap (λ s. ends_in s rest) c.take_words.ensures
    ∙ ends_in-heading c.args.self.state destination source c.args.heading.now.priority rest ld ls
