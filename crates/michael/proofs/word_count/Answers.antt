use Rattle.std.proofs.Common.{ap, ◌∙◌, arith}
use Rattle.michael.specs.Michael.{word_count}
use Rattle.michael.proofs.Codes.{counted_words}
use Rattle.michael.proofs.word_count.Goals as goal

pub returns-clause-counts : goal.returns-clause-counts
returns-clause-counts c d s p m ld ls lm = counted_words d s p m ld ls ∙ ap word_count lm ∙ omega arith
