use Rattle.laws_tests.proofs.Over.{goes_over, crosses}
use Rattle.laws_tests.proofs.run.a_message_goes_over.Goals as goal

pub returns : goal.returns
returns c = record { goes_over = goes_over; crosses = crosses }
