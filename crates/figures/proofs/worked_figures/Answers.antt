use Rattle.std.proofs.Common.{◌++◌, refl, ap, ◌∙◌, arith}
use Rattle.michael.specs.Michael.{word_count, heading}
use Rattle.michael.proofs.Codes.{counted_words, length-michael}
use Rattle.tkip.specs.Tkip.{tkip, code_key}
use Rattle.tkip.specs.Lawful.{seal_length}
use Rattle.ccmp.specs.Ccmp.{ccmp}
use Rattle.ccmp.specs.Laws.{length_sealed}
use Rattle.ends.specs.Installs.{judge_install}
use Rattle.ends.specs.Sends.{judge_send, frames_by}
use Rattle.figures.proofs.Frames.{index_of_100_at_64}
use Rattle.figures.proofs.worked_figures.Goals as goal

pub returns : goal.returns
unfolding judge_install judge_send frames_by
returns c =
    record {
      exchange = refl;
      rotation = refl;
      three_octets = λ d s p m one two three. counted_words d s p m one two ∙ ap word_count three;
      four_octets = λ d s p m one two four. counted_words d s p m one two ∙ ap word_count four;
      tkip_head = refl;
      ccmp_head = refl;
      within_a_minute = λ suites role own. refl;
      a_minute_apart = λ suites role own. refl;
      clock_stepped_back = λ suites role own. refl;
      tkip_index = index_of_100_at_64 tkip (λ key direction destination source priority message. length-michael (code_key direction key) (heading destination source priority ++ message)) seal_length 100 80 (omega arith) refl refl refl;
      ccmp_index = index_of_100_at_64 ccmp (λ key direction destination source priority message. refl) length_sealed 104 76 (omega arith) refl refl refl;
      sixteen_pieces = refl;
      seventeen_pieces = refl;
      its_number = refl;
    }
