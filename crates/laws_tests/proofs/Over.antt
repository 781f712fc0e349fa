-- The run of one message, computed.
use Rattle.std.proofs.Common.{◌≡◌, ℕ, ◌<◌, ◌≤◌, Some, Option, refl, arith}
use Rattle.ends.specs.declared.roles.Role.TheVariants.{Base, Logger}
use Rattle.ends.specs.Installs.{judge_install, judge_remove}
use Rattle.ends.specs.Sends.{frames_by, judge_send}
use Rattle.ends.specs.Arrivals.{at_place, over_suite, judge_arrive}
use Rattle.laws.specs.Words.{Crossing}
use Rattle.laws_tests.specs.Run.{both_plain, address, peer, sending_end, hearing_end, reading, coming, GoesOver}

pub goes_over : GoesOver
unfolding judge_install judge_remove judge_send frames_by judge_arrive over_suite at_place
goes_over = record { sent = refl; told = refl; came = refl }

above : (counter : ℕ) (first : ℕ) → 1 ≤ first → ◌≡◌ {A = Option ℕ} (Some first) (Some counter) → 0 < counter
above counter first low is = let same : first ≡ counter = cc in omega arith

pub crosses : Crossing both_plain both_plain Base Logger (address 2) (address 4) sending_end (peer 5 4) hearing_end (peer 3 2) reading coming
unfolding judge_install judge_remove judge_send frames_by judge_arrive over_suite at_place
crosses =
    record {
      facing = record { suite_agrees = refl; key_agrees = refl; roles_differ = refl; addresses_fit = (refl, refl) };
      under = refl;
      count = 2;
      granted = refl;
      unaltered = refl;
      above = (λ c is. above c 1 (omega arith) is, (λ c is. above c 2 (omega arith) is, tt));
      undisturbed = (
        record { clock = omega arith; working = omega arith; message = omega arith; unblocked = refl },
        (
          record { lasts = record { not_removed = refl; not_blocked = refl }; untouched = refl },
          (record { clock = omega arith; working = omega arith; message = omega arith; unblocked = refl }, tt),
        ),
      );
    }
