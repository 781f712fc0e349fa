-- What holds of the numbers of an arrival that is admitted.
use Rattle.std.specs.Prelude.{ℕ, ◌≤◌}
use Rattle.frame.specs.Headers.{header_length}
use Rattle.ends.specs.Checks.{last_time}

-- clock, and the lengths of frame, working memory and message memory
pub record InRange (time frame working message : ℕ) : Type 0 where
  pub clock : time ≤ last_time
  pub least : header_length ≤ frame
  pub most : frame ≤ 2352
  pub room : 2560 ≤ working
  pub memory : 2304 ≤ message
