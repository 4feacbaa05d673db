-- What holds of the reports that a window keeps.
use Rattle.std.specs.Prelude.{ℕ, ◌≤◌, All, IsTrue, length}
use Rattle.measurements.specs.Reports.{Reports, is_valid}

-- each is valid, and there are no more of them than count; of these there are 1 to 32
pub record IsKept (w : Reports) : Type 0 where
  pub valid : All (λ r. IsTrue (is_valid r)) w.reports
  pub few : length w.reports ≤ w.width
  pub some : 1 ≤ w.width
  pub most : w.width ≤ 32
