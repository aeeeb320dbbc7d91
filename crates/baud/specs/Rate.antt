-- The rate that a setting really gives: clock/d baud, d being its clocks a bit.
use Rattle.std.specs.Prelude.{ℕ, ◌+◌, ◌*◌, ◌/◌, ◌≤◌}
use Rattle.planner.specs.Setting.{distance}

-- r thousandths are within half a thousandth of it: |r − 1000·clock/d| ≤ 1/2, both sides times 2·d
abbrev pub Within : ℕ → ℕ → ℕ → Type 0
Within clock d r = 2 * distance (r * d) (1000 * clock) ≤ d

-- the nearest, halves upwards
pub record Nearest (clock d r : ℕ) : Type 0 where
  pub within : Within clock d r
  pub upwards : (other : ℕ) → Within clock d other → other ≤ r

-- .. computed
abbrev pub thousandths : ℕ → ℕ → ℕ
thousandths clock d = (2000 * clock + d) / (2 * d)
