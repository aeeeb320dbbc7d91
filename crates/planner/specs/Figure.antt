-- The error in signed tenths of a percent (document 02, M-104).
use Rattle.std.specs.Prelude.{ℕ, suc, ◌+◌, ◌*◌, ◌/◌, ◌≤◌, ℤ, pos, negsuc, neg_ℤ, nat_abs, ◌-ℤ◌, ◌*ℤ◌}
use Rattle.planner.specs.Setting.{distance}

-- 'the shown figure lies within half a tenth of the exact one': |e − 1000·(clock/T − 1)| ≤ 1/2, both sides times 2·T,
-- and each term on the side where it is positive
abbrev pub Within : ℕ → ℕ → ℤ → Type 0
Within clock T (pos n) = 2 * distance (n * T + 1000 * T) (1000 * clock) ≤ T
Within clock T (negsuc n) = 2 * distance (1000 * T) (suc n * T + 1000 * clock) ≤ T

-- 'nearest, halves away from zero': of two figures within half a tenth it is the one away from zero
pub record Nearest (clock T : ℕ) (e : ℤ) : Type 0 where
  pub within : Within clock T e
  pub away : (f : ℤ) → Within clock T f → nat_abs f ≤ nat_abs e

-- x/whole, its fraction dropped, half being added first on the side away from zero: where half is half the whole this
-- is the nearest, halves away from zero
abbrev pub quotient : ℤ → ℕ → ℕ → ℤ
quotient (pos a) half whole = pos ((a + half) / whole)
quotient (negsuc a) half whole = neg_ℤ (pos ((suc a + half) / whole))

-- 1000·(clock − T)/T, rounded so; both are doubled, so that half of T is whole
abbrev pub tenths_at : ℕ → ℕ → ℤ
tenths_at clock T = quotient ((pos clock -ℤ pos T) *ℤ pos 2000) T (2 * T)
