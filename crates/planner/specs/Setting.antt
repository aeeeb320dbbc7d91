-- A baud setting and its error (document 02, M-104). Errors are compared by products: nothing is divided or rounded.
use Rattle.std.specs.Prelude.{ℕ, ◌+◌, ◌-◌, ◌*◌, ◌≤◌, eqb}
use Rattle.choice.specs.Pick.{pick}

-- S: 16 samples a bit, 8 at double speed. U2X is a byte here: 0 is normal speed, any other is double
abbrev pub samples : ℕ → ℕ
samples u2x = pick (eqb u2x 0) 16 8

-- clocks a bit
abbrev pub divisor : ℕ → ℕ → ℕ
divisor S ubrr = S * (ubrr + 1)

-- 'Let T = S·(UBRR+1)·rate; the error is clock/T − 1'
abbrev pub total : ℕ → ℕ → ℕ → ℕ
total S rate ubrr = divisor S ubrr * rate

-- |a − b|: one of the two differences is 0
abbrev pub distance : ℕ → ℕ → ℕ
distance a b = (a - b) + (b - a)

-- |clock/x − 1| ≤ |clock/y − 1|, both sides times x·y
abbrev pub NoWorse : ℕ → ℕ → ℕ → Type 0
NoWorse clock x y = distance clock x * y ≤ distance clock y * x

-- 'yes exactly when UBRR is at most 4,095 and no other such UBRR at that speed has a smaller absolute error'
pub record Best (clock S rate ubrr : ℕ) : Type 0 where
  pub fits : ubrr ≤ 4095
  pub least : (other : ℕ) → other ≤ 4095 → NoWorse clock (total S rate ubrr) (total S rate other)

-- 'The planner gives one that is accepted for each speed, the larger UBRR on a tie'
pub record Chosen (clock S rate ubrr : ℕ) : Type 0 where
  pub best : Best clock S rate ubrr
  pub largest : (other : ℕ) → Best clock S rate other → other ≤ ubrr
