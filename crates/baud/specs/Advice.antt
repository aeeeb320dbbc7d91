-- Which speed to take, and why.
use Rattle.std.specs.Prelude.{ℕ, ◌*◌, Bool, true, false, leb, ltb, eqb}
use Rattle.choice.specs.Pick.{pick}
use Rattle.planner.specs.Setting.{distance}
use Rattle.baud.specs.declared.setting.Setting.{Setting}
use Rattle.baud.specs.declared.advice.Advice.{Advice}
use Rattle.baud.specs.declared.advice.Advice.TheVariants.{MoreLengths, SmallerError, Even, Neither}
use Rattle.baud.specs.Setting.{total_of}
use Rattle.baud.specs.Length.{lengths_within}

-- x has no larger absolute error than y: |clock/x − 1| ≤ |clock/y − 1|, both sides times x·y
abbrev pub is_no_worse : ℕ → ℕ → ℕ → Bool
is_no_worse clock x y = leb (distance clock x * y) (distance clock y * x)

-- the speed that is within the limit at more frame lengths; if equal, the one with the smaller absolute error; if still
-- equal, normal speed. Where neither is within it at any, neither
unfoldable pub decided : ℕ → ℕ → Bool → Bool → Advice
decided normal double normal_no_worse double_no_worse =
    pick (ltb double normal) (MoreLengths false)
    (pick (ltb normal double) (MoreLengths true)
    (pick (eqb normal 0) Neither
    (pick normal_no_worse (pick double_no_worse Even (SmallerError false)) (SmallerError true))))

unfoldable pub advice_of : ℕ → ℕ → Setting → Setting → Advice
advice_of clock rate normal double =
    decided (lengths_within clock rate normal) (lengths_within clock rate double)
    (is_no_worse clock (total_of normal rate) (total_of double rate))
    (is_no_worse clock (total_of double rate) (total_of normal rate))
