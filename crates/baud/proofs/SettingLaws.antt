-- A setting's S is the unit's.
use mathlib.Core.Path.{◌≡◌, refl}
use mathlib.Core.Bool.{Bool, true, false}
use Rattle.choice.specs.Pick.{pick, digit}
use Rattle.frame.specs.Format.{samples as unit_samples}
use Rattle.frame.specs.declared.format.Format.{Format}
use Rattle.planner.specs.Setting.{samples}

-- S is the unit's own
samples-by : (u2x : Bool) → samples (digit u2x) ≡ pick u2x 8 16
samples-by true = refl
samples-by false = refl

pub unit-samples : (f : Format) → samples (digit f.u2x) ≡ unit_samples f
unit-samples f = samples-by f.u2x
