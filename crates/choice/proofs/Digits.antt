-- A test as a binary digit.
use mathlib.Core.Bool.{Bool, true, false}
use mathlib.Core.Path.{◌≡◌, refl}
use Prim.Native.Nat.{ℕ, zero, suc, ◌%◌, ◌<◌, ◌≤◌}
use native.Mathlib.Nat.{mod-lt}
use native.Mathlib.Omega.{arith}
use lib.Dec.{eqb, lit≤}
use Rattle.choice.specs.Pick.{digit}

pub digit-le : (b : Bool) → digit b ≤ 1
digit-le true = lit≤ tt
digit-le false = lit≤ tt

-- the digit says which
pub digit-is : (b : Bool) → eqb (digit b) 1 ≡ b
digit-is true = refl
digit-is false = refl

-- and a digit is the digit of its test
pub digit-again : (n : ℕ) → n < 2 → digit (eqb n 1) ≡ n
digit-again zero h = refl
digit-again (suc zero) h = refl
digit-again (suc (suc n)) h = absurd (omega arith)

pub digit-odd : (n : ℕ) → digit (eqb (n % 2) 1) ≡ n % 2
digit-odd n = digit-again (n % 2) (mod-lt n (lit≤ tt))
