-- Choice by a test, and a test as a binary digit.
use Rattle.std.specs.Prelude.{ℕ, Bool, true, false}

-- `a` where the test is true, else `b`
abbrev pub pick : {A : Type 0} → Bool → A → A → A
pick true a b = a
pick false a b = b

-- 1 where the test is true, else 0
abbrev pub digit : Bool → ℕ
digit true = 1
digit false = 0
