-- The size of a signed number, and of a difference by its sign.
use mathlib.Core.Path.{◌≡◌, refl, ap}
use Prim.Native.Nat.{ℕ, zero, suc, ◌-◌, ◌≤◌, ◌<◌}
use native.Mathlib.Omega.{arith}
use borrow.Author.Tests.{lt-ltb, le-ltb}
use lib.IntN.{pos, negsuc, neg_ℤ, ◌-ℤ◌}
use lib.Signed.{mag}

pub mag-neg : (n : ℕ) → mag (neg_ℤ (pos n)) ≤ n
mag-neg zero = omega arith
mag-neg (suc n) = omega arith

-- clock − t, by its sign
pub diff-pos : (c t : ℕ) → t ≤ c → pos c -ℤ pos t ≡ pos (c - t)
diff-pos c zero h = ap pos (omega arith)
diff-pos c (suc t) h = rw (le-ltb c (suc t) h) refl

pub diff-neg : (c t : ℕ) → c < t → pos c -ℤ pos t ≡ negsuc (t - suc c)
diff-neg c zero h = absurd (omega arith)
diff-neg c (suc t) h = rw (lt-ltb c (suc t) h) refl
