-- The rule of the two tables: D + 1 bits of the rate error are at most 0.18 of a bit. It is computed once over each
-- table.
use Prim.Native.Nat.{ℕ, zero, suc, ◌+◌, ◌-◌, ◌*◌, ◌≤◌, ◌<◌}
use mathlib.Core.Bool.{Bool, true, false}
use mathlib.Core.List.{List, [], ◌∷◌}
use mathlib.Core.Path.{◌≡◌, refl, subst}
use native.Mathlib.Omega.{arith}
use lib.Dec.{leb}
use lib.ListN.{get_or, length}
use borrow.Author.Tests.{leb-true}
use Rattle.choice.specs.Pick.{pick}
use Rattle.choice.proofs.Picks.{both}
use Rattle.usart.specs.Limit.{rate_limits, limit}

-- the test of a table whose first entry is for D
abbrev small : ℕ → List ℕ → Bool
small D [] = true
small D (r ∷ rs) = pick (leb ((D + 1) * r) 180) (small (suc D) rs) false

entry : (D : ℕ) (rs : List ℕ) (i : ℕ) → small D rs ≡ true → i < length rs → (D + i + 1) * get_or rs i 0 ≤ 180
entry D [] i e h = absurd (omega arith)
entry D (r ∷ rs) zero e h = omega (arith, leb-true ((D + 1) * r) 180 (both (leb ((D + 1) * r) 180) (small (suc D) rs) e).0)
entry D (r ∷ rs) (suc i) e h =
    subst (λ (n : ℕ). (n + 1) * get_or rs i 0 ≤ 180) (omega arith) (entry (suc D) rs i (both (leb ((D + 1) * r) 180) (small (suc D) rs) e).1 (omega arith))

pub limit-small : (u2x : Bool) (D : ℕ) → 5 ≤ D → D ≤ 10 → (D + 1) * limit u2x D ≤ 180
limit-small u2x D lo hi = subst (λ (d : ℕ). (d + 1) * limit u2x D ≤ 180) (omega arith) (by u2x)
  where
    by : (t : Bool) → (5 + (D - 5) + 1) * limit t D ≤ 180
    by true = entry 5 (rate_limits true) (D - 5) refl (omega arith)
    by false = entry 5 (rate_limits false) (D - 5) refl (omega arith)
