-- Errors compared without the rate, which is a factor of both sides.
use mathlib.Core.Path.{◌≡◌, sym, ◌∙◌}
use mathlib.Core.Bool.{true}
use mathlib.Core.Logic.{◌↔◌}
use Prim.Native.Nat.{ℕ, ◌*◌, ◌≤◌}
use native.Mathlib.Nat.{mul-le-mul_right, mul-lt-mul_of_pos_right}
use native.Mathlib.Omega.{arith}
use borrow.Author.Tests.{leb-true, leb-false, le-leb, lt-leb}
use lib.Dec.{leb}
use Rattle.choice.proofs.Picks.{split}
use Rattle.planner.specs.Setting.{NoWorse}
use Rattle.baud.specs.Advice.{is_no_worse}

-- the test is the planner's comparison
pub no-worse-exactly : (clock x y : ℕ) → (is_no_worse clock x y ≡ true) ↔ NoWorse clock x y
no-worse-exactly clock x y = ((λ h. leb-true _ _ h), (λ h. le-leb _ _ h))

-- the rate cancels
pub cancel : (r a b m n : ℕ) → 1 ≤ r → leb (a * (m * r)) (b * (n * r)) ≡ leb (a * m) (b * n)
cancel r a b m n h =
    split (leb (a * m) (b * n))
    (λ e. let l = mul-le-mul_right r (leb-true (a * m) (b * n) e) in
    le-leb (a * (m * r)) (b * (n * r)) (omega arith) ∙ sym e)
    (λ e. let l = mul-lt-mul_of_pos_right (leb-false (a * m) (b * n) e) h in
    lt-leb (a * (m * r)) (b * (n * r)) (omega arith) ∙ sym e)
