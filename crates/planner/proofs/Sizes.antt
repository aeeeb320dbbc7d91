-- How large the numbers are that the code makes, so that each fits its width.
use mathlib.Core.Path.{◌≡◌}
use mathlib.Core.Bool.{true}
use Prim.Native.Nat.{ℕ, ◌*◌, ◌≤◌}
use native.Mathlib.Nat.{mul-le-mul}
use native.Mathlib.Omega.{arith}
use lib.Dec.{eqb, leb}
use borrow.Author.Tests.{leb-true}
use Rattle.choice.proofs.Picks.{both, pick_ind}
use Rattle.planner.specs.Setting.{samples, total}
use Rattle.planner.specs.Planning.{is_in_range}

-- a clock and a rate in range, and S
pub record Sizes (clock S rate : ℕ) : Type 0 where
  pub clock-least : 1 ≤ clock
  pub clock-most : clock ≤ 20000000
  pub S-least : 1 ≤ S
  pub S-most : S ≤ 16
  pub rate-least : 1 ≤ rate
  pub rate-most : rate ≤ 2500000

pub samples-range : (u2x : ℕ) → (8 ≤ samples u2x) × (samples u2x ≤ 16)
samples-range u2x = pick_ind (λ (S : ℕ). (8 ≤ S) × (S ≤ 16)) (eqb u2x 0) 16 8 (λ _. omega arith) (λ _. omega arith)

pub in-range : (clock rate u2x : ℕ) → is_in_range clock rate ≡ true → Sizes clock (samples u2x) rate
in-range clock rate u2x h =
    let a = both (leb 1 clock) _ h in
    let b = both (leb clock 20000000) _ a.1 in
    let d = both (leb 1 rate) _ b.1 in
    let s = samples-range u2x in
    record {
      clock-least = leb-true 1 clock a.0;
      clock-most = leb-true clock 20000000 b.0;
      S-least = omega (arith, s.0);
      S-most = s.1;
      rate-least = leb-true 1 rate d.0;
      rate-most = leb-true rate 2500000 d.1;
    }

-- S·rate
pub step-least : {S rate : ℕ} → 1 ≤ S → 1 ≤ rate → 1 ≤ S * rate
step-least h k = mul-le-mul h k

-- T
pub total-least : {S rate : ℕ} (u : ℕ) → 1 ≤ S → 1 ≤ rate → 1 ≤ total S rate u
total-least u h r = mul-le-mul {n₁ = 1} {m₁ = 1} (mul-le-mul {n₁ = 1} {m₁ = 1} h (omega arith)) r
