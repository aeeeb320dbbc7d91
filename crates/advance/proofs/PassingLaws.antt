-- Steps taken at once.
use Prim.Native.Nat.{ℕ, ◌-◌, ◌<◌}
use mathlib.Core.Path.{◌≡◌, refl, sym, ◌∙◌}
use native.Mathlib.Omega.{arith}
use borrow.Author.Tests.{ne_eqb}
use Rattle.std.proofs.Common.{None, Some}
use Rattle.choice.specs.Times.{times}
use Rattle.choice.proofs.TimesLaws.{times-one, times-fixed, times-on, times-over}
use Rattle.advance.specs.Passing.{PassedOn, taken}

module _ {A : Type 0} (step : A → A) where
  -- in a loop: the step taken, or the steps, and those left are all
  pub stepped-on : (n : ℕ) (x y : A) → 0 < n → y ≡ step x → times step (n - 1) y ≡ times step n x
  stepped-on n x y h e = times-on step 1 n x (e ∙ sym (times-one step x)) (omega (arith, h))

  pub passed-on : (n k : ℕ) (x y : A) → PassedOn step x n k y → times step (n - k) y ≡ times step n x
  passed-on n k x y p = times-on step k n x p.steps p.few

-- what is taken at once: no steps, or some
pub none-taken : {A : Type 0} (y : A) {k : ℕ} → k ≡ 0 → None ≡ taken y k
none-taken y z = rw z refl

pub some-taken : {A : Type 0} (y : A) {k : ℕ} → (k ≡ 0 → ⊥) → Some (record { state = y; steps = k }) ≡ taken y k
some-taken y {k} z = rw (ne_eqb k 0 z) refl

-- what a hold rests on
pub ruleset holding = (times-fixed, stepped-on, passed-on, times-over)
