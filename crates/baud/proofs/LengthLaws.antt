-- The test of the limit is document 01's.
use mathlib.Core.Path.{◌≡◌}
use mathlib.Core.Bool.{true}
use mathlib.Core.Logic.{◌↔◌}
use Prim.Native.Nat.{ℕ}
use native.Mathlib.Omega.{arith}
use borrow.Author.Tests.{leb-true, leb-false}
use Rattle.choice.proofs.Picks.{split}
use Rattle.usart.specs.Limit.{limit, Within}
use Rattle.baud.specs.declared.setting.Setting.{Setting}
use Rattle.baud.specs.Setting.{total_of}
use Rattle.baud.specs.Length.{is_within, is_within_at}

exactly : (r N P : ℕ) → (is_within r N P ≡ true) ↔ Within r N P
exactly r N P = (
  (λ h. omega (arith, leb-true)),
  (λ w. split (is_within r N P) (λ y. y) (λ n. absurd (omega (arith, leb-false, w.0, w.1)))),
)

pub within-exactly : (clock rate : ℕ) (s : Setting) (D : ℕ)
    → (is_within_at clock rate s D ≡ true) ↔ Within (limit s.u2x D) (total_of s rate) clock
unfolding is_within_at
within-exactly clock rate s D = exactly (limit s.u2x D) (total_of s rate) clock
