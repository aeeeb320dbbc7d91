-- Steps that come to rest: each, but where it changes nothing, comes nearer to there.
use Prim.Native.Nat.{ℕ, zero, suc, ◌-◌, ◌≤◌, ◌<◌}
use mathlib.Core.Bool.{Bool, true, false}
use mathlib.Core.Path.{◌≡◌, refl, sym, ap, ◌∙◌}
use native.Mathlib.Omega.{arith}
use Rattle.choice.specs.Times.{times}
use Rattle.choice.proofs.Picks.{split}
use Rattle.choice.proofs.TimesLaws.{times_none, times_more, times-fixed, times-on}

-- `Fine` is kept, a step at rest changes nothing, and any other brings what is fine nearer
pub record Settling {A : Type 0} (step : A → A) (Fine : A → Type 0) (rests : A → Bool) (far : A → ℕ) : Type 0 where
  pub keeps : (x : A) → Fine x → Fine (step x)
  pub stays : (x : A) → rests x ≡ true → step x ≡ x
  pub nears : (x : A) → Fine x → rests x ≡ false → far (step x) < far x

-- what is at rest after k steps is so after more
module _ {A : Type 0} (step : A → A) (rests : A → Bool) (stays : (x : A) → rests x ≡ true → step x ≡ x) where
  pub rests-on : (k n : ℕ) (x : A) → k ≤ n → rests (times step k x) ≡ true → rests (times step n x) ≡ true
  rests-on k n x h r =
      ap rests (sym (times-on step k n x refl h) ∙ times-fixed step (n - k) (times step k x) (stays (times step k x) r)) ∙ r

module _ {A : Type 0} (step : A → A) {Fine : A → Type 0} (rests : A → Bool) {far : A → ℕ} (w : Settling step Fine rests far) where
  -- after as many steps as it is far, or more, it is at rest
  pub settles : (n : ℕ) (x : A) → Fine x → far x ≤ n → rests (times step n x) ≡ true
  settles zero x v h =
      split (rests x) (λ r. ap rests (times_none step x) ∙ r)
      (λ r. absurd (omega (arith, h, w.nears x v r)))
  settles (suc n) x v h =
      split (rests x) (λ r. ap rests (times-fixed step (suc n) x (w.stays x r)) ∙ r)
      (λ r. ap rests (times_more step n x) ∙ settles n (step x) (w.keeps x v) (omega (arith, h, w.nears x v r)))
