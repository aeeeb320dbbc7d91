-- Steps in a row.
use Prim.Native.Nat.{ℕ, zero, suc, ◌+◌, ◌-◌, ◌≤◌}
use mathlib.Core.Path.{◌≡◌, refl, ap, sym, ◌∙◌}
use native.Mathlib.Omega.{arith}
use Rattle.choice.specs.Times.{times}

module _ {A : Type 0} (step : A → A) where
  -- no steps, and one more before the others
  pub times_none : (x : A) → times step 0 x ≡ x
  unfolding times
  times_none x = refl

  pub times_more : (n : ℕ) (x : A) → times step (suc n) x ≡ times step n (step x)
  unfolding times
  times_more n x = refl

  pub times-one : (x : A) → times step 1 x ≡ step x
  unfolding times
  times-one x = refl

  -- n steps, then m
  pub times-add : (n m : ℕ) (x : A) → times step (n + m) x ≡ times step m (times step n x)
  unfolding times
  times-add zero m x = let e : 0 + m ≡ m = omega arith in rw e
  times-add (suc n) m x = let e : suc n + m ≡ suc (n + m) = omega arith in rw e (times-add n m (step x))

  -- where a step changes nothing, none does
  pub times-fixed : (n : ℕ) (x : A) → step x ≡ x → times step n x ≡ x
  unfolding times
  times-fixed zero x e = refl
  times-fixed (suc n) x e = ap (times step n) e ∙ times-fixed n x e

  -- in a loop: k of n steps are taken, and the others are left
  pub times-on : (k n : ℕ) (x : A) {y : A} → y ≡ times step k x → k ≤ n → times step (n - k) y ≡ times step n x
  times-on k n x e h =
      let all : k + (n - k) ≡ n = omega arith in
      ap (times step (n - k)) e ∙ sym (times-add k (n - k) x) ∙ ap (λ (m : ℕ). times step m x) all

  -- none are left
  pub times-over : (n : ℕ) (x : A) → n ≡ 0 → x ≡ times step n x
  times-over n x e = sym (times_none x) ∙ ap (λ (m : ℕ). times step m x) (sym e)

-- the steps of a whole whose one part is stepped, and the others stay, are those of the part
module _ {A B : Type 0} (step : A → A) (all : B → B) (of : A → B) (same : (x : A) → all (of x) ≡ of (step x)) where
  pub times-part : (n : ℕ) (x : A) → times all n (of x) ≡ of (times step n x)
  unfolding times
  times-part zero x = refl
  times-part (suc n) x = ap (times all n) (same x) ∙ times-part n (step x)
