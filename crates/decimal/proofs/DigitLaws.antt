-- The laws of `digits_of` that everything else uses: one digit, one digit more (and so the last), induction by digits.
use Prim.Native.Nat.{ℕ, zero, suc, ◌+◌, ◌*◌, ◌/◌, ◌%◌, ◌<◌, ◌≤◌}
use mathlib.Core.Path.{◌≡◌, ap, sym, subst, ◌∙◌}
use mathlib.Core.List.{List, [], ◌∷◌, ◌++◌}
use native.Mathlib.Omega.{arith}
use lib.Dec.{ltb}
use borrow.Author.Tests.{lt-ltb, le-ltb, ltb-true, ltb-false}
use Rattle.choice.proofs.Picks.{split}
use Rattle.decimal.specs.Digits.{digits_from, digits_of}

digits-first : (k n : ℕ) → n < 10 → digits_from (suc k) n ≡ (48 + n) ∷ []
unfolding digits_from
digits-first k n h = rw (lt-ltb n 10 h)

digits_step : (k n : ℕ) → 10 ≤ n → digits_from (suc k) n ≡ digits_from k (n / 10) ++ ((48 + n % 10) ∷ [])
unfolding digits_from
digits_step k n h = rw (le-ltb n 10 h)

-- enough fuel is enough
digits-fuel : (k j n : ℕ) → n < k → n < j → digits_from k n ≡ digits_from j n
digits-fuel zero j n h g = absurd (omega arith)
digits-fuel (suc k) zero n h g = absurd (omega arith)
digits-fuel (suc k) (suc j) n h g =
    split (ltb n 10)
    (λ e. digits-first k n (ltb-true n 10 e) ∙ sym (digits-first j n (ltb-true n 10 e)))
    (λ e. let m : 10 ≤ n = ltb-false n 10 e in
    digits_step k n m ∙ ap (λ (ds : List ℕ). ds ++ ((48 + n % 10) ∷ [])) (digits-fuel k j (n / 10) (omega arith) (omega arith)) ∙ sym (digits_step j n m))

pub digits-one : (d : ℕ) → d < 10 → digits_of d ≡ (48 + d) ∷ []
unfolding digits_of
digits-one d h = digits-first d d h

pub digits_more : (v d : ℕ) → 0 < v → d < 10 → digits_of (10 * v + d) ≡ digits_of v ++ ((48 + d) ∷ [])
unfolding digits_of
digits_more v d p h =
    let q : (10 * v + d) / 10 ≡ v = omega arith in
    let m : (10 * v + d) % 10 ≡ d = omega arith in
    digits_step (10 * v + d) (10 * v + d) (omega arith)
    ∙ rw (q, m) (ap (λ (ds : List ℕ). ds ++ ((48 + d) ∷ [])) (digits-fuel (10 * v + d) (suc v) v (omega arith) (omega arith)))

module _ (P : ℕ → Type 0) (one : (d : ℕ) → d < 10 → P d) (more : (v d : ℕ) → 0 < v → d < 10 → P v → P (10 * v + d)) where
  below : (k n : ℕ) → n < k → P n
  below zero n h = absurd (omega arith)
  below (suc k) n h =
      split (ltb n 10)
      (λ e. one n (ltb-true n 10 e))
      (λ e. let m : 10 ≤ n = ltb-false n 10 e in
      let s : 10 * (n / 10) + n % 10 ≡ n = omega arith in
      subst P s (more (n / 10) (n % 10) (omega arith) (omega arith) (below k (n / 10) (omega arith))))

  pub digits-ind : (n : ℕ) → P n
  digits-ind n = below (suc n) n (omega arith)

-- the digits but the last, and the last
pub digits_last : (n : ℕ) → 10 ≤ n → digits_of n ≡ digits_of (n / 10) ++ ((48 + n % 10) ∷ [])
digits_last n h =
    let s : 10 * (n / 10) + n % 10 ≡ n = omega arith in
    ap digits_of (sym s) ∙ digits_more (n / 10) (n % 10) (omega arith) (omega arith)
