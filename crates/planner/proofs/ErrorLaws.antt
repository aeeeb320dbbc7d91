-- The absolute error |clock/T − 1| over T, compared without division: of two T's x < y the first is no worse exactly
-- when clock·(x + y) ≤ 2·x·y, that is when clock/x − 1 and clock/y − 1 have a sum that is not above 0.
use mathlib.Core.Path.{◌≡◌, ap}
use Prim.Native.Nat.{ℕ, ◌+◌, ◌*◌, ◌≤◌, ◌<◌}
use native.Mathlib.Nat.{mul-le-mul_left, mul-le-mul_right, mul-lt-mul_of_pos_left, mul-lt-mul_of_pos_right, le_of_mul-le-mul_left}
use native.Mathlib.Omega.{arith}
use native.Mathlib.Decide.{dec_le}
use Rattle.planner.specs.Setting.{distance}

-- P and Q stand in the same order as A and B
pub record Alike (P Q A B : ℕ) : Type 0 where
  pub le : P ≤ Q → A ≤ B
  pub le' : A ≤ B → P ≤ Q
  pub ge : Q ≤ P → B ≤ A
  pub ge' : B ≤ A → Q ≤ P

less : {P Q A B : ℕ} → P < Q → A < B → Alike P Q A B
less h k = omega arith

even : {P Q A B : ℕ} → P + B ≡ Q + A → Alike P Q A B
even e = omega arith

more : {P Q A B : ℕ} → Q < P → B < A → Alike P Q A B
more h k = omega arith

module _ (c x y : ℕ) (c1 : 1 ≤ c) (x1 : 1 ≤ x) (xy : x < y) where
  -- clock ≤ x
  above : (p q : ℕ) → p + c ≡ x → q + c ≡ y → Alike (p * y) (q * x) (c * (x + y)) (2 * (x * y))
  above p q e f =
      let a = ap (λ n. n * y) e in
      let b = ap (λ n. n * x) f in
      let d = mul-lt-mul_of_pos_left xy c1 in
      let g = mul-lt-mul_of_pos_left xy x1 in
      let h : c * x ≤ x * x = mul-le-mul_right x (omega arith) in
      let i : c * y ≤ x * y = mul-le-mul_right y (omega arith) in
      less (omega arith) (omega arith)

  -- x ≤ clock ≤ y
  between : (p q : ℕ) → p + x ≡ c → q + c ≡ y → Alike (p * y) (q * x) (c * (x + y)) (2 * (x * y))
  between p q e f =
      let a = ap (λ n. n * y) e in
      let b = ap (λ n. n * x) f in
      even (omega arith)

  -- y ≤ clock
  below : (p q : ℕ) → p + x ≡ c → q + y ≡ c → Alike (p * y) (q * x) (c * (x + y)) (2 * (x * y))
  below p q e f =
      let a = ap (λ n. n * y) e in
      let b = ap (λ n. n * x) f in
      let d = mul-lt-mul_of_pos_left xy c1 in
      let y1 : 1 ≤ y = omega arith in
      let g : x * y < y * y = mul-lt-mul_of_pos_right xy y1 in
      let h : x * y ≤ x * c = mul-le-mul_left x (omega arith) in
      let i : y * y ≤ c * y = mul-le-mul_right y (omega arith) in
      more (omega arith) (omega arith)

  -- the law: lower and higher neighbour in one
  pub pair : Alike (distance c x * y) (distance c y * x) (c * (x + y)) (2 * (x * y))
  pair = by-x (dec_le c x) (dec_le c y)
    where
      by-x : Dec (c ≤ x) → Dec (c ≤ y) → Alike (distance c x * y) (distance c y * x) (c * (x + y)) (2 * (x * y))
      by-x (yes h) k = above (distance c x) (distance c y) (omega arith) (omega arith)
      by-x (no h) (yes k) = between (distance c x) (distance c y) (omega arith) (omega arith)
      by-x (no h) (no k) = below (distance c x) (distance c y) (omega arith) (omega arith)

-- S·rate, k, cancels: over divisors a < b, T being k times the divisor
module _ (c k a b : ℕ) (c1 : 1 ≤ c) (k1 : 1 ≤ k) (a1 : 1 ≤ a) (ab : a < b) where
  pub divisors : Alike (distance c (k * a) * (k * b)) (distance c (k * b) * (k * a)) (c * (a + b)) (2 * (k * (a * b)))
  divisors =
      let x1 : 1 ≤ k * a = omega (arith, mul-le-mul_right a k1) in
      let p = pair c (k * a) (k * b) c1 x1 (mul-lt-mul_of_pos_left ab k1) in
      record {
        le = λ h. le_of_mul-le-mul_left {k = k} (omega (arith, p.le h)) k1;
        le' = λ h. p.le' (omega (arith, mul-le-mul_left k h));
        ge = λ h. le_of_mul-le-mul_left {k = k} (omega (arith, p.ge h)) k1;
        ge' = λ h. p.ge' (omega (arith, mul-le-mul_left k h));
      }
