-- A UBRR that neither neighbour betters is the best of all: once, over S, the rate and the clock.
use mathlib.Core.Path.{◌≡◌, ap}
use Prim.Native.Nat.{ℕ, zero, suc, ◌+◌, ◌-◌, ◌*◌, ◌≤◌, ◌<◌}
use native.Mathlib.Nat.{mul-le-mul_left, mul-le-mul_right, le_of_mul-le-mul_left, le_of_mul-le-mul_right, le_refl}
use native.Mathlib.Omega.{arith}
use native.Mathlib.Decide.{dec_lt}
use Rattle.planner.specs.Setting.{NoWorse, total, Best}
use Rattle.planner.proofs.ErrorLaws.{divisors}

-- of the divisors m and m + 1, T being k times the divisor, the larger is no worse; the smaller is no worse
abbrev pub Larger : ℕ → ℕ → ℕ → Type 0
Larger c k m = 2 * (k * (m * (m + 1))) ≤ c * (m + (m + 1))

abbrev pub Smaller : ℕ → ℕ → ℕ → Type 0
Smaller c k m = c * (m + (m + 1)) ≤ 2 * (k * (m * (m + 1)))

-- what is no worse than the next above is no worse than all above ..
up : (c k a b : ℕ) → Smaller c k a → a < b → c * (a + b) ≤ 2 * (k * (a * b))
up c k a b h ab =
    let d : ℕ = b - (a + 1) in
    let e : b ≡ a + 1 + d = omega arith in
    let g : c * (a + 1) ≤ 2 * (k * a) * (a + 1) = omega arith in
    let i : c ≤ 2 * (k * a) = le_of_mul-le-mul_right g (omega arith) in
    let j = mul-le-mul_right d i in
    omega (arith, ap (λ n. k * (a * n)) e, ap (λ n. c * n) e)

-- .. and what is no worse than the next below than all below
down : (c k b p : ℕ) → Larger c k p → 1 ≤ b → b ≤ p → 2 * (k * (b * (p + 1))) ≤ c * (b + (p + 1))
down c k b p h b1 bp =
    let x = mul-le-mul_right b h in
    let y : b * (p + 1) ≤ p * (p + 1) = mul-le-mul_right (p + 1) bp in
    let z = mul-le-mul_left c y in
    le_of_mul-le-mul_left {k = p} (omega arith) (omega arith)

module _ (c s rate : ℕ) (c1 : 1 ≤ c) (k1 : 1 ≤ s * rate) where
  total-is : (u : ℕ) → total s rate u ≡ s * rate * (u + 1)
  total-is u = omega arith

  pub best_of : (u : ℕ) → u ≤ 4095 → Larger c (s * rate) u → (u < 4095 → Smaller c (s * rate) (u + 1)) → Best c s rate u
  best_of u fits lo hi = record { fits = fits; least = λ v hv. rw (total-is u, total-is v) (by v hv (dec_lt v u) (dec_lt u v)) }
    where
      by : (v : ℕ) → v ≤ 4095 → Dec (v < u) → Dec (u < v) → NoWorse c (s * rate * (u + 1)) (s * rate * (v + 1))
      by v hv (yes h) k = (divisors c (s * rate) (v + 1) (u + 1) c1 k1 (omega arith) (omega arith)).ge' (down c (s * rate) (v + 1) u lo (omega arith) (omega arith))
      by v hv (no h) (yes k) = (divisors c (s * rate) (u + 1) (v + 1) c1 k1 (omega arith) (omega arith)).le' (up c (s * rate) (u + 1) (v + 1) (hi (omega arith)) (omega arith))
      by v hv (no h) (no k) =
          let e : v ≡ u = omega arith in
          rw e (le_refl _)

  pub best-larger : (u : ℕ) → Best c s rate u → Larger c (s * rate) u
  best-larger zero b = omega arith
  best-larger (suc v) b =
      let h = b.least v (omega (arith, b.fits)) in
      omega (arith, (divisors c (s * rate) (v + 1) (suc v + 1) c1 k1 (omega arith) (omega arith)).ge (rw (total-is v, total-is (suc v)) at h))

  pub best-smaller : (u : ℕ) → Best c s rate u → u < 4095 → Smaller c (s * rate) (u + 1)
  best-smaller u b h =
      let n = b.least (u + 1) (omega arith) in
      (divisors c (s * rate) (u + 1) (u + 1 + 1) c1 k1 (omega arith) (omega arith)).le (rw (total-is u, total-is (u + 1)) at n)
