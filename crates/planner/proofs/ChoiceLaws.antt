-- The planner's choice is accepted, and no larger UBRR is.
use mathlib.Core.Path.{◌≡◌}
use Prim.Native.Nat.{ℕ, zero, suc, ◌+◌, ◌-◌, ◌*◌, ◌/◌, ◌≤◌, ◌<◌}
use native.Mathlib.Nat.{mul-le-mul_left, mul-le-mul_right, mul-div-le, lt-mul-div-succ}
use native.Mathlib.Omega.{arith}
use native.Mathlib.Decide.{dec_lt}
use Rattle.planner.specs.Setting.{Best, Chosen}
use Rattle.planner.proofs.NeighbourLaws.{Larger, best_of, best-larger}

-- k·m above the clock: divisor m is no worse than m + 1, and m + 1 is worse
pub above-smaller : (c k m : ℕ) → c < k * m → c * (m + (m + 1)) < 2 * (k * (m * (m + 1)))
above-smaller c k m h = omega (arith, mul-le-mul_right (m + (m + 1)) h)

-- k·(m + 1) not above the clock: divisor m + 1 is no worse than m
pub below-larger : (c k m : ℕ) → k * (m + 1) ≤ c → Larger c k m
below-larger c k m h = omega (arith, mul-le-mul_right m h)

module _ (c s rate : ℕ) (c1 : 1 ≤ c) (k1 : 1 ≤ s * rate) where
  -- nothing above the quotient is accepted
  none_above : (v : ℕ) → c / (s * rate) < v → Best c s rate v → ⊥
  none_above v h b =
      let g = lt-mul-div-succ c k1 in
      let i = mul-le-mul_left (s * rate) h in
      omega (arith, best-larger c s rate c1 k1 v b, above-smaller c (s * rate) v (omega arith))

  pub chosen_last : 4096 ≤ c / (s * rate) → Chosen c s rate 4095
  chosen_last h =
      let g = mul-div-le c (s * rate) in
      let i = mul-le-mul_left (s * rate) h in
      record { best = best_of c s rate c1 k1 4095 (omega arith) (below-larger c (s * rate) 4095 (omega arith)) (λ l. absurd (omega arith)); largest = λ v b. b.fits }

  pub chosen-same : c / (s * rate) < 4096 → Larger c (s * rate) (c / (s * rate)) → Chosen c s rate (c / (s * rate))
  chosen-same h l =
      let q : ℕ = c / (s * rate) in
      let g : c < s * rate * (q + 1) = lt-mul-div-succ c k1 in
      let i = above-smaller c (s * rate) (q + 1) g in
      record { best = best_of c s rate c1 k1 q (omega arith) l (λ _. omega arith); largest = λ v b. at_most v b (dec_lt q v) }
    where
      at_most : (v : ℕ) → Best c s rate v → Dec (c / (s * rate) < v) → v ≤ c / (s * rate)
      at_most v b (yes h) = absurd (none_above v h b)
      at_most v b (no h) = omega arith

  -- the quotient q itself is worse than q - 1
  less : (q : ℕ) → s * rate * q ≤ c → ((v : ℕ) → q < v → Best c s rate v → ⊥) → q < 4096 → c * (q + (q + 1)) < 2 * (s * rate * (q * (q + 1))) → Chosen c s rate (q - 1)
  less zero a none h n = absurd (omega arith)
  less (suc p) a none h n =
      let e : suc p - 1 ≡ p = omega arith in
      rw e (record { best = best_of c s rate c1 k1 p (omega arith) (below-larger c (s * rate) p (omega arith)) (λ _. omega arith); largest = λ v b. at_most v b (dec_lt (suc p) v) (dec_lt p v) })
    where
      at_most : (v : ℕ) → Best c s rate v → Dec (suc p < v) → Dec (p < v) → v ≤ p
      at_most v b (yes g) i = absurd (none v g b)
      at_most v b (no g) (no i) = omega arith
      at_most v b (no g) (yes i) =
          let e : v ≡ suc p = omega arith in
          absurd (omega (arith, n, best-larger c s rate c1 k1 (suc p) (rw e at b)))

  pub chosen_less : c / (s * rate) < 4096 → c * (c / (s * rate) + (c / (s * rate) + 1)) < 2 * (s * rate * (c / (s * rate) * (c / (s * rate) + 1))) → Chosen c s rate (c / (s * rate) - 1)
  chosen_less h n = less (c / (s * rate)) (mul-div-le c (s * rate)) none_above h n
