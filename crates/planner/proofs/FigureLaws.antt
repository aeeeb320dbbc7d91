-- The figure that is shown is the nearest, halves away from zero, and no other figure is.
use mathlib.Core.Path.{◌≡◌, ap, ◌∙◌}
use lib.Signed.{mag}
use Prim.Native.Nat.{ℕ, zero, suc, ◌+◌, ◌-◌, ◌*◌, ◌/◌, ◌≤◌, ◌<◌}
use native.Mathlib.Nat.{div-le_of_le-mul, mul-div-le, lt-mul-div-succ, lt_of_mul-lt-mul_left, mul-le-mul_right}
use native.Mathlib.Omega.{arith}
use native.Mathlib.Decide.{dec_le}
use lib.IntN.{ℤ, pos, negsuc, neg_ℤ, nat_abs, ◌*ℤ◌}
use Rattle.planner.specs.Figure.{Within, Nearest, quotient, tenths_at}
use Rattle.planner.proofs.SignedLaws.{mag-neg, diff-pos, diff-neg}

module _ (c t : ℕ) (t1 : 1 ≤ t) where
  -- the clock is not below T: the error is not negative
  at-pos : (n : ℕ) → t ≤ c → 2 * t * n ≤ (c - t) * 2000 + t → (c - t) * 2000 + t < 2 * t * (n + 1) → Nearest c t (pos n)
  at-pos n h lo hi = record { within = omega arith; away = far }
    where
      far : (f : ℤ) → Within c t f → nat_abs f ≤ n
      far (pos j) w =
          let g : 2 * t * j < 2 * t * (n + 1) = omega arith in
          omega (arith, lt_of_mul-lt-mul_left (2 * t) g)
      far (negsuc j) w = absurd (omega arith)

  -- it is below
  far-neg : (n : ℕ) → c < t → (t - c) * 2000 + t < 2 * t * (n + 1) → (f : ℤ) → Within c t f → nat_abs f ≤ n
  far-neg n h hi (pos zero) w = omega arith
  far-neg n h hi (pos (suc j)) w = absurd (omega arith)
  far-neg n h hi (negsuc j) w =
      let g : 2 * t * suc j < 2 * t * (n + 1) = omega arith in
      omega (arith, lt_of_mul-lt-mul_left (2 * t) g)

  at-neg : (n : ℕ) → c < t → 2 * t * n ≤ (t - c) * 2000 + t → (t - c) * 2000 + t < 2 * t * (n + 1) → Nearest c t (neg_ℤ (pos n))
  at-neg zero h lo hi = record { within = omega arith; away = far-neg zero h hi }
  at-neg (suc n) h lo hi = record { within = omega arith; away = far-neg (suc n) h hi }

  neg-pos : (m : ℕ) → 1 ≤ m → neg_ℤ (pos m) ≡ negsuc (m - 1)
  neg-pos zero h = absurd (omega arith)
  neg-pos (suc m) h = ap negsuc (omega arith)

  -- the figure by its sign
  figure-pos : t ≤ c → tenths_at c t ≡ pos (((c - t) * 2000 + t) / (2 * t))
  figure-pos h = ap (λ (x : ℤ). quotient (x *ℤ pos 2000) t (2 * t)) (diff-pos c t h)

  figure-neg : c < t → tenths_at c t ≡ neg_ℤ (pos (((t - c) * 2000 + t) / (2 * t)))
  figure-neg l =
      let m : ℕ = suc (t - suc c) * 2000 in
      let e : suc (m - 1) + t ≡ (t - c) * 2000 + t = omega arith in
      ap (λ (x : ℤ). quotient (x *ℤ pos 2000) t (2 * t)) (diff-neg c t l) ∙ rw (neg-pos m (omega arith)) (ap (λ (n : ℕ). neg_ℤ (pos (n / (2 * t)))) e)

  by : Dec (t ≤ c) → Nearest c t (tenths_at c t)
  by (yes h) =
      let x : ℕ = (c - t) * 2000 + t in
      rw (figure-pos h) (at-pos (x / (2 * t)) h (mul-div-le x (2 * t)) (lt-mul-div-succ x (omega arith)))
  by (no h) =
      let l : c < t = omega arith in
      let x : ℕ = (t - c) * 2000 + t in
      rw (figure-neg l) (at-neg (x / (2 * t)) l (mul-div-le x (2 * t)) (lt-mul-div-succ x (omega arith)))

  pub nearest : Nearest c t (tenths_at c t)
  nearest = by (dec_le t c)

  -- figures of both signs, at least 1 apart, are not both within half a tenth
  clash : (a b : ℕ) → Within c t (pos a) → Within c t (negsuc b) → suc b ≤ a → ⊥
  clash a b p q h = omega (arith, mul-le-mul_right t h)

  -- a second figure is refused
  pub only : (e f : ℤ) → Nearest c t e → Nearest c t f → e ≡ f
  only (pos a) (pos b) p q = ap pos (omega (arith, p.away (pos b) q.within, q.away (pos a) p.within))
  only (negsuc a) (negsuc b) p q = ap negsuc (omega (arith, p.away (negsuc b) q.within, q.away (negsuc a) p.within))
  only (pos a) (negsuc b) p q = absurd (clash a b p.within q.within (p.away (negsuc b) q.within))
  only (negsuc b) (pos a) q p = absurd (clash a b p.within q.within (p.away (negsuc b) q.within))

  -- how large the figure is where the clock is at most 5000 times T
  small_by : Dec (t ≤ c) → c ≤ 5000 * t → mag (tenths_at c t) ≤ 5000000
  small_by (yes h) b = rw (figure-pos h) (div-le_of_le-mul (2 * t) (omega arith))
  small_by (no h) b =
      let l : c < t = omega arith in
      let x : ℕ = (t - c) * 2000 + t in
      let g : x / (2 * t) ≤ 5000000 = div-le_of_le-mul (2 * t) (omega arith) in
      rw (figure-neg l) (omega (arith, mag-neg (x / (2 * t))))

  pub small : c ≤ 5000 * t → mag (tenths_at c t) ≤ 5000000
  small b = small_by (dec_le t c) b
