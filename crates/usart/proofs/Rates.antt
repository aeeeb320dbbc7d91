-- The arithmetic of demand 3, once over S = 2 * h and D: at a voting sample the line shows the bit that is being voted
-- on.
use mathlib.Core.Path.{◌≡◌, subst}
use Prim.Native.Nat.{ℕ, ◌+◌, ◌*◌, ◌/◌, ◌≤◌, ◌<◌}
use native.Mathlib.Nat.{mul-le-mul_left, mul-le-mul_right, div-eq_of_lt-le}
use native.Mathlib.Omega.{arith}
use Rattle.frame.specs.Format.{samples, first_vote, word_bits}
use Rattle.usart.specs.Limit.{limit, Within}
use Rattle.frame.specs.declared.format.Format.{Format}
use Rattle.frame.proofs.FormatLaws.{samples-half, first-vote-range, word-bits-range}
use Rattle.usart.proofs.LimitLaws.{limit-small}

-- the sender's bit is P/Q clocks, the receiver's 2 * h samples of M clocks, and D + 1 bits of their difference are at
-- most 0.18 of a bit
pub record Rates (h M P Q D : ℕ) : Type 0 where
  pub r : ℕ
  pub h4 : 4 ≤ h
  pub q1 : 1 ≤ Q
  pub p1 : 1 ≤ P
  pub m1 : 1 ≤ M
  pub d5 : 5 ≤ D
  pub small : (D + 1) * r ≤ 180
  pub within : Within r (2 * h * M * Q) P

pub rates : (f : Format) (ubrr P Q : ℕ) → 1 ≤ P → 1 ≤ Q → Within (limit f.u2x (word_bits f)) (samples f * (ubrr + 1) * Q) P
    → Rates (first_vote f) (ubrr + 1) P Q (word_bits f)
rates f ubrr P Q p1 q1 w =
    record {
      r = limit f.u2x (word_bits f);
      h4 = (first-vote-range f).0;
      q1 = q1;
      p1 = p1;
      m1 = omega arith;
      d5 = (word-bits-range f).0;
      small = limit-small f.u2x (word_bits f) (word-bits-range f).0 (word-bits-range f).1;
      within = subst (λ (n : ℕ). Within (limit f.u2x (word_bits f)) (n * (ubrr + 1) * Q) P) (samples-half f) w;
    }

module _ {h M P Q D : ℕ} (R : Rates h M P Q D) where
  -- b times the rate error is below 0.18 of a bit ..
  drift : (b : ℕ) → b ≤ D + 1 → (b * P * 1000 ≤ b * (2 * h * M * Q) * 1000 + 180 * P) × (b * (2 * h * M * Q) * 1000 ≤ b * P * 1000 + 180 * P)
  drift b hb =
      let N : ℕ = 2 * h * M * Q in
      let br : b * R.r * P ≤ 180 * P = mul-le-mul_right P (omega (arith, R.small, mul-le-mul_right R.r hb)) in
      let lo : P * 1000 ≤ N * 1000 + R.r * P = omega (arith, R.within) in
      let hi : N * 1000 ≤ P * 1000 + R.r * P = omega (arith, R.within) in
      (omega (arith, mul-le-mul_left b lo), omega (arith, mul-le-mul_left b hi))

  -- .. and the rate error itself at most 0.03
  pub rate : (P * 97 ≤ 2 * h * M * Q * 100) × (2 * h * M * Q * 100 ≤ P * 103)
  rate =
      let d6 : 6 * R.r ≤ (D + 1) * R.r = mul-le-mul_right R.r (omega (arith, R.d5)) in
      let r30 : R.r * P ≤ 30 * P = mul-le-mul_right P (omega (arith, R.small)) in
      (omega (arith, R.within), omega (arith, R.within))

  -- a tick is shorter than the sender's bit
  pub tick-short : M * Q < P
  tick-short = omega (arith, rate, mul-le-mul_right (M * Q) R.h4, R.p1)

  -- sample s + 1 of bit b comes (b * 2h + s) ticks after the first low sample, which is e < M clocks late
  pub vote-low : (b s e : ℕ) → b ≤ D + 1 → h ≤ s + 1 → b * P ≤ (e + (b * (2 * h) + s) * M) * Q
  vote-low b s e hb hs =
      let x = mul-le-mul_right (M * Q) hs in
      let y = mul-le-mul_right (M * Q) (R.h4) in
      omega (arith, drift b hb, rate)

  pub vote-high : (b s e : ℕ) → b ≤ D + 1 → s ≤ h + 1 → e < M → (e + (b * (2 * h) + s) * M) * Q < (b + 1) * P
  vote-high b s e hb hs he =
      let x = mul-le-mul_right (M * Q) hs in
      let y = mul-le-mul_right (M * Q) (R.h4) in
      let z = mul-le-mul_right Q he in
      omega (arith, drift b hb, rate, R.q1)

  pub vote-bit : (b s e : ℕ) → b ≤ D + 1 → h ≤ s + 1 → s ≤ h + 1 → e < M → (e + (b * (2 * h) + s) * M) * Q / P ≡ b
  vote-bit b s e hb hs hs' he = div-eq_of_lt-le P (vote-low b s e hb hs) (vote-high b s e hb hs' he)
