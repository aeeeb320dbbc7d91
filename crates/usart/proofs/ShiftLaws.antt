-- A bit comes in at the top of the word: those that have not come in are 0.
use Prim.Native.Nat.{ℕ, ◌+◌, ◌-◌, ◌*◌, ◌/◌, ◌%◌, ◌^◌, ◌≤◌, ◌<◌}
use mathlib.Core.Bool.{Bool, true, false}
use mathlib.Core.Path.{◌≡◌, ap, ◌∙◌}
use native.Mathlib.Nat.{div-add-mod, mul-mod_left, mul-le-mul_right}
use native.Mathlib.Omega.{arith}
use lib.Pow.{pow-add}
use Rattle.choice.specs.Pick.{digit}
use Rattle.choice.proofs.Digits.{digit-le}
use Rattle.frame.specs.Format.{word_bits}
use Rattle.frame.specs.declared.format.Format.{Format}
use Rattle.usart.specs.Sampler.{with_word, shifted_of}
use Rattle.usart.specs.declared.sampler.Reception.{Reception}

-- as a number
pub shift-digit : (f : Format) (r : Reception) (m : Bool) → shifted_of f r m ≡ with_word r (r.word / 2 + digit m * 2 ^ (word_bits f - 1))
unfolding shifted_of
shift-digit f r true = ap (with_word r) (omega arith)
shift-digit f r false = ap (with_word r) (omega arith)

-- the word of D bits keeps them
pub shift-lt : (D w : ℕ) (m : Bool) → 1 ≤ D → w < 2 ^ D → w / 2 + digit m * 2 ^ (D - 1) < 2 ^ D
shift-lt D w m h l =
    let p : 2 ^ D ≡ 2 * 2 ^ (D - 1) = ap (λ (n : ℕ). 2 ^ n) (omega arith) ∙ pow-add 2 1 (D - 1) in
    let top : digit m * 2 ^ (D - 1) ≤ 1 * 2 ^ (D - 1) = mul-le-mul_right (2 ^ (D - 1)) (digit-le m) in
    omega arith

-- b bits, the start bit among them, have come in to the word w of D bits; now comes bit b
module _ (D b w : ℕ) (h : b ≤ D) (z : w % 2 ^ (D + 1 - b) ≡ 0) where
  abbrev E : ℕ
  E = D + 1 - (b + 1)

  parts : w ≡ 2 * (w / 2 ^ (D + 1 - b)) * 2 ^ E
  parts =
      let p : 2 ^ (D + 1 - b) ≡ 2 * 2 ^ E = ap (λ (n : ℕ). 2 ^ n) (omega arith) ∙ pow-add 2 1 E in
      let q : 2 ^ (D + 1 - b) * (w / 2 ^ (D + 1 - b)) ≡ 2 * 2 ^ E * (w / 2 ^ (D + 1 - b)) = ap (λ (n : ℕ). n * (w / 2 ^ (D + 1 - b))) p in
      omega (arith, div-add-mod w (2 ^ (D + 1 - b)))

  -- the start bit leaves the word as it is
  pub rest-start : w % 2 ^ E ≡ 0
  rest-start = ap (λ (n : ℕ). n % 2 ^ E) parts ∙ mul-mod_left (2 * (w / 2 ^ (D + 1 - b))) (2 ^ E)

  pub rest-shifted : (m : Bool) → 1 ≤ b → (w / 2 + digit m * 2 ^ (D - 1)) % 2 ^ E ≡ 0
  rest-shifted m o =
      let p : 2 ^ (D - 1) ≡ 2 ^ (b - 1) * 2 ^ E = ap (λ (n : ℕ). 2 ^ n) (omega arith) ∙ pow-add 2 (b - 1) E in
      let q : digit m * 2 ^ (D - 1) ≡ digit m * (2 ^ (b - 1) * 2 ^ E) = ap (λ (n : ℕ). digit m * n) p in
      let k : ℕ = w / 2 ^ (D + 1 - b) + digit m * 2 ^ (b - 1) in
      let e : w / 2 + digit m * 2 ^ (D - 1) ≡ k * 2 ^ E = omega (arith, parts) in
      ap (λ (n : ℕ). n % 2 ^ E) e ∙ mul-mod_left k (2 ^ E)
