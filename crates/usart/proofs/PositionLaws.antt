-- A sample's place in its frame, bit and sample of the bit, is told by how many samples come before it, and these by
-- the clock.
use mathlib.Core.Path.{◌≡◌, ◌∙◌, sym, ap}
use Prim.Native.Nat.{ℕ, ◌+◌, ◌*◌, ◌/◌, ◌<◌}
use native.Mathlib.Nat.{add_left_cancel, eq_of_mul-eq-mul_right, div-eq_of_lt-le}
use native.Mathlib.Omega.{arith}
use Rattle.usart.specs.declared.baud.Baud.{Baud}

-- with W samples a bit
pub place-unique : (W b x a y : ℕ) → x < W → y < W → b * W + x ≡ a * W + y → (b ≡ a) × (x ≡ y)
place-unique W b x a y hx hy e =
    let p : (b * W + x) / W ≡ b = div-eq_of_lt-le W (omega arith) (omega arith) in
    let q : (a * W + y) / W ≡ a = div-eq_of_lt-le W (omega arith) (omega arith) in
    let s : b ≡ a = sym p ∙ ap (λ (n : ℕ). n / W) e ∙ q in
    let m : b * W ≡ a * W = ap (λ (n : ℕ). n * W) s in
    (s, omega arith)

-- as many ticks after one clock
pub same-ticks : (c : Baud) (n p q : ℕ) → n + p * (c.ubrr + 1) ≡ n + q * (c.ubrr + 1) → p ≡ q
same-ticks c n p q e = eq_of_mul-eq-mul_right (c.ubrr + 1) (omega arith) p q (add_left_cancel n e)
