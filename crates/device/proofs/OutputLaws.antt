-- Output byte and report: the units' bits side by side.
use Prim.Native.Nat.{ℕ, ◌+◌, ◌*◌, ◌/◌, ◌%◌, ◌≤◌, ◌<◌}
use mathlib.Core.Bool.{Bool}
use mathlib.Core.Path.{◌≡◌, ap}
use native.Mathlib.Omega.{arith}
use Rattle.usart.specs.Unit.{output_of as serial_output, requests_of as serial_requests}
use Rattle.usart.specs.declared.unit.Usart.{Usart}
use Rattle.usart.proofs.OutputLaws.{output-bits as serial-bits, requests-lt as serial-lt}
use Rattle.spi.specs.Unit.{output_of as spi_output}
use Rattle.spi.specs.declared.unit.Spi.{Spi}
use Rattle.spi.proofs.OutputLaws.{output-bits as spi-bits}
use Rattle.device.specs.Unit.{txd_bits}
use Rattle.device.specs.Unit.{levels_in, output_of, requests_of}
use Rattle.device.specs.declared.unit.Device.{Device}

pub output-fits : (u : Usart) (s : Spi) (ss : Bool) {a b : ℕ} → a ≡ serial_output u → b ≡ spi_output s ss → a + b < 256
output-fits u s ss p q = let x = (serial-bits u).most in let y = (spi-bits s ss).most in omega (arith, p, q)

-- of a sum of the units' shares: level and mark of the one, even and without bit 4 the other
side_by_side : (u s a b q r : ℕ) → u ≡ 16 * a + b → a ≤ 1 → b ≤ 1 → s ≡ 32 * q + 2 * r → r < 8 → txd_bits (u + s) ≡ u
side_by_side u s a b q r hu ha hb hs hr =
    let e : (u + s) % 2 ≡ b = omega arith in
    let f : (u + s) / 16 ≡ 2 * q + a = omega arith in
    let g : (2 * q + a) % 2 ≡ a = omega arith in omega (arith, ap (λ (n : ℕ). n % 2) f)

-- they are the serial unit's own
pub output-serial : (d : Device) (level : ℕ) → txd_bits (output_of d level) ≡ serial_output d.usart
output-serial d level =
    let x = serial-bits d.usart in
    let y = spi-bits d.spi (levels_in level).ss in
    let u = serial_output d.usart in
    let s = spi_output d.spi (levels_in level).ss in
    let e : s % 16 % 2 ≡ s % 2 = omega arith in
    side_by_side u s (u / 16) (u % 16) (s / 16 / 2) (s % 16 / 2) (omega arith) (omega (arith, x.most)) x.low (omega (arith, e, y.bit0, y.bit4)) (omega arith)

-- request bits 0 to 2
pub requests-serial : (d : Device) → requests_of d % 8 ≡ serial_requests d.usart
requests-serial d = let x = serial-lt d.usart in omega arith
