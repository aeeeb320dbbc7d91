-- The unit's share of the output byte is bits 1 to 3 and 5 to 7, and of the report bit 3.
use Prim.Native.Nat.{ℕ, ◌+◌, ◌*◌, ◌/◌, ◌%◌, ◌≤◌}
use mathlib.Core.Bool.{Bool}
use mathlib.Core.Path.{◌≡◌, refl}
use native.Mathlib.Omega.{arith}
use lib.Dec.{lit≤}
use Rattle.choice.specs.Pick.{digit}
use Rattle.choice.proofs.Digits.{digit-le}
use Rattle.choice.proofs.Picks.{pick_ind}
use Rattle.spi.specs.Control.{is_enabled, is_master, drives}
use Rattle.spi.specs.Unit.{sck_of, pin_of, output_of, is_requested, requests_of}
use Rattle.spi.specs.declared.unit.Spi.{Spi}

record Pin (n : ℕ) : Type 0 where
  pub most : n ≤ 17
  pub low : n % 16 ≤ 1

pin : (driven level : Bool) → Pin (pin_of driven level)
unfolding pin_of
pin driven level =
    let d = digit-le level in
    pick_ind Pin driven _ _ (λ _. record { most = omega arith; low = omega arith }) (λ _. record { most = lit≤ tt; low = lit≤ tt })

pub record Bits123 (n : ℕ) : Type 0 where
  pub most : n ≤ 170
  pub bit0 : n % 2 ≡ 0
  pub bit4 : n / 16 % 2 ≡ 0

none : Bits123 0
none = record { most = lit≤ tt; bit0 = refl; bit4 = refl }

master-bits : (s : Spi) → Bits123 (pin_of (drives s.control 8) s.pins.mosi * 2 + pin_of (drives s.control 32) (sck_of s) * 8)
master-bits s =
    let a = pin (drives s.control 8) s.pins.mosi in
    let b = pin (drives s.control 32) (sck_of s) in
    record { most = omega (arith, a.most, b.most); bit0 = omega arith; bit4 = omega (arith, a.most, b.most, a.low, b.low) }

slave-bits : (s : Spi) → Bits123 (pin_of (drives s.control 16) s.pins.miso * 4)
slave-bits s =
    let a = pin (drives s.control 16) s.pins.miso in
    record { most = omega (arith, a.most); bit0 = omega arith; bit4 = omega (arith, a.most, a.low) }

pub output-bits : (s : Spi) (ss : Bool) → Bits123 (output_of s ss)
unfolding output_of
output-bits s ss =
    pick_ind Bits123 (is_enabled s.control) _ _
    (λ _. pick_ind Bits123 (is_master s.control) _ _ (λ _. master-bits s) (λ _. pick_ind Bits123 ss _ _ (λ _. none) (λ _. slave-bits s)))
    (λ _. none)

pub requests-le : (s : Spi) → requests_of s ≤ 8
requests-le s = let a = digit-le (is_requested s) in omega arith

-- SPIF with SPIE is bit 3 of the report, and the SPI's only one
pub request-bit : (s : Spi) → (requests_of s % 8 ≡ 0) × (requests_of s / 8 ≡ digit (is_requested s))
request-bit s = (omega arith, omega arith)
