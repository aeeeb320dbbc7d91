-- Document 01's own sentences about level byte, output byte, report, addresses and reset values, each as a law of the
-- definitions.
use Prim.Native.Nat.{ℕ, ◌+◌, ◌*◌}
use mathlib.Core.Bool.{Bool, true, false, not, ◌&&◌}
use mathlib.Core.Path.{◌≡◌, refl, sym, ap, ◌∙◌}
use native.Mathlib.Omega.{arith}
use lib.Dec.{eqb}
use borrow.Author.Tests.{eqb-true, ne_eqb}
use Rattle.std.proofs.Common.{None, Option, Some}
use Rattle.choice.specs.Pick.{pick, digit}
use Rattle.choice.proofs.Digits.{digit-le, digit-is}
use Rattle.choice.proofs.Picks.{pick_ind}
use Rattle.usart.specs.Sender.{txd_of}
use Rattle.usart.specs.Unit.{clock_of as serial_clock, is_driven, output_of as serial_output, rxc_requested, udre_requested, txc_requested}
use Rattle.usart.specs.declared.unit.Usart.{Usart}
use Rattle.usart.specs.declared.write.Register.{Register as SerialRegister}
use Rattle.usart.specs.declared.write.Register.TheVariants.{Ucsr0a, Ucsr0b, Ucsr0c, Ubrr0l, Ubrr0h, Udr0}
use Rattle.spi.specs.Clock.{clock_of as spi_clock}
use Rattle.spi.specs.Control.{is_enabled, is_master, drives}
use Rattle.spi.specs.Unit.{sck_of, pin_of, output_of as spi_output, is_requested}
use Rattle.spi.specs.declared.unit.Spi.{Spi as SpiUnit}
use Rattle.spi.specs.declared.register.Register.{Register as SpiRegister}
use Rattle.spi.specs.declared.register.Register.TheVariants.{Spcr, Spsr, Spdr, Ddrb}
use Rattle.device.specs.Address.{place_of, serial_address, spi_address, Addresses}
use Rattle.device.specs.Outcome.{value_of}
use Rattle.device.specs.Unit.{reset_device, rxd_in, levels_in, clock_of, output_of, requests_of}
use Rattle.device.specs.Bytes.{level_byte, LevelBits, mosi_driven, miso_driven, sck_driven, shown_as, OutputBits, RequestBits}
use Rattle.device.specs.Register.{reset_reads, reset_in, reset_at, read_in, read_of}
use Rattle.device.specs.declared.unit.Device.{Device}
use Rattle.device.specs.declared.address.Place.{Place}
use Rattle.device.specs.declared.address.Place.TheVariants.{Serial, Spi}

-- a level as it is read in a bit
level-is : (n : ℕ) (b : Bool) → n ≡ digit b → eqb n 1 ≡ b
level-is n b e = ap (λ (k : ℕ). eqb k 1) e ∙ digit-is b

-- level byte: RxD, MISO, MOSI, SCK, SS in bits 0 to 4
pub level-byte : (rxd miso mosi sck ss : Bool) → LevelBits (level_byte rxd miso mosi sck ss) rxd miso mosi sck ss
level-byte rxd miso mosi sck ss =
    let a = digit-le rxd in
    let b = digit-le miso in
    let c = digit-le mosi in
    let d = digit-le sck in
    let e = digit-le ss in
    record {
      bit0 = omega (arith, level-is);
      bit1 = omega (arith, level-is);
      bit2 = omega (arith, level-is);
      bit3 = omega (arith, level-is);
      bit4 = omega (arith, level-is);
    }

-- at a clock each unit is handed its own levels: the serial unit RxD and nothing else
heard : (u v : Usart) (t rxd : Bool) → v ≡ serial_clock u t → t ≡ rxd → v ≡ serial_clock u rxd
heard u v t rxd h e = h ∙ ap (serial_clock u) e

pub clock-levels : (d : Device) (level : ℕ)
    → ((clock_of d level).usart ≡ serial_clock d.usart (rxd_in level)) × ((clock_of d level).spi ≡ spi_clock d.spi (levels_in level))
clock-levels d level = (heard d.usart (clock_of d level).usart _ (rxd_in level) refl refl, refl)

-- a pin's level with its driven mark four places above
serial-pin : (driven level : Bool) → pick driven (digit level + 16) 0 ≡ shown_as driven level + 16 * digit driven
serial-pin true level = refl
serial-pin false level = refl

spi-pin : (driven level : Bool) → pin_of driven level ≡ shown_as driven level + 16 * digit driven
unfolding pin_of
spi-pin true level = omega arith
spi-pin false level = refl

serial-bits : (u : Usart) → serial_output u ≡ shown_as (is_driven u) (txd_of u.format u.sender.shifter) + 16 * digit (is_driven u)
unfolding serial_output
serial-bits u = serial-pin (is_driven u) (txd_of u.format u.sender.shifter)

-- the SPI's six bits: of a master MOSI and SCK are driven, of a slave with SS low MISO
pins : (spe mstr ss : Bool) (ddr3 ddr4 ddr5 : Bool) (mosi miso sck : Bool)
    → pick spe (pick mstr (pin_of ddr3 mosi * 2 + pin_of ddr5 sck * 8) (pick ss 0 (pin_of ddr4 miso * 4))) 0
    ≡ 2 * shown_as (spe && mstr && ddr3) mosi + 4 * shown_as (spe && not mstr && not ss && ddr4) miso + 8 * shown_as (spe && mstr && ddr5) sck
    + 32 * digit (spe && mstr && ddr3) + 64 * digit (spe && not mstr && not ss && ddr4) + 128 * digit (spe && mstr && ddr5)
pins true true ss ddr3 ddr4 ddr5 mosi miso sck =
    let a = spi-pin ddr3 mosi in
    let b = spi-pin ddr5 sck in omega arith
pins true false true ddr3 ddr4 ddr5 mosi miso sck = refl
pins true false false ddr3 ddr4 ddr5 mosi miso sck = let a = spi-pin ddr4 miso in omega arith
pins false mstr ss ddr3 ddr4 ddr5 mosi miso sck = refl

spi-bits : (s : SpiUnit) (ss : Bool)
    → spi_output s ss
    ≡ 2 * shown_as (mosi_driven s) s.pins.mosi + 4 * shown_as (miso_driven s ss) s.pins.miso + 8 * shown_as (sck_driven s) (sck_of s)
    + 32 * digit (mosi_driven s) + 64 * digit (miso_driven s ss) + 128 * digit (sck_driven s)
unfolding spi_output
spi-bits s ss =
    pins (is_enabled s.control) (is_master s.control) ss (drives s.control 8) (drives s.control 16) (drives s.control 32)
    s.pins.mosi s.pins.miso (sck_of s)

eight-bits : (u : Usart) (s : SpiUnit) (ss : Bool) → OutputBits (serial_output u + spi_output s ss) u s ss
eight-bits u s ss =
    let x = serial-bits u in
    let y = spi-bits s ss in
    let a = digit-le (is_driven u && txd_of u.format u.sender.shifter) in
    let b = digit-le (mosi_driven s && s.pins.mosi) in
    let c = digit-le (miso_driven s ss && s.pins.miso) in
    let d = digit-le (sck_driven s && sck_of s) in
    let e = digit-le (is_driven u) in
    let f = digit-le (mosi_driven s) in
    let g = digit-le (miso_driven s ss) in
    let h = digit-le (sck_driven s) in
    record {
      txd = omega arith;
      mosi = omega arith;
      miso = omega arith;
      sck = omega arith;
      txd_mark = omega arith;
      mosi_mark = omega arith;
      miso_mark = omega arith;
      sck_mark = omega arith;
    }

-- the level t that the SPI looks at is that of SS
with-ss : (u : Usart) (s : SpiUnit) (o : ℕ) (t ss : Bool) → o ≡ serial_output u + spi_output s t → t ≡ ss → OutputBits o u s ss
with-ss u s o t ss h e = rw (h, e) (eight-bits u s ss)

-- output byte: TxD, MOSI, MISO, SCK in bits 0 to 3, driven marks in 4 to 7; undriven shows 0
pub output-bits : (d : Device) (level : ℕ) → OutputBits (output_of d level) d.usart d.spi (levels_in level).ss
output-bits d level = with-ss d.usart d.spi (output_of d level) _ (levels_in level).ss refl refl

-- requests: RXC with RXCIE, UDRE with UDRIE, TXC with TXCIE, SPIF with SPIE, bits 0 to 3 of the report
pub request-bits : (d : Device) → RequestBits (requests_of d) d.usart d.spi
request-bits d =
    let a = digit-le (rxc_requested d.usart) in
    let b = digit-le (udre_requested d.usart) in
    let c = digit-le (txc_requested d.usart) in
    let e = digit-le (is_requested d.spi) in
    record { rxc = omega arith; udre = omega arith; txc = omega arith; spif = omega arith }

serial-address : (r : SerialRegister) → place_of (serial_address r) ≡ Some (Serial r)
unfolding place_of
serial-address Ucsr0a = refl
serial-address Ucsr0b = refl
serial-address Ucsr0c = refl
serial-address Ubrr0l = refl
serial-address Ubrr0h = refl
serial-address Udr0 = refl

spi-address : (r : SpiRegister) → place_of (spi_address r) ≡ Some (Spi r)
unfolding place_of
spi-address Spcr = refl
spi-address Spsr = refl
spi-address Spdr = refl
spi-address Ddrb = refl

elsewhere : (a : ℕ) → ((r : SerialRegister) → a ≡ serial_address r → ⊥) → ((r : SpiRegister) → a ≡ spi_address r → ⊥) → place_of a ≡ None
unfolding place_of
elsewhere a n m =
    rw (
      ne_eqb a 0xC0 (n Ucsr0a),
      ne_eqb a 0xC1 (n Ucsr0b),
      ne_eqb a 0xC2 (n Ucsr0c),
      ne_eqb a 0xC4 (n Ubrr0l),
      ne_eqb a 0xC5 (n Ubrr0h),
      ne_eqb a 0xC6 (n Udr0),
      ne_eqb a 0x4C (m Spcr),
      ne_eqb a 0x4D (m Spsr),
      ne_eqb a 0x4E (m Spdr),
      ne_eqb a 0x24 (m Ddrb),
    )

-- the data addresses, and no other
pub addresses : Addresses
addresses = record { serial = serial-address; spi = spi-address; others = elsewhere }

-- after reset UCSR0A is 0x20, UCSR0C 0x06, the rest 0: of an f that is so at each register, and 0 where there is none
module _ (f : Option Place → ℕ) where
  found : (a k : ℕ) (p q : Option Place) → f p ≡ reset_reads k → (eqb a k ≡ false → f q ≡ reset_reads a) → f (pick (eqb a k) p q) ≡ reset_reads a
  found a k p q hp hq = pick_ind (λ (x : Option Place). f x ≡ reset_reads a) (eqb a k) p q (λ e. hp ∙ sym (ap reset_reads (eqb-true a k e))) hq

  reset-table : f (Some (Serial Ucsr0a)) ≡ 0x20 → f (Some (Serial Ucsr0b)) ≡ 0 → f (Some (Serial Ucsr0c)) ≡ 0x06 → f (Some (Serial Ubrr0l)) ≡ 0 → f (Some (Serial Ubrr0h)) ≡ 0
      → f (Some (Serial Udr0)) ≡ 0 → f (Some (Spi Spcr)) ≡ 0 → f (Some (Spi Spsr)) ≡ 0 → f (Some (Spi Spdr)) ≡ 0 → f (Some (Spi Ddrb)) ≡ 0 → f None ≡ 0
      → (a : ℕ) → f (place_of a) ≡ reset_reads a
  unfolding place_of
  reset-table ucsr0a ucsr0b ucsr0c ubrr0l ubrr0h udr0 spcr spsr spdr ddrb nowhere a =
      found a 0xC0 _ _ ucsr0a
      (λ i. found a 0xC1 _ _ ucsr0b
      (λ _. found a 0xC2 _ _ ucsr0c
      (λ j. found a 0xC4 _ _ ubrr0l
      (λ _. found a 0xC5 _ _ ubrr0h
      (λ _. found a 0xC6 _ _ udr0
      (λ _. found a 0x4C _ _ spcr
      (λ _. found a 0x4D _ _ spsr
      (λ _. found a 0x4E _ _ spdr
      (λ _. found a 0x24 _ _ ddrb
      (λ _. rw (i, j) nowhere))))))))))

-- every address reads so after reset
pub reset-reads : (a : ℕ) → value_of (read_of reset_device a) ≡ reset_reads a
reset-reads = reset-table (λ (p : Option Place). value_of (read_in reset_device p)) refl refl refl refl refl refl refl refl refl refl refl

pub reset-values : (a : ℕ) → reset_at a ≡ reset_reads a
reset-values = reset-table reset_in refl refl refl refl refl refl refl refl refl refl refl
