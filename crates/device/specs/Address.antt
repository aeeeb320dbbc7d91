-- The data addresses (document 01, 'Registers and their writes').
use Rattle.std.specs.Prelude.{ℕ, ◌≡◌, eqb, None, Option, Some}
use Rattle.choice.specs.Pick.{pick}
use Rattle.usart.specs.declared.write.Register.{Register as SerialRegister}
use Rattle.usart.specs.declared.write.Register.TheVariants.{Ucsr0a, Ucsr0b, Ucsr0c, Ubrr0l, Ubrr0h, Udr0}
use Rattle.spi.specs.declared.register.Register.{Register as SpiRegister}
use Rattle.spi.specs.declared.register.Register.TheVariants.{Spcr, Spsr, Spdr, Ddrb}
use Rattle.device.specs.declared.address.Place.{Place}
use Rattle.device.specs.declared.address.Place.TheVariants.{Serial, Spi}

unfoldable pub place_of : ℕ → Option Place
place_of a =
    pick (eqb a 0xC0) (Some (Serial Ucsr0a))
    (pick (eqb a 0xC1) (Some (Serial Ucsr0b))
    (pick (eqb a 0xC2) (Some (Serial Ucsr0c))
    (pick (eqb a 0xC4) (Some (Serial Ubrr0l))
    (pick (eqb a 0xC5) (Some (Serial Ubrr0h))
    (pick (eqb a 0xC6) (Some (Serial Udr0))
    (pick (eqb a 0x4C) (Some (Spi Spcr))
    (pick (eqb a 0x4D) (Some (Spi Spsr))
    (pick (eqb a 0x4E) (Some (Spi Spdr))
    (pick (eqb a 0x24) (Some (Spi Ddrb))
    None)))))))))

-- the same as a list, the address of each register: that `place_of` finds these and no other is `addresses` in
-- proofs/ByteLaws.antt
abbrev pub serial_address : SerialRegister → ℕ
serial_address Ucsr0a = 0xC0
serial_address Ucsr0b = 0xC1
serial_address Ucsr0c = 0xC2
serial_address Ubrr0l = 0xC4
serial_address Ubrr0h = 0xC5
serial_address Udr0 = 0xC6

abbrev pub spi_address : SpiRegister → ℕ
spi_address Spcr = 0x4C
spi_address Spsr = 0x4D
spi_address Spdr = 0x4E
spi_address Ddrb = 0x24

-- each address gives its register, and every other address none
pub record Addresses : Type 0 where
  pub serial : (r : SerialRegister) → place_of (serial_address r) ≡ Some (Serial r)
  pub spi : (r : SpiRegister) → place_of (spi_address r) ≡ Some (Spi r)
  pub others : (a : ℕ) → ((r : SerialRegister) → a ≡ serial_address r → ⊥) → ((r : SpiRegister) → a ≡ spi_address r → ⊥) → place_of a ≡ None
