-- What a write of an SPI register is refused for (document 01, 'Numbers the rig sees' and 'Registers and their
-- writes'): 4 alone.
use Rattle.std.specs.Prelude.{ℕ, ◌%◌, Bool, false, not, ◌&&◌, eqb}
use Rattle.choice.specs.Bit.{is_set}
use Rattle.spi.specs.Means.{differs}
use Rattle.spi.specs.Transfer.{is_under_way as is_transferring}
use Rattle.spi.specs.declared.unit.Spi.{Spi}
use Rattle.spi.specs.declared.register.Register.{Register}
use Rattle.spi.specs.declared.register.Register.TheVariants.{Spcr, Spsr, Spdr, Ddrb}

-- a write of SPCR with SPE not cleared and a change in bits 5 to 0; of SPSR, with SPI2X (bit 0) changed
abbrev pub changes : Spi → Register → ℕ → Bool
changes s Spcr v = is_set v 64 && not (eqb (v % 64) (s.control.spcr % 64))
changes s Spsr v = differs (is_set v 1) s.control.spi2x
changes s Spdr v = false
changes s Ddrb v = false

-- 4: a setting changed while a transfer is under way
abbrev pub is_under_way : Spi → Register → ℕ → Bool
is_under_way s r v = is_transferring s.transfer && changes s r v
