-- The ranges of the unit's fields, what is 0 when it is not in use, and what its pins show of a transfer.
use Rattle.std.specs.Prelude.{ℕ, ◌%◌, ◌<◌, ◌≤◌, Bool, true, false, ◌≡◌, eqb}
use Rattle.choice.specs.Pick.{digit}
use Rattle.shifter.specs.Order.{out_bit}
use Rattle.shifter.specs.declared.Mode.{Mode}
use Rattle.spi.specs.Control.{is_enabled, is_master, mode_of, half}
use Rattle.spi.specs.Unit.{sck_of}
use Rattle.spi.specs.declared.control.Control.{Control}
use Rattle.spi.specs.declared.transfer.Transfer.{Transfer}
use Rattle.spi.specs.declared.unit.Spi.{Spi}

-- a disabled SPI has no transfer, only a master waits for an edge, and a master's byte under way has one due
pub record ValidTransfer (c : Control) (t : Transfer) : Type 0 where
  pub shift : t.shift < 256
  pub received : t.received < 256
  pub edges : t.edges < 16
  pub left : t.left.0 ≤ half c
  pub disabled : is_enabled c ≡ false → (t.edges ≡ 0) × (t.left.0 ≡ 0)
  pub slave : is_master c ≡ false → t.left.0 ≡ 0
  pub due : is_master c ≡ true → t.left.0 ≡ 0 → t.edges ≡ 0

-- after so many edges the bit that is out is still the shift register's first: an even number with CPHA 0, an odd one
-- with CPHA 1
abbrev pub is_first_out : Mode → ℕ → Bool
is_first_out m edges = eqb (edges % 2) (digit m.cpha)

-- that bit, the next to leave
abbrev pub first_bit : Spi → Bool
first_bit s = out_bit (mode_of s.control).dord s.transfer.shift

-- it is on MOSI while a master's byte is under way, and on MISO while a slave has seen an edge of a byte; such a slave
-- saw SCK turn at each edge, first away from CPOL
pub record ValidPins (s : Spi) : Type 0 where
  pub mosi : is_master s.control ≡ true → 1 ≤ s.transfer.left.0 → is_first_out (mode_of s.control) s.transfer.edges ≡ true
      → s.pins.mosi ≡ first_bit s
  pub miso : is_master s.control ≡ false → 1 ≤ s.transfer.edges → is_first_out (mode_of s.control) s.transfer.edges ≡ true
      → s.pins.miso ≡ first_bit s
  pub sck : is_master s.control ≡ false → 1 ≤ s.transfer.edges → s.pins.sck ≡ sck_of s

pub record Valid (s : Spi) : Type 0 where
  pub spcr : s.control.spcr < 256
  pub ddrb : s.control.ddrb < 256
  pub transfer : ValidTransfer s.control s.transfer
  pub pins : ValidPins s
