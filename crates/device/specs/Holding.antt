-- One level byte held for many clocks, and a stretch in which nothing happens.
use Rattle.std.specs.Prelude.{ℕ, ◌*◌, Bool, false, List, [], ◌∷◌, eqb}
use Rattle.choice.specs.Pick.{pick}
use Rattle.choice.specs.Times.{times}
use Rattle.usart.specs.Holding.{is_at_rest as serial_rests}
use Rattle.spi.specs.Holding.{is_at_rest as spi_rests}
use Rattle.device.specs.Unit.{rxd_in, levels_in, clock_of, output_of}
use Rattle.answer.specs.declared.Reading.{Reading}
use Rattle.device.specs.declared.unit.Device.{Device}

abbrev pub clock_at : ℕ → Device → Device
clock_at level d = clock_of d level

-- n single clocks, each with this level byte
abbrev pub held_of : Device → ℕ → ℕ → Device
held_of d level n = times (clock_at level) n d

-- the last of some bytes, or the one given where there are none
unfoldable pub last_of : ℕ → List ℕ → ℕ
last_of o [] = o
last_of o (p ∷ ps) = last_of p ps

-- the output byte after the last of them; 0 for no clocks
unfoldable pub held_output : Device → ℕ → ℕ → ℕ
held_output d level n = pick (eqb n 0) 0 (output_of (held_of d level n) level)

abbrev pub hold_of : Device → ℕ → ℕ → Reading Device
hold_of d level n = record { value = held_output d level n; after = held_of d level n }

-- at rest at this level: nothing happens at a clock, but that the baud counter moves
unfoldable pub is_at_rest : Device → ℕ → Bool
is_at_rest d level = pick (serial_rests d.usart (rxd_in level)) (spi_rests d.spi (levels_in level)) false

-- clocks within which every valid device comes there: two frames of 13 bits, 16 ticks each, at UBRR 4095
abbrev pub clocks_to_rest : ℕ
clocks_to_rest = 2 * 13 * 16 * 4096
