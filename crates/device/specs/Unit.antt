-- The device at reset and at a clock, its output byte and its requests (document 01, 'SPI', level byte; 'Receiver'),
-- and the split votes of its oldest frame (document 02, M-101).
use Rattle.std.specs.Prelude.{ℕ, ◌+◌, ◌*◌, ◌/◌, ◌%◌, Bool, eqb}
use Rattle.choice.specs.Bit.{is_set}
use Rattle.usart.specs.Unit.{reset_usart, clock_of as serial_clock, output_of as serial_output, requests_of as serial_requests}
use Rattle.usart.specs.Read.{split_votes as serial_split_votes}
use Rattle.usart.specs.declared.unit.Usart.{Usart}
use Rattle.spi.specs.Unit.{reset_spi, output_of as spi_output, requests_of as spi_requests}
use Rattle.spi.specs.Clock.{clock_of as spi_clock}
use Rattle.spi.specs.declared.clock.Levels.{Levels}
use Rattle.spi.specs.declared.unit.Spi.{Spi}
use Rattle.device.specs.declared.unit.Device.{Device}
use Rattle.answer.specs.declared.Reading.{Reading}

abbrev pub reset_device : Device
reset_device = record { usart = reset_usart; spi = reset_spi }

-- the device d after an operation, by its units
abbrev pub after_of : Device → Usart → Spi → Device
after_of d u s = record { usart = u; spi = s }

abbrev pub with_usart : Device → Usart → Device
with_usart d u = after_of d u d.spi

abbrev pub with_spi : Device → Spi → Device
with_spi d s = after_of d d.usart s

-- level byte: RxD, MISO, MOSI, SCK, SS in bits 0 to 4
abbrev pub rxd_in : ℕ → Bool
rxd_in level = eqb (level % 2) 1

abbrev pub levels_in : ℕ → Levels
levels_in level =
    record { miso = is_set level 2; mosi = is_set level 4; sck = is_set level 8; ss = is_set level 16 }

abbrev pub clock_of : Device → ℕ → Device
clock_of d level = after_of d (serial_clock d.usart (rxd_in level)) (spi_clock d.spi (levels_in level))

-- output byte: TxD, MOSI, MISO, SCK in bits 0 to 3, driven marks in 4 to 7; SS at this clock is looked at for MISO
abbrev pub output_of : Device → ℕ → ℕ
output_of d level = serial_output d.usart + spi_output d.spi (levels_in level).ss

-- its serial share: TxD in bit 0 and its driven mark in bit 4
abbrev pub txd_bits : ℕ → ℕ
txd_bits o = o % 2 + o / 16 % 2 * 16

-- the output byte is that after the clock
abbrev pub clocked_of : Device → ℕ → Reading Device
clocked_of d level = record { value = output_of (clock_of d level) level; after = clock_of d level }

-- requests: RXC with RXCIE, UDRE with UDRIE, TXC with TXCIE, SPIF with SPIE, bits 0 to 3 of the report
abbrev pub requests_of : Device → ℕ
requests_of d = serial_requests d.usart + spi_requests d.spi

abbrev pub split_votes : Device → ℕ
split_votes d = serial_split_votes d.usart
