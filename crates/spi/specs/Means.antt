-- A means, no rule: the unit with one part put in its place, and a test whether two levels differ.
use Rattle.std.specs.Prelude.{Bool, not}
use Rattle.choice.specs.Pick.{pick}
use Rattle.spi.specs.declared.control.Control.{Control}
use Rattle.spi.specs.declared.divisor.Clocks.{Clocks}
use Rattle.spi.specs.declared.flag.Flags.{Flags}
use Rattle.spi.specs.declared.transfer.Transfer.{Transfer}
use Rattle.spi.specs.declared.unit.Pins.{Pins}
use Rattle.spi.specs.declared.unit.Spi.{Spi}

unfoldable pub differs : Bool → Bool → Bool
differs a b = pick a (not b) b

abbrev pub with_control : Spi → Control → Spi
with_control s c = record { control = c; transfer = s.transfer; flags = s.flags; pins = s.pins }

abbrev pub with_transfer : Spi → Transfer → Spi
with_transfer s t = record { control = s.control; transfer = t; flags = s.flags; pins = s.pins }

abbrev pub with_flags : Spi → Flags → Spi
with_flags s f = record { control = s.control; transfer = s.transfer; flags = f; pins = s.pins }

abbrev pub with_pins : Spi → Pins → Spi
with_pins s p = record { control = s.control; transfer = s.transfer; flags = s.flags; pins = p }

abbrev pub with_left : Spi → Clocks → Spi
with_left s n =
    let t : Transfer = s.transfer in
    with_transfer s (record { shift = t.shift; received = t.received; edges = t.edges; left = n })

abbrev pub with_mosi : Spi → Bool → Spi
with_mosi s b = with_pins s (record { mosi = b; miso = s.pins.miso; sck = s.pins.sck })

abbrev pub with_miso : Spi → Bool → Spi
with_miso s b = with_pins s (record { mosi = s.pins.mosi; miso = b; sck = s.pins.sck })

abbrev pub with_sck : Spi → Bool → Spi
with_sck s b = with_pins s (record { mosi = s.pins.mosi; miso = s.pins.miso; sck = b })
