-- The SPI at reset, its output and its request.
use Rattle.std.specs.Prelude.{ℕ, ◌+◌, ◌*◌, ◌%◌, Bool, false, eqb}
use Rattle.choice.specs.Pick.{pick, digit}
use Rattle.spi.specs.Flag.{is_up}
use Rattle.spi.specs.Control.{is_asking, is_enabled, is_master, cpol_of, drives}
use Rattle.spi.specs.Means.{differs}
use Rattle.spi.specs.declared.flag.Flag.TheVariants.{Clear}
use Rattle.spi.specs.declared.unit.Spi.{Spi}

-- after reset all is 0, shift registers too
abbrev pub reset_spi : Spi
reset_spi = record {
  control = record { spcr = 0; spi2x = false; ddrb = 0 };
  transfer = record { shift = 0; received = 0; edges = 0; left = record { 0 = 0 } };
  flags = record { spif = Clear; wcol = Clear };
  pins = record { mosi = false; miso = false; sck = false };
}

-- SCK rests at CPOL; each edge turns it
abbrev pub sck_of : Spi → Bool
sck_of s = differs (eqb (s.transfer.edges % 2) 1) (cpol_of s.control)

-- a level, its driven mark four places above; undriven shows 0
unfoldable pub pin_of : Bool → Bool → ℕ
pin_of driven level = pick driven (16 + digit level) 0

-- MOSI, MISO, SCK in bits 1 to 3. Driven: MOSI and SCK as master, MISO as slave with SS low, each with SPE and its DDRB
-- bit
unfoldable pub output_of : Spi → Bool → ℕ
output_of s ss =
    pick (is_enabled s.control)
    (pick (is_master s.control)
    (pin_of (drives s.control 8) s.pins.mosi * 2 + pin_of (drives s.control 32) (sck_of s) * 8)
    (pick ss 0 (pin_of (drives s.control 16) s.pins.miso * 4)))
    0

-- SPIF with SPIE
unfoldable pub is_requested : Spi → Bool
is_requested s = pick (is_asking s.control) (is_up s.flags.spif) false

-- bit 3 of the report
abbrev pub requests_of : Spi → ℕ
requests_of s = digit (is_requested s) * 8
