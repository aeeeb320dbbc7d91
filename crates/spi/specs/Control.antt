-- The bits of SPCR, SPI2X and DDRB (bit places by source 004; document 01, 'Registers and their writes').
use Rattle.std.specs.Prelude.{ℕ, ◌+◌, ◌*◌, ◌/◌, ◌%◌, Bool, false, not}
use Rattle.choice.specs.Pick.{pick}
use Rattle.choice.specs.Bit.{is_set}
use Rattle.shifter.specs.declared.Mode.{Mode}
use Rattle.spi.specs.Divisor.{half_of}
use Rattle.spi.specs.declared.control.Control.{Control}

-- SPIE
abbrev pub is_asking : Control → Bool
is_asking c = is_set c.spcr 128

-- SPE
abbrev pub is_enabled : Control → Bool
is_enabled c = is_set c.spcr 64

-- MSTR
abbrev pub is_master : Control → Bool
is_master c = is_set c.spcr 16

abbrev pub cpol_of : Control → Bool
cpol_of c = is_set c.spcr 8

-- CPHA and DORD
abbrev pub mode_of : Control → Mode
mode_of c = record { cpha = is_set c.spcr 4; dord = is_set c.spcr 32 }

-- SPI2X, SPR1, SPR0
unfoldable pub divisor_number : Control → ℕ
divisor_number c = pick c.spi2x (4 + c.spcr % 4) (c.spcr % 4)

-- h
abbrev pub half : Control → ℕ
half c = half_of (divisor_number c)

-- MSTR cleared
abbrev pub without_mstr : Control → Control
without_mstr c = record { spcr = c.spcr / 32 * 32 + c.spcr % 16; spi2x = c.spi2x; ddrb = c.ddrb }

-- bit n of DDRB, by its weight: the pin is an output
abbrev pub drives : Control → ℕ → Bool
drives c w = is_set c.ddrb w

-- SS, bit 2 of DDRB, is an input
abbrev pub is_input : Control → Bool
is_input c = not (drives c 4)

-- a mode fault, of a master: SS is an input and low
unfoldable pub is_mode_fault : Control → Bool → Bool
is_mode_fault c ss = pick (is_input c) (not ss) false

-- SPE and MSTR are set and SS is an output, so that no mode fault can come
unfoldable pub keeps_master : Control → Bool
keeps_master c = pick (is_enabled c) (pick (is_master c) (not (is_input c)) false) false
