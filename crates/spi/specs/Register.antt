-- Reads and writes of SPCR, SPSR, SPDR and DDRB, and vector 1 (document 01, 'Registers and their writes' and 'SPI').
use Rattle.std.specs.Prelude.{ℕ, ◌+◌, ◌*◌, ◌%◌, Bool, not, eqb, Err, Ok, Result}
use Rattle.choice.specs.Pick.{pick, digit}
use Rattle.choice.specs.Bit.{is_set}
use Rattle.shifter.specs.Exchange.{first_out}
use Rattle.spi.specs.Flag.{is_up, armed_flags, cleared_flags, collided_flags}
use Rattle.spi.specs.Control.{is_enabled, is_master, mode_of, half}
use Rattle.spi.specs.Transfer.{is_under_way, dropped_of}
use Rattle.spi.specs.Means.{differs, with_control, with_transfer, with_flags, with_mosi}
use Rattle.spi.specs.Unit.{is_requested}
use Rattle.spi.specs.declared.flag.Flag.TheVariants.{Clear}
use Rattle.spi.specs.declared.unit.Spi.{Spi}
use Rattle.spi.specs.declared.register.Register.{Register}
use Rattle.spi.specs.declared.register.Register.TheVariants.{Spcr, Spsr, Spdr, Ddrb}
use Rattle.answer.specs.declared.Refusal.TheVariants.{UnderWay, Unrequested}
use Rattle.answer.specs.declared.Refusal.{Refusal}
use Rattle.answer.specs.declared.Reading.{Reading}

-- a refused access leaves the unit as it was
abbrev pub settled : Spi → Result Spi Refusal → Spi
settled s (Ok t) = t
settled s (Err r) = s

-- SPCR with its new value
abbrev pub set_spcr : Spi → ℕ → Spi
set_spcr s v = with_control s (record { spcr = v; spi2x = s.control.spi2x; ddrb = s.control.ddrb })

-- SPCR during a transfer: with SPE cleared the transfer is dropped; else a change in bits 5 to 0 is 4
unfoldable pub write_spcr : Spi → ℕ → Result Spi Refusal
write_spcr s v =
    pick (is_under_way s.transfer)
    (pick (not (is_set v 64)) (Ok (set_spcr (with_transfer s (dropped_of s.transfer)) v))
    (pick (eqb (v % 64) (s.control.spcr % 64)) (Ok (set_spcr s v)) (Err UnderWay)))
    (Ok (set_spcr s v))

abbrev pub set_spi2x : Spi → Bool → Spi
set_spi2x s b = with_control s (record { spcr = s.control.spcr; spi2x = b; ddrb = s.control.ddrb })

-- SPSR: only SPI2X (bit 0) is written; changing it during a transfer is 4
unfoldable pub write_spsr : Spi → ℕ → Result Spi Refusal
write_spsr s v =
    pick (differs (is_set v 1) s.control.spi2x)
    (pick (is_under_way s.transfer) (Err UnderWay) (Ok (set_spi2x s (is_set v 1))))
    (Ok s)

-- a write of SPDR that is not taken only sets WCOL
abbrev pub collided : Spi → Spi
collided s = with_flags s (collided_flags s.flags)

-- the shift register is filled, with the clocks to the first edge
abbrev pub filled : Spi → ℕ → ℕ → Spi
filled s v n =
    with_transfer s (record { shift = v; received = s.transfer.received; edges = 0; left = record { 0 = n } })

-- as master, writing SPDR starts a transfer; with CPHA 0 the first bit is out at once
abbrev pub started_of : Spi → ℕ → Spi
started_of s v = with_mosi (filled s v (half s.control)) (first_out (mode_of s.control) v s.pins.mosi)

-- during a transfer it sets WCOL and nothing else; with SPE set otherwise it fills the shift register; with SPE clear
-- it is ignored
unfoldable pub loaded_of : Spi → ℕ → Spi
loaded_of s v =
    pick (is_under_way s.transfer) (collided s)
    (pick (is_enabled s.control) (pick (is_master s.control) (started_of s v) (filled s v 0)) s)

-- an SPDR access clears the armed flags first, then does its own work
abbrev pub accessed : Spi → Spi
accessed s = with_flags s (cleared_flags s.flags)

abbrev pub write_spdr : Spi → ℕ → Spi
write_spdr s v = loaded_of (accessed s) v

-- DDRB: all eight bits kept
abbrev pub set_ddrb : Spi → ℕ → Spi
set_ddrb s v = with_control s (record { spcr = s.control.spcr; spi2x = s.control.spi2x; ddrb = v })

abbrev pub write_of : Spi → Register → ℕ → Result Spi Refusal
write_of s Spcr v = write_spcr s v
write_of s Spsr v = write_spsr s v
write_of s Spdr v = Ok (write_spdr s v)
write_of s Ddrb v = Ok (set_ddrb s v)

-- SPIF, WCOL and SPI2X
abbrev pub spsr : Spi → ℕ
spsr s = digit (is_up s.flags.spif) * 128 + digit (is_up s.flags.wcol) * 64 + digit s.control.spi2x

-- reading SPSR arms; reading SPDR clears the armed ones and answers the receive buffer
abbrev pub read_of : Spi → Register → Reading Spi
read_of s Spcr = record { value = s.control.spcr; after = s }
read_of s Spsr = record { value = spsr s; after = with_flags s (armed_flags s.flags) }
read_of s Spdr = record { value = s.transfer.received; after = accessed s }
read_of s Ddrb = record { value = s.control.ddrb; after = s }

-- vector 1 clears and disarms SPIF; without its request it is 8
unfoldable pub vector_of : Spi → Result Spi Refusal
vector_of s =
    pick (is_requested s) (Ok (with_flags s (record { spif = Clear; wcol = s.flags.wcol }))) (Err Unrequested)
