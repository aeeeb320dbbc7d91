-- Writes, reads and vectors by their address or number (document 01, 'Numbers the rig sees': 'Order'; 'Receiver':
-- vectors).
use Rattle.std.specs.Prelude.{ℕ, eqb, Err, None, Ok, Option, Result, Some}
use Rattle.choice.specs.Pick.{pick}
use Rattle.usart.specs.Unit.{reset_usart}
use Rattle.usart.specs.Read.{read_of as serial_read_of}
use Rattle.usart.specs.Write.{write_of as serial_write_of, vector_of as serial_vector_of}
use Rattle.spi.specs.Unit.{reset_spi}
use Rattle.spi.specs.Register.{read_of as spi_read_of, write_of as spi_write_of, vector_of as spi_vector_of}
use Rattle.device.specs.Address.{place_of}
use Rattle.device.specs.Unit.{with_usart, with_spi}
use Rattle.answer.specs.declared.Refusal.TheVariants.{Unknown}
use Rattle.device.specs.declared.unit.Device.{Device}
use Rattle.usart.specs.declared.unit.Usart.{Usart}
use Rattle.spi.specs.declared.unit.Spi.{Spi as SpiUnit}
use Rattle.answer.specs.declared.Refusal.{Refusal}
use Rattle.answer.specs.declared.Reading.{Reading}
use Rattle.device.specs.declared.address.Place.{Place}
use Rattle.device.specs.declared.address.Place.TheVariants.{Serial, Spi}

-- what the registers read after reset; 0 where there is none
abbrev pub reset_in : Option Place → ℕ
reset_in (Some (Serial r)) = (serial_read_of reset_usart r).value
reset_in (Some (Spi r)) = (spi_read_of reset_spi r).value
reset_in None = 0

abbrev pub reset_at : ℕ → ℕ
reset_at a = reset_in (place_of a)

-- after reset UCSR0A is 0x20, UCSR0C 0x06, the rest 0: that reads answer this is `reset-reads`, and that `reset_at` is
-- this `reset-values` in proofs/ByteLaws.antt
abbrev pub reset_reads : ℕ → ℕ
reset_reads a = pick (eqb a 0xC0) 0x20 (pick (eqb a 0xC2) 0x06 0)

abbrev pub serial_written : Device → Result Usart Refusal → Result Device Refusal
serial_written d (Ok u) = Ok (with_usart d u)
serial_written d (Err r) = Err r

abbrev pub spi_written : Device → Result SpiUnit Refusal → Result Device Refusal
spi_written d (Ok s) = Ok (with_spi d s)
spi_written d (Err r) = Err r

-- 1 for no such address goes before a unit's own refusals
abbrev pub write_in : Device → Option Place → ℕ → Result Device Refusal
write_in d (Some (Serial r)) v = serial_written d (serial_write_of d.usart r v)
write_in d (Some (Spi r)) v = spi_written d (spi_write_of d.spi r v)
write_in d None v = Err Unknown

abbrev pub write_of : Device → ℕ → ℕ → Result Device Refusal
write_of d a v = write_in d (place_of a) v

abbrev pub serial_read : Device → Reading Usart → Result (Reading Device) Refusal
serial_read d g = Ok (record { value = g.value; after = with_usart d g.after })

abbrev pub spi_read : Device → Reading SpiUnit → Result (Reading Device) Refusal
spi_read d g = Ok (record { value = g.value; after = with_spi d g.after })

abbrev pub read_in : Device → Option Place → Result (Reading Device) Refusal
read_in d (Some (Serial r)) = serial_read d (serial_read_of d.usart r)
read_in d (Some (Spi r)) = spi_read d (spi_read_of d.spi r)
read_in d None = Err Unknown

abbrev pub read_of : Device → ℕ → Result (Reading Device) Refusal
read_of d a = read_in d (place_of a)

-- vector 0 clears TXC, vector 1 clears and disarms SPIF
unfoldable pub vector_of : Device → ℕ → Result Device Refusal
vector_of d n =
    pick (eqb n 0) (serial_written d (serial_vector_of d.usart))
    (pick (eqb n 1) (spi_written d (spi_vector_of d.spi))
    (Err Unknown))
