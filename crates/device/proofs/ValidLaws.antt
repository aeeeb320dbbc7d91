-- Every operation keeps the ranges of the fields; reset has them. A value of a write is a byte.
use Prim.Native.Nat.{ℕ, ◌<◌}
use mathlib.Core.List.{List, [], ◌∷◌}
use lib.Dec.{eqb}
use Rattle.std.proofs.Common.{Err, None, Ok, Option, Result, Some}
use Rattle.choice.proofs.Picks.{pick_ind}
use Rattle.usart.specs.Write.{write_of as serial_write_of, vector_of as serial_vector_of}
use Rattle.usart.specs.Event.{settled as serial_settled}
use Rattle.usart.specs.Valid.{Valid as ValidUsart}
use Rattle.usart.proofs.ValidLaws.{valid-reset as serial-reset, valid-clock as serial-clock, valid-write as serial-write, valid-read as serial-read, valid-vector as serial-vector}
use Rattle.spi.specs.Register.{write_of as spi_write_of, vector_of as spi_vector_of, settled as spi_settled}
use Rattle.spi.specs.Valid.{Valid as ValidSpi}
use Rattle.spi.proofs.ValidLaws.{valid-reset as spi-reset, valid-clock as spi-clock, valid-write as spi-write, valid-read as spi-read, valid-vector as spi-vector}
use Rattle.device.specs.Outcome.{settled, read_settled}
use Rattle.device.specs.Address.{place_of}
use Rattle.device.specs.Unit.{reset_device, rxd_in, levels_in, clock_of}
use Rattle.device.specs.Register.{serial_written, spi_written, write_in, write_of, read_in, read_of, vector_of}
use Rattle.device.specs.Run.{ran_of}
use Rattle.device.specs.Valid.{Valid}
use Rattle.device.specs.declared.unit.Device.{Device}
use Rattle.usart.specs.declared.unit.Usart.{Usart}
use Rattle.spi.specs.declared.unit.Spi.{Spi as SpiUnit}
use Rattle.answer.specs.declared.Refusal.{Refusal}
use Rattle.device.specs.declared.address.Place.{Place}
use Rattle.device.specs.declared.address.Place.TheVariants.{Serial, Spi}

pub valid-reset : Valid reset_device
valid-reset = record { usart = serial-reset; spi = spi-reset }

pub valid-clock : (d : Device) (level : ℕ) → Valid d → Valid (clock_of d level)
valid-clock d level v = record { usart = serial-clock d.usart (rxd_in level) v.usart; spi = spi-clock d.spi (levels_in level) v.spi }

-- what a unit's answer leaves
serial-settled : (d : Device) (w : Result Usart Refusal) → Valid d → ValidUsart (serial_settled d.usart w) → Valid (settled d (serial_written d w))
serial-settled d (Ok u) v h = record { usart = h; spi = v.spi }
serial-settled d (Err r) v h = v

spi-settled : (d : Device) (w : Result SpiUnit Refusal) → Valid d → ValidSpi (spi_settled d.spi w) → Valid (settled d (spi_written d w))
spi-settled d (Ok s) v h = record { usart = v.usart; spi = h }
spi-settled d (Err r) v h = v

write-in : (d : Device) (p : Option Place) (x : ℕ) → x < 256 → Valid d → Valid (settled d (write_in d p x))
write-in d (Some (Serial r)) x h v = serial-settled d (serial_write_of d.usart r x) v (serial-write d.usart r x h v.usart)
write-in d (Some (Spi r)) x h v = spi-settled d (spi_write_of d.spi r x) v (spi-write d.spi r x h v.spi)
write-in d None x h v = v

pub valid-write : (d : Device) (a x : ℕ) → x < 256 → Valid d → Valid (settled d (write_of d a x))
valid-write d a x h v = write-in d (place_of a) x h v

read-in : (d : Device) (p : Option Place) → Valid d → Valid (read_settled d (read_in d p))
read-in d (Some (Serial r)) v = record { usart = serial-read d.usart r v.usart; spi = v.spi }
read-in d (Some (Spi r)) v = record { usart = v.usart; spi = spi-read d.spi r v.spi }
read-in d None v = v

pub valid-read : (d : Device) (a : ℕ) → Valid d → Valid (read_settled d (read_of d a))
valid-read d a v = read-in d (place_of a) v

pub valid-vector : (d : Device) (n : ℕ) → Valid d → Valid (settled d (vector_of d n))
unfolding vector_of
valid-vector d n v =
    pick_ind (λ (w : Result Device Refusal). Valid (settled d w)) (eqb n 0) _ _
    (λ _. serial-settled d (serial_vector_of d.usart) v (serial-vector d.usart v.usart))
    (λ _. pick_ind (λ (w : Result Device Refusal). Valid (settled d w)) (eqb n 1) _ _ (λ _. spi-settled d (spi_vector_of d.spi) v (spi-vector d.spi v.spi)) (λ _. v))

pub valid-run : (d : Device) (levels : List ℕ) → Valid d → Valid (ran_of d levels)
unfolding ran_of
valid-run d [] v = v
valid-run d (l ∷ ls) v = valid-run (clock_of d l) ls (valid-clock d l v)
