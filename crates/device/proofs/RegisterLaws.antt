-- What a write or a vector is answered, by the unit that it goes to.
use mathlib.Core.Path.{◌≡◌, refl}
use Rattle.std.proofs.Common.{Err, Ok, Result}
use Rattle.answer.specs.Number.{number_in}
use Rattle.device.specs.Outcome.{answer_of}
use Rattle.device.specs.Register.{serial_written, spi_written}
use Rattle.device.specs.declared.unit.Device.{Device}
use Rattle.usart.specs.declared.unit.Usart.{Usart}
use Rattle.spi.specs.declared.unit.Spi.{Spi as SpiUnit}
use Rattle.answer.specs.declared.Refusal.{Refusal}

-- the device answers a unit's number
pub answer-serial : (d : Device) (w : Result Usart Refusal) → answer_of (serial_written d w) ≡ number_in w
answer-serial d (Ok u) = refl
answer-serial d (Err r) = refl

pub answer-spi : (d : Device) (w : Result SpiUnit Refusal) → answer_of (spi_written d w) ≡ number_in w
answer-spi d (Ok s) = refl
answer-spi d (Err r) = refl
