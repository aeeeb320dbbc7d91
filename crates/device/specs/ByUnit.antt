-- A means, no rule: a run unit by unit, as the code goes. That it comes to `ran_of` and `outputs_of` is in
-- proofs/RunLaws.
use Rattle.std.specs.Prelude.{ℕ, ◌+◌, ◌%◌, List, [], ◌∷◌, ◌≡◌}
use Rattle.usart.specs.Unit.{clock_of as serial_clock, output_of as serial_output}
use Rattle.usart.specs.declared.unit.Usart.{Usart}
use Rattle.spi.specs.Unit.{output_of as spi_output}
use Rattle.spi.specs.Clock.{clock_of as spi_clock}
use Rattle.spi.specs.declared.clock.Levels.{Levels}
use Rattle.spi.specs.declared.unit.Spi.{Spi}
use Rattle.device.specs.Unit.{rxd_in, levels_in}

-- each unit by itself, with its share of the output bytes
unfoldable pub serial_ran : Usart → List ℕ → Usart
serial_ran u [] = u
serial_ran u (l ∷ ls) = serial_ran (serial_clock u (rxd_in l)) ls

unfoldable pub serial_outputs : Usart → List ℕ → List ℕ
serial_outputs u [] = []
serial_outputs u (l ∷ ls) = serial_output (serial_clock u (rxd_in l)) ∷ serial_outputs (serial_clock u (rxd_in l)) ls

unfoldable pub spi_ran : Spi → List ℕ → Spi
spi_ran s [] = s
spi_ran s (l ∷ ls) = spi_ran (spi_clock s (levels_in l)) ls

unfoldable pub spi_outputs : Spi → List ℕ → List ℕ
spi_outputs s [] = []
spi_outputs s (l ∷ ls) = spi_output (spi_clock s (levels_in l)) (levels_in l).ss ∷ spi_outputs (spi_clock s (levels_in l)) ls

-- the shares put together, as bytes
unfoldable pub sums_of : List ℕ → List ℕ → List ℕ
sums_of [] ys = []
sums_of (x ∷ xs) [] = []
sums_of (x ∷ xs) (y ∷ ys) = (x + y) % 256 ∷ sums_of xs ys

-- each clock of a run that is made by `clocks` leaves what `spi_clock` says: the first of s, and each other of what
-- the one before leaves
abbrev pub ClocksAll : (Spi → Levels → Spi → Type 0) → Spi → List ℕ → Type 0
ClocksAll clocks s [] = Unit {0}
ClocksAll clocks s (l ∷ ls) =
    ((t : Spi) → clocks s (levels_in l) t → t ≡ spi_clock s (levels_in l))
    × ClocksAll clocks (spi_clock s (levels_in l)) ls
