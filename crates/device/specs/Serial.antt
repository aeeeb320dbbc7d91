-- What the serial unit has of the device's operations, as its own events.
use Rattle.std.specs.Prelude.{ℕ, Bool, true, false, List, [], ◌∷◌, eqb, None, Option, Some}
use Rattle.choice.specs.Pick.{pick}
use Rattle.usart.specs.Event.{Event, clock, write, read, vector}
use Rattle.device.specs.Unit.{rxd_in}
use Rattle.device.specs.declared.address.Place.{Place}
use Rattle.device.specs.declared.address.Place.TheVariants.{Serial, Spi}

-- serial registers are UCSR0A, B, C, UBRR0L, UBRR0H and UDR0
abbrev pub is_serial : Option Place → Bool
is_serial (Some (Serial r)) = true
is_serial (Some (Spi r)) = false
is_serial None = false

-- the clocks of a run
abbrev pub clocks_of : List ℕ → List Event
clocks_of [] = []
clocks_of (l ∷ ls) = clock (rxd_in l) ∷ clocks_of ls

-- a write and a read of a serial register
abbrev pub writes_at : Option Place → ℕ → List Event
writes_at (Some (Serial r)) v = write r v ∷ []
writes_at (Some (Spi r)) v = []
writes_at None v = []

abbrev pub reads_at : Option Place → List Event
reads_at (Some (Serial r)) = read r ∷ []
reads_at (Some (Spi r)) = []
reads_at None = []

-- vector 0
unfoldable pub vectors_at : ℕ → List Event
vectors_at n = pick (eqb n 0) (vector ∷ []) []
