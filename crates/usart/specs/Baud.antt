-- The baud clock (document 01, 'Baud clock, sender').
use Rattle.std.specs.Prelude.{ℕ, zero, suc, ◌+◌, ◌-◌, ◌*◌, Bool, eqb}
use Rattle.choice.specs.Pick.{pick, digit}
use Rattle.usart.specs.declared.baud.Clocks.{Clocks}
use Rattle.usart.specs.declared.baud.Baud.{Baud}

-- at each clock: if the counter is 0 it gives a tick ..
abbrev pub ticks : Baud → Bool
ticks b = eqb b.left.0 0

-- .. and is loaded with UBRR, else it falls by one
unfoldable pub left_of : Clocks → ℕ → Clocks
left_of c ubrr = pick (eqb c.0 0) (record { 0 = ubrr }) (record { 0 = c.0 - 1 })

abbrev pub baud_of : Baud → Baud
baud_of b = record { ubrr = b.ubrr; left = left_of b.left b.ubrr }

-- how many of the next n clocks give a tick
unfoldable pub ticks_in : Baud → ℕ → ℕ
ticks_in b zero = 0
ticks_in b (suc n) = digit (ticks b) + ticks_in (baud_of b) n

-- ticks are UBRR + 1 clocks apart: the clocks from one on that n of them take
abbrev pub clocks_for : Baud → ℕ → ℕ
clocks_for b n = n * (b.ubrr + 1)

-- UBRR0L: stores and loads the baud counter with all of UBRR
abbrev pub loaded_baud : ℕ → Baud
loaded_baud ubrr = record { ubrr = ubrr; left = record { 0 = ubrr } }
