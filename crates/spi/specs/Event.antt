-- Means of the statements, not rules: lists of clocks and register accesses on the SPI, the edges among them, and what
-- leaves a byte under way alone.
use Rattle.std.specs.Prelude.{ℕ, Bool, true, false, not, List, eqb, Err, Ok, Result}
use Rattle.choice.specs.Pick.{pick}
use Rattle.shifter.specs.Carrier as shifter
use Rattle.spi.specs.Control.{is_master, cpol_of, is_mode_fault}
use Rattle.spi.specs.Transfer.{is_under_way}
use Rattle.spi.specs.Clock.{is_sck_edge, clock_of}
use Rattle.spi.specs.Register.{settled, write_of, read_of, vector_of}
use Rattle.spi.specs.declared.clock.Levels.{Levels}
use Rattle.spi.specs.declared.control.Control.{Control}
use Rattle.spi.specs.declared.unit.Spi.{Spi}
use Rattle.spi.specs.declared.register.Register.{Register}
use Rattle.spi.specs.declared.register.Register.TheVariants.{Spcr, Spsr, Spdr, Ddrb}
use Rattle.answer.specs.declared.Refusal.{Refusal}

-- a clock with the levels of the pins, a write, a read, or vector 1 taken
pub data Event : Type 0 where
  clock : Levels → Event
  write : Register → ℕ → Event
  read : Register → Event
  vector : Event

abbrev pub next_of : Spi → Event → Spi
next_of s (clock l) = clock_of s l
next_of s (write r v) = settled s (write_of s r v)
next_of s (read r) = (read_of s r).after
next_of s vector = settled s (vector_of s)

-- SS as it has to be: no mode fault of a master, and low for a slave
abbrev pub is_kept : Control → Levels → Bool
is_kept c l = pick (is_master c) (not (is_mode_fault c l.ss)) (not l.ss)

abbrev pub is_refused : Result Spi Refusal → Bool
is_refused (Ok s) = false
is_refused (Err r) = true

-- a write of SPDR that finds a transfer under way
abbrev pub is_collision : Spi → Register → Bool
is_collision s Spcr = false
is_collision s Spsr = false
is_collision s Spdr = is_under_way s.transfer
is_collision s Ddrb = false

-- what leaves a byte under way alone: any read, the vector, refused writes and write collisions, and clocks with SS as
-- it has to be
abbrev pub is_harmless : Spi → Event → Bool
is_harmless s (clock l) = is_kept s.control l
is_harmless s (write r v) = pick (is_refused (write_of s r v)) true (is_collision s r)
is_harmless s (read r) = true
is_harmless s vector = true

-- whether the next clock is an edge: for a master by its clocks left, for a slave by SCK
abbrev pub edge_at : Spi → Bool → Bool
edge_at s sck =
    pick (is_master s.control) (eqb s.transfer.left.0 1)
    (is_sck_edge (cpol_of s.control) s.transfer.edges s.pins.sck sck)

-- a master samples MISO, a slave MOSI
abbrev pub input_of : Control → Levels → Bool
input_of c l = pick (is_master c) l.miso l.mosi

-- a master puts out on MOSI, a slave on MISO
abbrev pub out_of : Spi → Bool
out_of s = pick (is_master s.control) s.pins.mosi s.pins.miso

abbrev pub is_clock : Event → Bool
is_clock (clock l) = true
is_clock (write r v) = false
is_clock (read r) = false
is_clock vector = false

abbrev pub is_edge_in : Spi → Event → Bool
is_edge_in s (clock l) = edge_at s l.sck
is_edge_in s (write r v) = false
is_edge_in s (read r) = false
is_edge_in s vector = false

-- the level of the input at a clock
abbrev pub input_in : Spi → Event → Bool
input_in s (clock l) = input_of s.control l
input_in s (write r v) = false
input_in s (read r) = false
input_in s vector = false

-- the SPI as one that carries a byte: what follows is `shifter`'s, of this unit
abbrev pub carrier : shifter.Carrier Spi Event
carrier = record {
  next = next_of;
  is_clock = is_clock;
  is_harmless = is_harmless;
  is_edge = is_edge_in;
  input = input_in;
  out = out_of;
}

abbrev pub final_of : Spi → List Event → Spi
final_of = shifter.final_of carrier

abbrev pub clocks_in : List Event → ℕ
clocks_in = shifter.clocks_in carrier

abbrev pub is_undisturbed : Spi → List Event → Bool
is_undisturbed = shifter.is_undisturbed carrier

-- the list ends with its n-th edge
abbrev pub is_up_to : ℕ → Spi → List Event → Bool
is_up_to = shifter.is_up_to carrier
