-- The transfer theorems are not empty: closed lists that meet their premises.
use Prim.Native.Nat.{ℕ, zero, suc}
use mathlib.Core.Bool.{Bool, true, false}
use mathlib.Core.List.{List, [], ◌∷◌, ◌++◌}
use mathlib.Core.Path.{refl}
use lib.Dec.{lit<}
use Rattle.shifter.specs.Order.{out_bit, shifted_in}
use Rattle.shifter.specs.Edge.{is_sampling, is_putting, edge_of}
use Rattle.shifter.specs.Exchange.{first_out, next_edge, edged_of}
use Rattle.spi.specs.Control.{mode_of, divisor_number, is_mode_fault}
use Rattle.spi.specs.Means.{differs}
use Rattle.spi.specs.Transfer.{is_under_way}
use Rattle.spi.specs.Unit.{is_requested}
use Rattle.spi.specs.Clock.{master_of, is_sck_edge, presented_of, selected_of, slave_of, by_mode_of}
use Rattle.spi.specs.Register.{write_spcr, loaded_of, write_spdr, vector_of}
use Rattle.spi.specs.Event.{Event, clock, write, read, vector}
use Rattle.spi.specs.Exchange.{Exchanges}
use Rattle.spi.specs.Wired.{final_pair, in_turn, Swapped}
use Rattle.spi.specs.declared.clock.Levels.{Levels}
use Rattle.spi.specs.declared.flag.Flag.TheVariants.{Clear}
use Rattle.spi.specs.declared.unit.Spi.{Spi}
use Rattle.spi.specs.declared.register.Register.TheVariants.{Spcr, Spsr, Spdr}
use Rattle.spi.proofs.Transfers.{master-exchanges, slave-exchanges}
use Rattle.spi.proofs.WiredTurns.{wired-in-turn}

-- enabled, with these SPCR and DDRB and x in the shift register
unfoldable pub unit : ℕ → ℕ → ℕ → Spi
unit spcr ddrb x = record {
  control = record { spcr = spcr; spi2x = false; ddrb = ddrb };
  transfer = record { shift = x; received = 0; edges = 0; left = record { 0 = 0 } };
  flags = record { spif = Clear; wcol = Clear };
  pins = record { mosi = false; miso = false; sck = false };
}

-- MISO, MOSI, SCK, SS
unfoldable pub levels : Bool → Bool → Bool → Bool → Levels
levels miso mosi sck ss = record { miso = miso; mosi = mosi; sck = sck; ss = ss }

unfoldable pub clocks : Levels → ℕ → List Event → List Event
clocks l zero es = es
clocks l (suc n) es = clock l ∷ clocks l n es

-- a master of mode 3, divisor 4, low bit first: 31 clocks with polls, a write collision, a refused change of SPCR and a
-- vector without request among them, and the 32nd
unfoldable pub polled : List Event
polled =
    read Spsr ∷ clocks (levels true false false true) 9 (read Spsr ∷ write Spdr 85 ∷ clocks (levels false false false true) 12 (write Spcr 80 ∷ vector ∷ read Spsr ∷ clocks (levels true true true true) 10 []))

pub master-witness : Exchanges (mode_of (unit 124 44 0).control) (write_spdr (unit 124 44 0) 167) 167 (polled ++ (clock (levels true false true true) ∷ []))
unfolding unit levels clocks polled out_bit shifted_in is_sampling is_putting edge_of first_out next_edge edged_of divisor_number is_mode_fault is_under_way is_requested master_of by_mode_of write_spcr loaded_of vector_of
master-witness =
    master-exchanges (unit 124 44 0) 167 polled (levels true false true true) (record { enabled = refl; master = refl; idle = refl; byte = lit< tt }) refl refl

-- a slave of mode 0: SCK turns at uneven distances, with a poll and a write collision in between
unfoldable pub sensed : List Event
sensed =
    clocks (levels false true false false) 3 (clocks (levels false true true false) 1 (clocks (levels false false false false) 1 (clocks (levels false true true false) 4
    (read Spsr ∷ write Spdr 85 ∷ clocks (levels false true false false) 2 (toggled 12 true)))))
  where
    toggled : ℕ → Bool → List Event
    toggled zero sck = []
    toggled (suc n) true = clock (levels false true true false) ∷ toggled n false
    toggled (suc n) false = clock (levels false false false false) ∷ toggled n true

pub slave-witness : Exchanges (mode_of (unit 64 16 60).control) (unit 64 16 60) 60 sensed
unfolding unit levels clocks sensed out_bit shifted_in is_sampling is_putting edge_of first_out next_edge edged_of divisor_number is_under_way differs is_sck_edge presented_of selected_of slave_of by_mode_of loaded_of
slave-witness = slave-exchanges (unit 64 16 60) sensed (record { enabled = refl; slave = refl; idle = refl; byte = lit< tt }) refl refl

-- a master of mode 0, divisor 4, and a slave that is clocked after it each time
pub wired-witness : Swapped (final_pair (record { master = write_spdr (unit 80 40 0) 167; slave = unit 64 16 60 }) (in_turn 32)) 167 60
unfolding unit out_bit divisor_number is_under_way
wired-witness =
    wired-in-turn (unit 80 40 0) (unit 64 16 60) 167 (record { enabled = refl; master = refl; idle = refl; byte = lit< tt })
    (record { enabled_master = refl; enabled_slave = refl; master = refl; slave = refl; mode = refl; cpol = refl; mosi = refl; sck = refl; miso = refl })
    (record { idle = refl; byte = lit< tt; rest = refl; first = λ _. refl })
