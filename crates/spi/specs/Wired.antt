-- Statements and their means, not rules: a master and a slave of this model on one wire, each with its own crystal.
use Rattle.std.specs.Prelude.{ℕ, zero, suc, ◌<◌, Bool, true, false, not, List, [], ◌∷◌, ◌≡◌}
use Rattle.choice.specs.Pick.{pick}
use Rattle.choice.specs.Bit.{is_set}
use Rattle.shifter.specs.Byte.{Presented}
use Rattle.spi.specs.Control.{is_enabled, is_master, cpol_of, mode_of, drives}
use Rattle.spi.specs.Flag.{is_up}
use Rattle.spi.specs.Transfer.{is_under_way}
use Rattle.spi.specs.Unit.{output_of}
use Rattle.spi.specs.Clock.{clock_of}
use Rattle.spi.specs.Event.{edge_at}
use Rattle.spi.specs.declared.clock.Levels.{Levels}
use Rattle.spi.specs.declared.control.Control.{Control}
use Rattle.spi.specs.declared.unit.Spi.{Spi}

pub record Pair : Type 0 where
  pub master : Spi
  pub slave : Spi

-- the levels of the wires as the output bytes give them; the master's SS is held high and the slave's low
abbrev pub bus_of : Pair → Bool → Levels
bus_of p ss = record {
  miso = is_set (output_of p.slave false) 4;
  mosi = is_set (output_of p.master true) 2;
  sck = is_set (output_of p.master true) 8;
  ss = ss;
}

-- a clock of the one, of the other, or of both at once
pub data Turn : Type 0 where
  master_turn : Turn
  slave_turn : Turn
  both_turn : Turn

abbrev pub turn_of : Pair → Turn → Pair
turn_of p master_turn = record { master = clock_of p.master (bus_of p true); slave = p.slave }
turn_of p slave_turn = record { master = p.master; slave = clock_of p.slave (bus_of p false) }
turn_of p both_turn = record { master = clock_of p.master (bus_of p true); slave = clock_of p.slave (bus_of p false) }

abbrev pub final_pair : Pair → List Turn → Pair
final_pair p [] = p
final_pair p (t ∷ ts) = final_pair (turn_of p t) ts

abbrev pub master_turns : List Turn → ℕ
master_turns [] = 0
master_turns (master_turn ∷ ts) = suc (master_turns ts)
master_turns (slave_turn ∷ ts) = master_turns ts
master_turns (both_turn ∷ ts) = suc (master_turns ts)

-- the slave can see every edge: it has a clock after each edge of the master and before the next, and after the last.
-- `unseen` is whether an edge waits for it; in a clock of both it sees the levels before
abbrev pub is_seen : Bool → Pair → List Turn → Bool
is_seen unseen p [] = not unseen
is_seen unseen p (master_turn ∷ ts) =
    let q : Pair = turn_of p master_turn in
    pick (edge_at p.master (bus_of p true).sck) (pick unseen false (is_seen true q ts)) (is_seen unseen q ts)
is_seen unseen p (slave_turn ∷ ts) = is_seen false (turn_of p slave_turn) ts
is_seen unseen p (both_turn ∷ ts) =
    let q : Pair = turn_of p both_turn in
    pick (edge_at p.master (bus_of p true).sck) (pick unseen false (is_seen true q ts)) (is_seen false q ts)

-- n clocks of each, in turn
abbrev pub in_turn : ℕ → List Turn
in_turn zero = []
in_turn (suc n) = master_turn ∷ slave_turn ∷ in_turn n

-- n clocks of both at once
abbrev pub at_once : ℕ → List Turn
at_once zero = []
at_once (suc n) = both_turn ∷ at_once n

-- both enabled, of one mode and polarity, each driving its pins
pub record Linked (a b : Control) : Type 0 where
  pub enabled_master : is_enabled a ≡ true
  pub enabled_slave : is_enabled b ≡ true
  pub master : is_master a ≡ true
  pub slave : is_master b ≡ false
  pub mode : mode_of b ≡ mode_of a
  pub cpol : cpol_of b ≡ cpol_of a
  pub mosi : drives a 8 ≡ true
  pub sck : drives a 32 ≡ true
  pub miso : drives b 16 ≡ true

-- a slave between two bytes that has had a clock on the wire at rest: it has seen SCK there, and with CPHA 0 it shows
-- its first bit
pub record Ready (s : Spi) : Type 0 where
  pub idle : s.transfer.edges ≡ 0
  pub byte : s.transfer.shift < 256
  pub rest : s.pins.sck ≡ cpol_of s.control
  pub first : Presented (mode_of s.control) (record { shift = s.transfer.shift; out = s.pins.miso })

-- the master has the slave's byte x, the slave the master's v, and both say so
pub record Swapped (p : Pair) (v x : ℕ) : Type 0 where
  pub master : p.master.transfer.received ≡ x
  pub slave : p.slave.transfer.received ≡ v
  pub spif_master : is_up p.master.flags.spif ≡ true
  pub spif_slave : is_up p.slave.flags.spif ≡ true
  pub idle_master : is_under_way p.master.transfer ≡ false
  pub idle_slave : is_under_way p.slave.transfer ≡ false
