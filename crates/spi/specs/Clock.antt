-- One clock of the SPI as master and as slave (document 01, 'SPI').
use Rattle.std.specs.Prelude.{ℕ, ◌-◌, Bool, true, false, eqb}
use Rattle.choice.specs.Pick.{pick}
use Rattle.shifter.specs.Exchange.{first_out, edged_of}
use Rattle.shifter.specs.declared.Edged.{Edged}
use Rattle.spi.specs.Flag.{raised_flags}
use Rattle.spi.specs.Control.{is_enabled, is_master, cpol_of, mode_of, half, without_mstr, is_mode_fault}
use Rattle.spi.specs.Means.{differs, with_transfer, with_left, with_mosi, with_miso, with_sck}
use Rattle.spi.specs.Transfer.{dropped_of, byte_of, edged_transfer, edged_flags, edged_out}
use Rattle.spi.specs.declared.clock.Levels.{Levels}
use Rattle.spi.specs.declared.unit.Spi.{Spi}

-- an edge moves the transfer, with the clocks to the next one, and edge 16 sets SPIF
abbrev pub after_edge : Spi → Edged → ℕ → Spi
after_edge s e left =
    record {
      control = s.control;
      transfer = edged_transfer s.transfer (record { 0 = left }) e;
      flags = edged_flags s.flags e;
      pins = s.pins;
    }

-- the master's next edge: MOSI is put out, MISO sampled; the edge after it is h clocks away
abbrev pub master_edge : Spi → Bool → Spi
master_edge s miso =
    let e : Edged = edged_of (mode_of s.control) (byte_of s.transfer s.pins.mosi) miso in
    with_mosi (after_edge s e (half s.control)) (edged_out e)

-- edge k of SCK comes on the k·h-th clock after the write
unfoldable pub master_of : Spi → Bool → Spi
master_of s miso =
    pick (eqb s.transfer.left.0 0) s
    (pick (eqb s.transfer.left.0 1) (master_edge s miso)
    (with_left s (record { 0 = s.transfer.left.0 - 1 })))

-- a clock of a master that keeps it; the level of SCK is kept for the next
abbrev pub master_clock : Spi → Levels → Spi
master_clock s l = with_sck (master_of s l.miso) l.sck

-- a mode fault makes the master a slave: MSTR cleared, SPIF set, transfer dropped; no edge counts and nothing is put
-- out
abbrev pub fault_of : Spi → Spi
fault_of s =
    record {
      control = without_mstr s.control;
      transfer = dropped_of s.transfer;
      flags = raised_flags s.flags;
      pins = s.pins;
    }

-- the edges are those of the SCK level against the clock before; the first must be a leading edge
unfoldable pub is_sck_edge : Bool → ℕ → Bool → Bool → Bool
is_sck_edge cpol edges last sck = pick (differs sck last) (pick (eqb edges 0) (differs sck cpol) true) false

-- with CPHA 0 a clock that begins with no edge seen puts out the first bit, which is the one that leaves at edge 1
unfoldable pub presented_of : Spi → Spi
presented_of s =
    let first : Bool = first_out (mode_of s.control) s.transfer.shift s.pins.miso in
    pick (eqb s.transfer.edges 0) (with_miso s first) s

-- the slave's next edge: MISO is put out, MOSI sampled
abbrev pub slave_edge : Spi → Bool → Spi
slave_edge s mosi =
    let e : Edged = edged_of (mode_of s.control) (byte_of s.transfer s.pins.miso) mosi in
    with_miso (after_edge s e 0) (edged_out e)

-- a slave with SS low
unfoldable pub selected_of : Spi → Levels → Spi
selected_of s l =
    pick (is_sck_edge (cpol_of s.control) s.transfer.edges s.pins.sck l.sck)
    (slave_edge (presented_of s) l.mosi) (presented_of s)

-- SS high drops a partial byte
unfoldable pub slave_of : Spi → Levels → Spi
slave_of s l = pick l.ss (with_transfer s (dropped_of s.transfer)) (selected_of s l)

unfoldable pub by_mode_of : Spi → Levels → Spi
by_mode_of s l =
    pick (is_enabled s.control)
    (pick (is_master s.control)
    (pick (is_mode_fault s.control l.ss) (fault_of s) (master_of s l.miso))
    (slave_of s l))
    s

-- the SCK level is kept at every clock
abbrev pub clock_of : Spi → Levels → Spi
clock_of s l = with_sck (by_mode_of s l) l.sck
