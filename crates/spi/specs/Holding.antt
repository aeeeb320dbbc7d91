-- Means, not rules: one level of each pin held for many clocks, and the unit at rest, which such clocks leave as it is.
use Rattle.std.specs.Prelude.{ℕ, ◌-◌, Bool, true, false, not, eqb, ltb, Option, None}
use Rattle.choice.specs.Pick.{pick}
use Rattle.choice.specs.Times.{times}
use Rattle.advance.specs.Passing.{taken}
use Rattle.advance.specs.declared.Passed.{Passed}
use Rattle.shifter.specs.Exchange.{first_out}
use Rattle.spi.specs.Control.{is_enabled, is_master, mode_of, is_mode_fault}
use Rattle.spi.specs.Means.{differs, with_left, with_sck}
use Rattle.spi.specs.Transfer.{is_under_way}
use Rattle.spi.specs.Clock.{clock_of}
use Rattle.spi.specs.declared.clock.Levels.{Levels}
use Rattle.spi.specs.declared.control.Control.{Control}
use Rattle.spi.specs.declared.hold.Held.{Held}
use Rattle.spi.specs.declared.unit.Spi.{Spi}

abbrev pub clock_at : Levels → Spi → Spi
clock_at l s = clock_of s l

-- n clocks, each with the same levels
abbrev pub held_of : Spi → Levels → ℕ → Spi
held_of s l n = times (clock_at l) n s

-- with no edge seen the bit that is out before edge 1 is out already; within a byte none is put out without an edge
unfoldable pub is_presented : Spi → Bool
is_presented s =
    let first : Bool = first_out (mode_of s.control) s.transfer.shift s.pins.miso in
    pick (eqb s.transfer.edges 0) (not (differs s.pins.miso first)) true

-- a slave: deselected with no byte under way, or selected with its bit out, also within a byte
unfoldable pub slave_rests : Spi → Bool → Bool
slave_rests s ss = pick ss (not (is_under_way s.transfer)) (is_presented s)

-- a master: no edge is due, and no mode fault comes
unfoldable pub master_rests : Spi → Bool → Bool
master_rests s ss = pick (is_mode_fault s.control ss) false (eqb s.transfer.left.0 0)

unfoldable pub step_rests : Spi → Bool → Bool
step_rests s ss = pick (is_enabled s.control) (pick (is_master s.control) (master_rests s ss) (slave_rests s ss)) true

-- at rest: the kept level of SCK is the one held, and nothing moves
unfoldable pub is_at_rest : Spi → Levels → Bool
is_at_rest s l = pick (differs l.sck s.pins.sck) false (step_rests s l.ss)

-- a master that this level of SS leaves one
unfoldable pub stays_master : Control → Bool → Bool
stays_master c ss = pick (is_enabled c) (pick (is_master c) (not (is_mode_fault c ss)) false) false

-- the clocks that it only counts, up to the one before its next edge ..
unfoldable pub waits_for : Spi → Bool → ℕ
waits_for s ss = pick (stays_master s.control ss) (s.transfer.left.0 - 1) 0

-- .. and the unit after k of them
abbrev pub counted_of : Spi → Bool → ℕ → Spi
counted_of s sck k = with_sck (with_left s (record { 0 = s.transfer.left.0 - k })) sck

-- the levels that are held stay beside the unit ..
abbrev pub with_spi : Held → Spi → Held
with_spi h s = record { spi = s; levels = h.levels }

-- .. and a step is a clock with them
abbrev pub clocked : Held → Held
clocked h = with_spi h (clock_of h.spi h.levels)

-- at rest with the levels that are held
abbrev pub rests_held : Held → Bool
rests_held h = is_at_rest h.spi h.levels

-- all the clocks that a master only counts, where n has room for them, taken at once
abbrev pub counted_held : Held → ℕ → Option (Passed Held ℕ)
counted_held h n =
    let k : ℕ = waits_for h.spi h.levels.ss in
    pick (ltb n k) None (taken (with_spi h (counted_of h.spi h.levels.sck k)) k)
