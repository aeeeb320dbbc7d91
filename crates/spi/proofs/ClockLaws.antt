-- One clock of an enabled SPI with SS as it has to be, of a master and of a slave, without an edge and with one.
use Prim.Native.Nat.{ℕ, ◌+◌, ◌-◌}
use mathlib.Core.Bool.{Bool, true, false}
use mathlib.Core.Path.{◌≡◌, ap, ◌∙◌}
use native.Mathlib.Omega.{arith}
use lib.Dec.{eqb}
use borrow.Author.Tests.{eqb-true, ne_eqb, not-true}
use Rattle.choice.specs.Pick.{pick}
use Rattle.choice.proofs.Picks.{split}
use Rattle.shifter.specs.Exchange.{first_out, edged_of}
use Rattle.shifter.specs.declared.Edged.{Edged}
use Rattle.shifter.specs.declared.Edged.TheVariants.{Onward}
use Rattle.shifter.specs.declared.Exchange.{Exchange}
use Rattle.shifter.specs.declared.Shifter.{Shifter}
use Rattle.spi.specs.Control.{is_enabled, is_master, mode_of, half, is_mode_fault}
use Rattle.spi.specs.Means.{with_left, with_miso, with_sck}
use Rattle.spi.specs.Transfer.{byte_of, edged_transfer, edged_flags, edged_out}
use Rattle.spi.specs.Clock.{master_edge, master_of, master_clock, presented_of, slave_edge, selected_of, slave_of, by_mode_of, clock_of}
use Rattle.spi.specs.Event.{is_kept, edge_at, input_of, out_of}
use Rattle.spi.specs.declared.clock.Levels.{Levels}
use Rattle.spi.specs.declared.transfer.Transfer.{Transfer}
use Rattle.spi.specs.declared.unit.Spi.{Spi}

-- MISO of a slave as a clock with SS low finds it at its edge
abbrev pub shown_miso : Spi → Bool
shown_miso s =
    pick (eqb s.transfer.edges 0) (first_out (mode_of s.control) s.transfer.shift s.pins.miso) s.pins.miso

pub presented-as : (s : Spi) → presented_of s ≡ with_miso s (shown_miso s)
unfolding presented_of
presented-as s = split (eqb s.transfer.edges 0) (λ z. rw z) (λ z. rw z)

-- the shift register and the bit that is out at the next edge
abbrev pub view_of : Spi → Shifter
view_of s = record { shift = s.transfer.shift; out = pick (is_master s.control) s.pins.mosi (shown_miso s) }

-- the unit after a clock without an edge, of master and slave alike
abbrev pub waited_as : Spi → Bool → Spi
waited_as s sck =
    let m : Bool = is_master s.control in
    let t : Transfer = s.transfer in
    record {
      control = s.control;
      transfer = record { shift = t.shift; received = t.received; edges = t.edges; left = pick m (record { 0 = t.left.0 - 1 }) t.left };
      flags = s.flags;
      pins = record { mosi = s.pins.mosi; miso = pick m s.pins.miso (shown_miso s); sck = sck };
    }

pub waited-view : (s : Spi) (sck : Bool) → view_of (waited_as s sck) ≡ view_of s
unfolding first_out
waited-view s sck =
    split (is_master s.control) (λ m. rw m)
    (λ m. split (eqb s.transfer.edges 0) (λ z. split (mode_of s.control).cpha (λ p. rw (m, z, p)) (λ p. rw (m, z, p))) (λ z. rw (m, z)))

pub waited-out : (s : Spi) (sck : Bool) → out_of (waited_as s sck) ≡ (view_of s).out
waited-out s sck = split (is_master s.control) (λ m. rw m) (λ m. rw m)

pub waited-left : (s : Spi) (sck : Bool) → s.transfer.left.0 ≡ 0 → (waited_as s sck).transfer.left.0 ≡ 0
waited-left s sck h = split (is_master s.control) (λ m. rw m (omega (arith, h))) (λ m. rw m h)

-- and after an edge
abbrev pub edged_as : Spi → Bool → Edged → Spi
edged_as s sck e =
    let m : Bool = is_master s.control in
    record {
      control = s.control;
      transfer = edged_transfer s.transfer (pick m (record { 0 = half s.control }) (record { 0 = 0 })) e;
      flags = edged_flags s.flags e;
      pins = record { mosi = pick m (edged_out e) s.pins.mosi; miso = pick m s.pins.miso (edged_out e); sck = sck };
    }

pub edged-out : (s : Spi) (sck : Bool) (e : Edged) → out_of (edged_as s sck e) ≡ edged_out e
edged-out s sck e = split (is_master s.control) (λ m. rw m) (λ m. rw m)

pub edged-view : (s : Spi) (sck : Bool) (x : Exchange) (k : ℕ) → x.edges ≡ k + 1 → view_of (edged_as s sck (Onward x)) ≡ x.register
edged-view s sck x k h =
    ap (λ (b : Bool). record { shift = x.register.shift; out = b })
    (split (is_master s.control) (λ m. rw m) (λ m. rw (m, ne_eqb x.edges 0 (λ q. omega arith))))

module _ (s : Spi) (l : Levels) (on : is_enabled s.control ≡ true) (kept : is_kept s.control l ≡ true) where
  master-clock : is_master s.control ≡ true → clock_of s l ≡ master_clock s l
  unfolding by_mode_of
  master-clock m = rw (on, m, not-true (is_mode_fault s.control l.ss) (rw m at kept))

  slave-clock : is_master s.control ≡ false → clock_of s l ≡ with_sck (selected_of s l) l.sck
  unfolding by_mode_of slave_of
  slave-clock m = rw (on, m, not-true l.ss (rw m at kept))

  master-waits : is_master s.control ≡ true → edge_at s l.sck ≡ false
      → clock_of s l ≡ with_sck (with_left s (record { 0 = s.transfer.left.0 - 1 })) l.sck
  unfolding master_of
  master-waits m q =
      let n : ℕ = s.transfer.left.0 in
      let one : eqb n 1 ≡ false = rw m at q in
      master-clock m
      ∙ split (eqb n 0) (λ z. let e : n - 1 ≡ n = omega (arith, eqb-true n 0 z) in rw (z, e)) (λ z. rw (z, one))

  master-edges : is_master s.control ≡ true → edge_at s l.sck ≡ true → clock_of s l ≡ with_sck (master_edge s l.miso) l.sck
  unfolding master_of
  master-edges m q =
      let n : ℕ = s.transfer.left.0 in
      let one : eqb n 1 ≡ true = rw m at q in
      master-clock m ∙ rw (ne_eqb n 0 (λ z. omega (arith, eqb-true n 1 one)), one)

  slave-waits : is_master s.control ≡ false → edge_at s l.sck ≡ false → clock_of s l ≡ with_sck (with_miso s (shown_miso s)) l.sck
  unfolding selected_of
  slave-waits m q = slave-clock m ∙ rw (rw m at q, presented-as s)

  slave-edges : is_master s.control ≡ false → edge_at s l.sck ≡ true
      → clock_of s l ≡ with_sck (slave_edge (with_miso s (shown_miso s)) l.mosi) l.sck
  unfolding selected_of
  slave-edges m q = slave-clock m ∙ rw (rw m at q, presented-as s)

  pub clock-waits : edge_at s l.sck ≡ false → clock_of s l ≡ waited_as s l.sck
  clock-waits q = split (is_master s.control) (λ m. master-waits m q ∙ rw m) (λ m. slave-waits m q ∙ rw m)

  pub clock-edges : edge_at s l.sck ≡ true
      → clock_of s l ≡ edged_as s l.sck (edged_of (mode_of s.control) (byte_of s.transfer (view_of s).out) (input_of s.control l))
  clock-edges q = split (is_master s.control) (λ m. master-edges m q ∙ rw m) (λ m. slave-edges m q ∙ rw m)
