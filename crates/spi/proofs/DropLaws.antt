-- What drops a byte under way, and that a dropped one is gone: the next begins anew, with the shift register as it
-- stands.
use Prim.Native.Nat.{◌/◌, ◌%◌}
use mathlib.Core.Bool.{true, false}
use mathlib.Core.Path.{◌≡◌, refl, sym, subst}
use native.Mathlib.Omega.{arith}
use borrow.Author.Tests.{ne_eqb}
use Rattle.spi.specs.Control.{is_enabled, is_master, without_mstr, is_mode_fault}
use Rattle.spi.specs.Flag.{is_up}
use Rattle.spi.specs.Transfer.{is_under_way, dropped_of}
use Rattle.spi.specs.Means.{with_sck, with_transfer}
use Rattle.spi.specs.Clock.{fault_of, slave_of, by_mode_of, clock_of}
use Rattle.spi.specs.declared.clock.Levels.{Levels}
use Rattle.spi.specs.declared.control.Control.{Control}
use Rattle.spi.specs.declared.unit.Spi.{Spi}
use Rattle.spi.proofs.Progress.{raised-up}

pub mstr-cleared : (c : Control) → is_master (without_mstr c) ≡ false
mstr-cleared c = ne_eqb ((without_mstr c).spcr / 16 % 2) 1 (λ q. omega arith)

-- between two bytes, with the shift register and what is out as in s
pub record Dropped (s t : Spi) : Type 0 where
  pub idle : is_under_way t.transfer ≡ false
  pub shift : t.transfer.shift ≡ s.transfer.shift
  pub received : t.transfer.received ≡ s.transfer.received
  pub mosi : t.pins.mosi ≡ s.pins.mosi
  pub miso : t.pins.miso ≡ s.pins.miso

module _ (s : Spi) (l : Levels) (on : is_enabled s.control ≡ true) where
  -- SS high at a slave
  pub deselected : is_master s.control ≡ false → l.ss ≡ true → Dropped s (clock_of s l)
  unfolding by_mode_of slave_of is_under_way
  deselected m h =
      let w : by_mode_of s l ≡ with_transfer s (dropped_of s.transfer) = rw (on, m, h) refl in
      subst (λ (t : Spi). Dropped s (with_sck t l.sck)) (sym w) (record { idle = refl; shift = refl; received = refl; mosi = refl; miso = refl })

  -- a mode fault
  pub faulted : is_master s.control ≡ true → is_mode_fault s.control l.ss ≡ true
      → Dropped s (clock_of s l) × ((is_master (clock_of s l).control ≡ false) × (is_up (clock_of s l).flags.spif ≡ true))
  unfolding by_mode_of is_under_way
  faulted m h =
      let w : by_mode_of s l ≡ fault_of s = rw (on, m, h) refl in
      subst
      (λ (t : Spi). Dropped s (with_sck t l.sck) × ((is_master t.control ≡ false) × (is_up t.flags.spif ≡ true)))
      (sym w) (
        record { idle = refl; shift = refl; received = refl; mosi = refl; miso = refl },
        (mstr-cleared s.control, raised-up s.flags.spif),
      )
