-- A clock of an SPI that is off, and of a master that stays one.
use mathlib.Core.Bool.{Bool, true, false}
use mathlib.Core.Path.{◌≡◌, refl, sym, ap, ◌∙◌}
use lib.Dec.{eqb}
use borrow.Author.Tests.{not-true}
use Rattle.choice.proofs.Picks.{split, both}
use Rattle.spi.specs.Control.{is_enabled, is_master, is_input, is_mode_fault, keeps_master}
use Rattle.spi.specs.Means.{with_sck}
use Rattle.spi.specs.Clock.{master_of, master_clock, by_mode_of, clock_of}
use Rattle.spi.specs.Holding.{stays_master}
use Rattle.spi.specs.Unit.{output_of}
use Rattle.spi.specs.declared.clock.Levels.{Levels}
use Rattle.spi.specs.declared.unit.Spi.{Spi}

pub off-clock : (s : Spi) (l : Levels) → is_enabled s.control ≡ false → clock_of s l ≡ with_sck s l.sck
unfolding by_mode_of
off-clock s l off = rw off refl

pub off-output : (s : Spi) (ss : Bool) → is_enabled s.control ≡ false → output_of s ss ≡ 0
unfolding output_of
off-output s ss off = rw off refl

module _ (s : Spi) (l : Levels) where
  -- at this level of SS ..
  pub stays-clock : stays_master s.control l.ss ≡ true → clock_of s l ≡ master_clock s l
  unfolding stays_master by_mode_of
  stays-clock h =
      let on = both (is_enabled s.control) _ h in
      let master = both (is_master s.control) _ on.1 in
      rw (on.0, master.0, not-true (is_mode_fault s.control l.ss) master.1)

  -- .. or, with SS an output, at any
  keeps-stays : keeps_master s.control ≡ true → stays_master s.control l.ss ≡ true
  unfolding keeps_master stays_master is_mode_fault
  keeps-stays h =
      let on = both (is_enabled s.control) _ h in
      let master = both (is_master s.control) _ on.1 in
      rw (on.0, master.0, not-true (is_input s.control) master.1)

  pub keeps-clock : keeps_master s.control ≡ true → clock_of s l ≡ master_clock s l
  keeps-clock h = stays-clock (keeps-stays h)

  pub keeps-control : (master_clock s l).control ≡ s.control
  unfolding master_of
  keeps-control = split (eqb s.transfer.left.0 0) (λ z. rw z) (λ z. split (eqb s.transfer.left.0 1) (λ o. rw (z, o)) (λ o. rw (z, o)))

  -- a step of a loop over such clocks: it is the unit's, and the master keeps it
  pub keeps-step : {t : Spi} → keeps_master s.control ≡ true → t ≡ master_clock s l → (t ≡ clock_of s l) × (keeps_master t.control ≡ true)
  keeps-step h e = (e ∙ sym (keeps-clock h), ap (λ (u : Spi). keeps_master u.control) e ∙ ap keeps_master keeps-control ∙ h)
