-- Levels that are held: at rest a clock changes nothing, and a master's clocks before its edge only count. The laws
-- hold of every unit, also one out of its ranges.
use Prim.Native.Nat.{ℕ, zero, suc, ◌-◌, ◌≤◌, ◌<◌}
use mathlib.Core.Bool.{Bool, true, false}
use mathlib.Core.Path.{◌≡◌, refl, sym, ap, ap₂, ◌∙◌}
use native.Mathlib.Omega.{arith}
use lib.Dec.{eqb}
use borrow.Author.Tests.{ne_eqb, not-true}
use Rattle.choice.specs.Times.{times}
use Rattle.choice.proofs.Picks.{split, clash}
use Rattle.choice.proofs.TimesLaws.{times-fixed, times-part}
use Rattle.advance.specs.Passing.{PassedOn}
use Rattle.shifter.specs.Exchange.{first_out}
use Rattle.spi.specs.Control.{is_enabled, is_master, mode_of, is_mode_fault}
use Rattle.spi.specs.Means.{differs, with_transfer, with_left, with_miso, with_sck}
use Rattle.spi.specs.Transfer.{is_under_way, dropped_of}
use Rattle.spi.specs.Unit.{output_of, requests_of}
use Rattle.spi.specs.Clock.{master_of, master_clock, is_sck_edge, presented_of, selected_of, slave_of, by_mode_of, clock_of}
use Rattle.spi.specs.Holding.{clock_at, held_of, is_presented, slave_rests, master_rests, step_rests, is_at_rest, stays_master, waits_for, counted_of, with_spi, clocked}
use Rattle.spi.specs.declared.clock.Levels.{Levels}
use Rattle.spi.specs.declared.hold.Held.{Held}
use Rattle.spi.specs.declared.transfer.Transfer.{Transfer}
use Rattle.spi.specs.declared.unit.Spi.{Spi}
use Rattle.spi.proofs.Differing.{same-level}
use Rattle.spi.proofs.MasterLaws.{stays-clock}
use Rattle.spi.proofs.Progress.{none-under-way}

dropped-rests : (t : Transfer) → is_under_way t ≡ false → dropped_of t ≡ t
dropped-rests t h =
    let n = none-under-way t h in
    ap₂ (λ (e k : ℕ). record { shift = t.shift; received = t.received; edges = e; left = record { 0 = k } }) (sym n.0) (sym n.1)

module _ (s : Spi) where
  presented-rests : is_presented s ≡ true → presented_of s ≡ s
  unfolding is_presented presented_of
  presented-rests h =
      let first : Bool = first_out (mode_of s.control) s.transfer.shift s.pins.miso in
      split (eqb s.transfer.edges 0)
      (λ z. let same : first ≡ s.pins.miso = same-level s.pins.miso first (not-true _ (rw z at h)) in rw z (ap (with_miso s) same)) (λ z. rw z)

  module _ (l : Levels) where
    slave-rests : differs l.sck s.pins.sck ≡ false → slave_rests s l.ss ≡ true → slave_of s l ≡ s
    unfolding slave_rests slave_of selected_of is_sck_edge
    slave-rests d h =
        split l.ss (λ e. rw e (ap (with_transfer s) (dropped-rests s.transfer (not-true _ (rw e at h)))))
        (λ e. rw (e, d) (presented-rests (rw e at h)))

    step-rests : differs l.sck s.pins.sck ≡ false → step_rests s l.ss ≡ true → by_mode_of s l ≡ s
    unfolding step_rests master_rests by_mode_of master_of
    step-rests d h =
        split (is_enabled s.control)
        (λ on. split (is_master s.control)
        (λ m. split (is_mode_fault s.control l.ss) (λ f. clash (rw (on, m, f) at h) refl)
        (λ f. let none : eqb s.transfer.left.0 0 ≡ true = rw (on, m, f) at h in rw (on, m, f, none)))
        (λ m. rw (on, m) (slave-rests d (rw (on, m) at h))))
        (λ off. rw off)

    -- a clock at rest changes nothing
    pub rest-clock : is_at_rest s l ≡ true → clock_of s l ≡ s
    unfolding is_at_rest
    rest-clock h =
        split (differs l.sck s.pins.sck) (λ d. clash (rw d at h) refl)
        (λ d. ap (λ (t : Spi). with_sck t l.sck) (step-rests d (rw d at h)) ∙ ap (with_sck s) (sym (same-level l.sck s.pins.sck d)))

    pub rest-held : (n : ℕ) → is_at_rest s l ≡ true → held_of s l n ≡ s
    rest-held n h = times-fixed (clock_at l) n s (rest-clock h)

    pub rest-output : (n : ℕ) → is_at_rest s l ≡ true → output_of (held_of s l n) l.ss ≡ output_of s l.ss
    rest-output n h = ap (λ (t : Spi). output_of t l.ss) (rest-held n h)

    pub rest-requests : (n : ℕ) → is_at_rest s l ≡ true → requests_of (held_of s l n) ≡ requests_of s
    rest-requests n h = ap requests_of (rest-held n h)

    counts-one : stays_master s.control l.ss ≡ true → 2 ≤ s.transfer.left.0 → clock_of s l ≡ counted_of s l.sck 1
    unfolding master_of
    counts-one h two =
        let n : ℕ = s.transfer.left.0 in
        let counts : master_clock s l ≡ counted_of s l.sck 1 = rw (ne_eqb n 0 (λ q. omega arith), ne_eqb n 1 (λ q. omega arith)) in
        stays-clock s l h ∙ counts

counts-held : (k : ℕ) (s : Spi) (l : Levels) → stays_master s.control l.ss ≡ true → suc k < s.transfer.left.0
    → held_of s l (suc k) ≡ counted_of s l.sck (suc k)
unfolding times
counts-held zero s l m h = counts-one s l m (omega arith)
counts-held (suc k) s l m h =
    let e : s.transfer.left.0 - 1 - suc k ≡ s.transfer.left.0 - suc (suc k) = omega arith in
    ap (times (clock_at l) (suc k)) (counts-one s l m (omega arith))
    ∙ counts-held k (counted_of s l.sck 1) l m (omega arith)
    ∙ ap (λ (n : ℕ). with_sck (with_left s (record { 0 = n })) l.sck) e

-- what `waits` counts
pub waits-within : (s : Spi) (ss : Bool) {k : ℕ} → k ≡ waits_for s ss → 0 < k → (stays_master s.control ss ≡ true) × (k < s.transfer.left.0)
unfolding waits_for
waits-within s ss {k} e p =
    split (stays_master s.control ss) (λ m. (m, omega (arith, rw m at e)))
    (λ m. absurd (omega (arith, rw m at e)))

-- a step of the unit with its levels is a clock, so that many are ..
module _ (h : Held) where
  held-steps : (n : ℕ) → times clocked n h ≡ with_spi h (held_of h.spi h.levels n)
  held-steps n = times-part (clock_at h.levels) clocked (with_spi h) (λ s. refl) n h.spi

  -- .. and where it rests, it does with them
  pub held-rests : {b : Bool} → b ≡ is_at_rest h.spi h.levels → b ≡ true → clocked h ≡ h
  held-rests e r = ap (with_spi h) (rest-clock h.spi h.levels (sym e ∙ r))

  -- what `counted` makes of it
  pub held-many : {n k : ℕ} {s : Spi} → k ≡ waits_for h.spi h.levels.ss → 0 < k → k ≤ n
      → s ≡ counted_of h.spi h.levels.sck k → PassedOn clocked h n k (with_spi h s)
  held-many {n} {k = zero} q p le e = absurd (omega arith)
  held-many {n} {k = suc k} q p le e =
      let w = waits-within h.spi h.levels.ss q p in
      let c = counts-held k h.spi h.levels w.0 w.1 in
      record { some = omega arith; few = le; steps = ap (with_spi h) (e ∙ sym c) ∙ sym (held-steps (suc k)) }

pub held-spi : (s : Spi) (l : Levels) (n : ℕ) (t : Held) → t ≡ times clocked n (record { spi = s; levels = l }) → t.spi ≡ held_of s l n
held-spi s l n t e = ap (λ (t : Held). t.spi) (e ∙ held-steps (record { spi = s; levels = l }) n)

-- what the proofs of a hold rest on
pub ruleset holding = (held-spi, held-rests, held-many)
