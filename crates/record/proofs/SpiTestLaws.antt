-- The test of the SPI's bytes holds of exactly the valid units whose numbers are bytes. Assumes nothing.
use Prim.Native.Nat.{ℕ, ◌<◌, ◌≤◌}
use mathlib.Core.Bool.{Bool, true, false, ◌&&◌}
use mathlib.Core.Path.{◌≡◌, refl, sym, ap, ◌∙◌}
use native.Mathlib.Omega.{arith}
use lib.Dec.{eqb, leb}
use borrow.Author.Tests.{eqb-true, eqb-false, leb-true, eq-eqb, ne_eqb, le-leb}
use Rattle.choice.specs.Pick.{digit}
use Rattle.choice.proofs.Digits.{digit-is}
use Rattle.choice.proofs.Picks.{split}
use Rattle.spi.specs.Control.{is_enabled, is_master, mode_of, half}
use Rattle.spi.specs.Unit.{sck_of}
use Rattle.spi.specs.Valid.{is_first_out, first_bit, Valid}
use Rattle.spi.specs.declared.unit.Spi.{Spi}
use Rattle.record.specs.Accepts.{out_fits, master_fits, slave_fits, spi_fits}
use Rattle.record.proofs.ListLaws.{and_both, and-pair}
use Rattle.record.proofs.TestLaws.{on-true, on-false, either}

same : (a b : Bool) → eqb (digit a) (digit b) ≡ true → a ≡ b
same a b h = sym (digit-is a) ∙ ap (λ (n : ℕ). eqb n 1) (eqb-true (digit a) (digit b) h) ∙ digit-is b

alike : (a b : Bool) → a ≡ b → eqb (digit a) (digit b) ≡ true
alike a b h = eq-eqb (digit a) (digit b) (ap digit h)

module _ (s : Spi) where
  abbrev edges : ℕ
  edges = s.transfer.edges

  abbrev left : ℕ
  left = s.transfer.left.0

  abbrev is_out : Bool
  is_out = is_first_out (mode_of s.control) edges

  out-fits : (out : Bool) → (is_out ≡ true → out ≡ first_bit s) → out_fits s out ≡ true
  unfolding out_fits
  out-fits out h = either is_out _ _ (λ e. alike out (first_bit s) (h e)) (λ _. refl)

  out-valid : (out : Bool) → out_fits s out ≡ true → is_out ≡ true → out ≡ first_bit s
  unfolding out_fits
  out-valid out h e = same out (first_bit s) (on-true is_out _ _ h e)

  some : (n : ℕ) → eqb n 0 ≡ false → 1 ≤ n
  some n e = let z = eqb-false n 0 e in omega arith

  module _ (v : Valid s) where
    master-fits : is_master s.control ≡ true → master_fits s ≡ true
    unfolding master_fits
    master-fits m =
        either (eqb left 0) _ _ (λ e. eq-eqb edges 0 (v.transfer.due m (eqb-true left 0 e)))
        (λ e. and-pair _ _ (le-leb left (half s.control) v.transfer.left) (out-fits s.pins.mosi (v.pins.mosi m (some left e))))

    slave-fits : is_master s.control ≡ false → slave_fits s ≡ true
    unfolding slave_fits
    slave-fits m =
        let l : eqb left 0 ≡ true = eq-eqb left 0 (v.transfer.slave m) in
        either (eqb edges 0) _ _ (λ _. l)
        (λ e. and-pair _ _ (and-pair _ _ l (alike s.pins.sck (sck_of s) (v.pins.sck m (some edges e))))
        (out-fits s.pins.miso (v.pins.miso m (some edges e))))

    pub spi-fits : spi_fits s ≡ true
    unfolding spi_fits
    spi-fits =
        either (is_enabled s.control) _ _ (λ _. either (is_master s.control) _ _ master-fits slave-fits)
        (λ e. let z = v.transfer.disabled e in and-pair _ _ (eq-eqb edges 0 z.0) (eq-eqb left 0 z.1))

  module _ (h : spi_fits s ≡ true) where
    disabled : is_enabled s.control ≡ false → (edges ≡ 0) × (left ≡ 0)
    unfolding spi_fits
    disabled e =
        let p = and_both (eqb edges 0) (eqb left 0) (on-false (is_enabled s.control) _ _ h e) in (eqb-true edges 0 p.0, eqb-true left 0 p.1)

    as-master : is_enabled s.control ≡ true → is_master s.control ≡ true → master_fits s ≡ true
    unfolding spi_fits
    as-master e m = on-true (is_master s.control) _ _ (on-true (is_enabled s.control) _ _ h e) m

    as-slave : is_enabled s.control ≡ true → is_master s.control ≡ false → slave_fits s ≡ true
    unfolding spi_fits
    as-slave e m = on-false (is_master s.control) _ _ (on-true (is_enabled s.control) _ _ h e) m

    -- a master with an edge due
    waiting : is_master s.control ≡ true → 1 ≤ left → (left ≤ half s.control) × (out_fits s s.pins.mosi ≡ true)
    unfolding master_fits
    waiting m l = split (is_enabled s.control)
        (λ e.
        let n : eqb left 0 ≡ false = ne_eqb left 0 (λ z. omega arith) in
        let p = and_both (leb left (half s.control)) (out_fits s s.pins.mosi) (on-false (eqb left 0) _ _ (as-master e m) n) in
        (leb-true left (half s.control) p.0, p.1))
        (λ e. let z = (disabled e).1 in absurd (omega arith))

    due : is_master s.control ≡ true → left ≡ 0 → edges ≡ 0
    unfolding master_fits
    due m l = split (is_enabled s.control)
        (λ e. eqb-true edges 0 (on-true (eqb left 0) _ _ (as-master e m) (eq-eqb left 0 l))) (λ e. (disabled e).0)

    slave : is_master s.control ≡ false → left ≡ 0
    unfolding slave_fits
    slave m = split (is_enabled s.control)
        (λ e. split (eqb edges 0) (λ z. eqb-true left 0 (on-true (eqb edges 0) _ _ (as-slave e m) z))
        (λ z. eqb-true left 0 (and_both _ _ (and_both _ _ (on-false (eqb edges 0) _ _ (as-slave e m) z)).0).0))
        (λ e. (disabled e).1)

    -- a slave that has seen an edge
    begun : is_master s.control ≡ false → 1 ≤ edges → (s.pins.sck ≡ sck_of s) × (out_fits s s.pins.miso ≡ true)
    unfolding slave_fits
    begun m l = split (is_enabled s.control)
        (λ e.
        let n : eqb edges 0 ≡ false = ne_eqb edges 0 (λ z. omega arith) in
        let p = and_both (eqb left 0 && eqb (digit s.pins.sck) (digit (sck_of s))) (out_fits s s.pins.miso) (on-false (eqb edges 0) _ _ (as-slave e m) n) in
        (same s.pins.sck (sck_of s) (and_both (eqb left 0) _ p.0).1, p.1))
        (λ e. let z = (disabled e).0 in absurd (omega arith))

    within : left ≤ half s.control
    within = split (eqb left 0) (λ e. let z = eqb-true left 0 e in omega arith)
        (λ e. split (is_master s.control) (λ m. (waiting m (some left e)).0) (λ m. let z = slave m in omega arith))

    pub spi-valid : s.control.spcr < 256 → s.control.ddrb < 256 → s.transfer.shift < 256 → s.transfer.received < 256 → edges < 16 → Valid s
    spi-valid hc hd hs hr he = record {
      spcr = hc;
      ddrb = hd;
      transfer = record { shift = hs; received = hr; edges = he; left = within; disabled = disabled; slave = slave; due = due };
      pins = record {
        mosi = λ m l. out-valid s.pins.mosi (waiting m l).1;
        miso = λ m l. out-valid s.pins.miso (begun m l).1;
        sck = λ m l. (begun m l).0;
      };
    }
