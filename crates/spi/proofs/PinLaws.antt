-- What the pins show of a transfer is kept by each thing that can happen to it.
use Prim.Native.Nat.{ℕ, ◌+◌, ◌%◌, ◌≤◌, ◌<◌}
use mathlib.Core.Bool.{Bool, true, false}
use mathlib.Core.Path.{◌≡◌, refl, sym, ap, ◌∙◌}
use native.Mathlib.Omega.{arith}
use lib.Dec.{ltb}
use borrow.Author.Tests.{eqb-true, ne_eqb, ltb-true}
use Rattle.choice.proofs.Picks.{pick_ind, split, clash}
use Rattle.shifter.specs.Edge.{is_sampling}
use Rattle.shifter.specs.Exchange.{first_out, next_edge, edged_of}
use Rattle.shifter.specs.Order.{out_bit}
use Rattle.shifter.specs.declared.Edged.{Edged}
use Rattle.shifter.specs.declared.Mode.{Mode}
use Rattle.shifter.proofs.Byte.{edge-puts}
use Rattle.spi.specs.Control.{is_master, cpol_of, mode_of, half}
use Rattle.spi.specs.Means.{with_control, with_flags, with_left, with_miso, with_sck}
use Rattle.spi.specs.Transfer.{byte_of, edged_transfer, edged_out}
use Rattle.spi.specs.Clock.{master_edge, is_sck_edge, slave_edge}
use Rattle.spi.specs.Register.{started_of}
use Rattle.spi.specs.Valid.{is_first_out, ValidPins}
use Rattle.spi.specs.declared.control.Control.{Control}
use Rattle.spi.specs.declared.divisor.Clocks.{Clocks}
use Rattle.spi.specs.declared.flag.Flags.{Flags}
use Rattle.spi.specs.declared.transfer.Transfer.{Transfer}
use Rattle.spi.specs.declared.unit.Spi.{Spi}
use Rattle.spi.proofs.ClockLaws.{shown_miso}
use Rattle.spi.proofs.BusLaws.{level_at, edge-turns, level-stays}

-- an edge after which the bit that is out has not left is no sampling edge
first_out_lem : (m : Mode) (k : ℕ) → is_first_out m k ≡ true → is_sampling m.cpha k ≡ false
unfolding is_sampling
first_out_lem m k h =
    split m.cpha (λ c. let e : k % 2 ≡ 1 = eqb-true (k % 2) 1 (rw c at h) in rw (c, e))
    (λ c. let e : k % 2 ≡ 0 = eqb-true (k % 2) 0 (rw c at h) in rw (c, e))

module _ (t : Transfer) (m : Mode) (out input : Bool) (n : Clocks) where
  -- what is out after an edge within the byte, of master and slave
  edged-first : let e : Edged = edged_of m (byte_of t out) input in
      let u : Transfer = edged_transfer t n e in
      1 ≤ u.edges + u.left.0 → is_first_out m u.edges ≡ true → edged_out e ≡ out_bit m.dord u.shift
  unfolding edged_of
  edged-first =
      let k : ℕ = next_edge t.edges in
      pick_ind
      (λ (e : Edged). let u : Transfer = edged_transfer t n e in
      1 ≤ u.edges + u.left.0 → is_first_out m u.edges ≡ true → edged_out e ≡ out_bit m.dord u.shift)
      (ltb k 16) _ _ (λ l _ h. edge-puts m (byte_of t out).register k input (first_out_lem m k h) (ltb-true k 16 l)) (λ _ q h. absurd (omega (arith, q)))

  -- and its number
  edged-number : let u : Transfer = edged_transfer t n (edged_of m (byte_of t out) input) in 1 ≤ u.edges → u.edges ≡ t.edges + 1
  unfolding edged_of next_edge
  edged-number =
      let P : ℕ → Type 0 = λ k. k < 16 → k ≡ t.edges + 1 in
      let next : P (next_edge t.edges) = pick_ind P (ltb t.edges 15) _ _ (λ _ _. refl) (λ _ q. absurd (omega (arith, q))) in
      pick_ind (λ (e : Edged). let u : Transfer = edged_transfer t n e in 1 ≤ u.edges → u.edges ≡ t.edges + 1)
      (ltb (next_edge t.edges) 16) _ _ (λ l _. next (ltb-true (next_edge t.edges) 16 l)) (λ _ q. absurd (omega (arith, q)))

-- nothing is shown of a transfer that is not under way
pub pins-idle : (s : Spi) → s.transfer.edges ≡ 0 → s.transfer.left.0 ≡ 0 → ValidPins s
pins-idle s e l = record { mosi = λ _ q. absurd (omega (arith, l)); miso = λ _ q. absurd (omega (arith, e)); sck = λ _ q. absurd (omega (arith, e)) }

module _ (s : Spi) (v : ValidPins s) where
  pub pins-flagged : (f : Flags) → ValidPins (with_flags s f)
  pins-flagged f = record { mosi = v.mosi; miso = v.miso; sck = v.sck }

  -- MSTR, CPHA, DORD and CPOL stay
  pub pins-controlled : (c : Control) → is_master c ≡ is_master s.control → (mode_of c).cpha ≡ (mode_of s.control).cpha
      → (mode_of c).dord ≡ (mode_of s.control).dord → cpol_of c ≡ cpol_of s.control → ValidPins (with_control s c)
  pins-controlled c m a o p = record {
    mosi = λ q. rw (a, o) (v.mosi (sym m ∙ q));
    miso = λ q. rw (a, o) (v.miso (sym m ∙ q));
    sck = λ q l. rw p (v.sck (sym m ∙ q) l);
  }

  module _ (m : is_master s.control ≡ true) (sck : Bool) where
    -- a clock without an edge
    pub pins-waited : (n : Clocks) → (1 ≤ n.0 → 1 ≤ s.transfer.left.0) → ValidPins (with_sck (with_left s n) sck)
    pins-waited n h = record { mosi = λ q l. v.mosi q (h l); miso = λ q. clash m q; sck = λ q. clash m q }

    -- and with one
    pub pins-master : (miso : Bool) → ValidPins (with_sck (master_edge s miso) sck)
    pins-master miso = record {
      mosi = λ _ l. edged-first s.transfer (mode_of s.control) s.pins.mosi miso (record { 0 = half s.control }) (omega (arith, l));
      miso = λ q. clash m q;
      sck = λ q. clash m q;
    }

  module _ (m : is_master s.control ≡ false) (sck : Bool) where
    -- a clock without an edge
    pub pins-shown : is_sck_edge (cpol_of s.control) s.transfer.edges s.pins.sck sck ≡ false
        → ValidPins (with_sck (with_miso s (shown_miso s)) sck)
    pins-shown e = record {
      mosi = λ q. clash q m;
      miso = λ q l. rw (ne_eqb s.transfer.edges 0 (λ z. omega arith)) (v.miso q l);
      sck = λ q l. level-stays (cpol_of s.control) s.transfer.edges s.pins.sck sck l e ∙ v.sck q l;
    }

    -- and with one, whatever was out before it
    pub pins-slave : (out mosi : Bool) → is_sck_edge (cpol_of s.control) s.transfer.edges s.pins.sck sck ≡ true
        → ValidPins (with_sck (slave_edge (with_miso s out) mosi) sck)
    pins-slave out mosi e =
        let t : Transfer = s.transfer in
        record {
          mosi = λ q. clash q m;
          miso = λ _ l. edged-first t (mode_of s.control) out mosi (record { 0 = 0 }) (omega (arith, l));
          sck = λ q l. edge-turns (cpol_of s.control) t.edges s.pins.sck sck (v.sck m) e
              ∙ ap (level_at (cpol_of s.control)) (sym (edged-number t (mode_of s.control) out mosi (record { 0 = 0 }) l));
        }

-- with CPHA 0 the first bit is out at once, with CPHA 1 at edge 1
pub pins-started : (s : Spi) (x : ℕ) → is_master s.control ≡ true → ValidPins (started_of s x)
unfolding first_out
pins-started s x m = record {
  mosi = λ _ _ h. split (mode_of s.control).cpha (λ c. clash (rw c at h) refl) (λ c. rw c);
  miso = λ q. clash m q;
  sck = λ q. clash m q;
}
