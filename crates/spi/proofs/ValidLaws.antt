-- Every operation keeps the ranges and what the pins show, and reset has them.
use Prim.Native.Nat.{ℕ, ◌/◌, ◌%◌, ◌≤◌, ◌<◌}
use mathlib.Core.Bool.{Bool, true, false, not}
use mathlib.Core.Path.{◌≡◌, refl, sym, ap, ◌∙◌}
use native.Mathlib.Omega.{arith}
use lib.Dec.{eqb, ltb, lit<}
use borrow.Author.Tests.{eqb-true, eqb-false, ltb-true, not-false}
use Rattle.std.proofs.Common.{Result}
use Rattle.choice.specs.Bit.{is_set}
use Rattle.choice.proofs.Picks.{pick_ind, clash}
use Rattle.shifter.specs.Exchange.{next_edge, edged_of}
use Rattle.shifter.specs.declared.Edged.{Edged}
use Rattle.shifter.specs.declared.Mode.{Mode}
use Rattle.shifter.proofs.Byte.{edge-lt}
use Rattle.spi.specs.Control.{is_enabled, is_master, cpol_of, mode_of, divisor_number, half, without_mstr, is_mode_fault}
use Rattle.spi.specs.Means.{differs, with_control, with_flags, with_sck}
use Rattle.spi.specs.Transfer.{is_under_way, dropped_of, byte_of, edged_transfer}
use Rattle.spi.specs.Unit.{reset_spi, is_requested}
use Rattle.spi.specs.Clock.{master_of, fault_of, is_sck_edge, selected_of, slave_of, by_mode_of, clock_of}
use Rattle.spi.specs.Register.{settled, write_spcr, write_spsr, filled, loaded_of, accessed, set_ddrb, write_of, read_of, vector_of}
use Rattle.spi.specs.Valid.{ValidTransfer, ValidPins, Valid}
use Rattle.spi.specs.declared.clock.Levels.{Levels}
use Rattle.spi.specs.declared.control.Control.{Control}
use Rattle.spi.specs.declared.divisor.Clocks.{Clocks}
use Rattle.spi.specs.declared.flag.Flags.{Flags}
use Rattle.spi.specs.declared.transfer.Transfer.{Transfer}
use Rattle.spi.specs.declared.unit.Spi.{Spi}
use Rattle.spi.specs.declared.register.Register.{Register}
use Rattle.spi.specs.declared.register.Register.TheVariants.{Spcr, Spsr, Spdr, Ddrb}
use Rattle.spi.proofs.DivisorLaws.{half-of}
use Rattle.spi.proofs.ClockLaws.{shown_miso, presented-as}
use Rattle.spi.proofs.PinLaws.{pins-idle, pins-flagged, pins-controlled, pins-waited, pins-master, pins-shown, pins-slave, pins-started}
use Rattle.spi.proofs.Progress.{none-under-way}
use Rattle.answer.specs.declared.Refusal.{Refusal}

-- a transfer that is not under way fits any control
valid-idle : (c : Control) (t : Transfer) → t.shift < 256 → t.received < 256 → t.edges ≡ 0 → t.left.0 ≡ 0 → ValidTransfer c t
valid-idle c t hs hr e l = record {
  shift = hs;
  received = hr;
  edges = omega arith;
  left = omega arith;
  disabled = λ _. (e, l);
  slave = λ _. l;
  due = λ _ _. e;
}

valid-dropped : (c d : Control) (t : Transfer) → ValidTransfer c t → ValidTransfer d (dropped_of t)
valid-dropped c d t v = valid-idle d (dropped_of t) v.shift v.received refl refl

-- one control fits what another fits
valid-alike : (c d : Control) (t : Transfer) → half d ≡ half c → is_master d ≡ is_master c → (is_enabled d ≡ false → is_enabled c ≡ false)
    → ValidTransfer c t → ValidTransfer d t
valid-alike c d t h m off v = record {
  shift = v.shift;
  received = v.received;
  edges = v.edges;
  left = rw h v.left;
  disabled = λ q. v.disabled (off q);
  slave = λ q. v.slave (sym m ∙ q);
  due = λ q. v.due (sym m ∙ q);
}

-- n clocks to the next edge: some for a master, none for a slave
record Waits (c : Control) (n : Clocks) : Type 0 where
  most : n.0 ≤ half c
  some : is_master c ≡ true → 1 ≤ n.0
  none : is_master c ≡ false → n.0 ≡ 0

waits-half : (c : Control) → is_master c ≡ true → Waits c (record { 0 = half c })
waits-half c m = record { most = omega arith; some = λ _. (half-of (divisor_number c)).low; none = λ q. clash m q }

waits-none : (c : Control) → is_master c ≡ false → Waits c (record { 0 = 0 })
waits-none c m = record { most = omega arith; some = λ q. clash q m; none = λ _. refl }

valid-edged : (c : Control) (t : Transfer) (m : Mode) (out input : Bool) (n : Clocks) → is_enabled c ≡ true → Waits c n → ValidTransfer c t
    → ValidTransfer c (edged_transfer t n (edged_of m (byte_of t out) input))
unfolding edged_of
valid-edged c t m out input n on w v =
    let b = edge-lt m (byte_of t out).register (next_edge t.edges) input v.shift in
    pick_ind (λ (e : Edged). ValidTransfer c (edged_transfer t n e)) (ltb (next_edge t.edges) 16) _ _
    (λ e. record {
      shift = b;
      received = v.received;
      edges = ltb-true (next_edge t.edges) 16 e;
      left = w.most;
      disabled = λ q. clash on q;
      slave = w.none;
      due = λ q z. absurd (omega (arith, w.some q));
    })
    (λ e. valid-idle c _ b b refl refl)

-- what bits 5 to 0 hold
record LowBits (x y : ℕ) : Type 0 where
  dord : is_set x 32 ≡ is_set y 32
  mstr : is_set x 16 ≡ is_set y 16
  cpol : is_set x 8 ≡ is_set y 8
  cpha : is_set x 4 ≡ is_set y 4
  divisor : x % 4 ≡ y % 4

low_bits : (x y : ℕ) → x % 64 ≡ y % 64 → LowBits x y
low_bits x y e = record {
  dord = bit 32 (omega arith);
  mstr = bit 16 (omega arith);
  cpol = bit 8 (omega arith);
  cpha = bit 4 (omega arith);
  divisor = omega arith;
}
  where
    bit : (w : ℕ) → x / w % 2 ≡ y / w % 2 → is_set x w ≡ is_set y w
    bit w = ap (λ (n : ℕ). eqb n 1)

module _ (s : Spi) (v : Valid s) where
  -- with SPCR and DDRB as they were
  kept : (t : Spi) → t.control ≡ s.control → ValidTransfer s.control t.transfer → ValidPins t → Valid t
  kept t e w p = record { spcr = rw e v.spcr; ddrb = rw e v.ddrb; transfer = rw e w; pins = p }

  -- with other flags
  flagged : (f : Flags) → Valid (with_flags s f)
  flagged f = kept _ refl v.transfer (pins-flagged s v.pins f)

  module _ (l : Levels) where
    -- the level of SCK is kept at every clock
    abbrev Stepped : Spi → Type 0
    Stepped t = Valid (with_sck t l.sck)

    module _ (on : is_enabled s.control ≡ true) where
      valid-master : is_master s.control ≡ true → Stepped (master_of s l.miso)
      unfolding master_of
      valid-master m =
          let n : ℕ = s.transfer.left.0 in
          pick_ind Stepped (eqb n 0) _ _ (λ _. kept _ refl v.transfer (pins-waited s v.pins m l.sck s.transfer.left (λ q. q)))
          (λ n0. pick_ind Stepped (eqb n 1) _ _
          (λ _. kept _ refl (valid-edged s.control s.transfer (mode_of s.control) _ l.miso _ on (waits-half s.control m) v.transfer)
          (pins-master s v.pins m l.sck l.miso))
          (λ n1. kept _ refl
          (record {
            shift = v.transfer.shift;
            received = v.transfer.received;
            edges = v.transfer.edges;
            left = omega (arith, v.transfer.left);
            disabled = λ q. clash on q;
            slave = λ q. clash m q;
            due = λ q z. absurd (omega (arith, eqb-false n 0 n0, eqb-false n 1 n1));
          })
          (pins-waited s v.pins m l.sck _ (λ q. omega (arith, q)))))

      valid-selected : is_master s.control ≡ false → Stepped (selected_of s l)
      unfolding selected_of
      valid-selected m =
          rw (presented-as s)
          (pick_ind Stepped (is_sck_edge (cpol_of s.control) s.transfer.edges s.pins.sck l.sck) _ _
          (λ e. kept _ refl (valid-edged s.control s.transfer (mode_of s.control) _ l.mosi _ on (waits-none s.control m) v.transfer)
          (pins-slave s v.pins m l.sck (shown_miso s) l.mosi e))
          (λ e. kept _ refl v.transfer (pins-shown s v.pins m l.sck e)))

    valid-faulted : Stepped (fault_of s)
    valid-faulted = record {
      spcr = omega (arith, v.spcr);
      ddrb = v.ddrb;
      transfer = valid-dropped s.control (without_mstr s.control) s.transfer v.transfer;
      pins = pins-idle _ refl refl;
    }

    valid-stepped : Stepped (by_mode_of s l)
    unfolding by_mode_of slave_of
    valid-stepped =
        pick_ind Stepped (is_enabled s.control) _ _
        (λ on. pick_ind Stepped (is_master s.control) _ _
        (λ m. pick_ind Stepped (is_mode_fault s.control l.ss) _ _ (λ _. valid-faulted) (λ _. valid-master on m))
        (λ m. pick_ind Stepped l.ss _ _
        (λ _. kept _ refl (valid-dropped s.control s.control s.transfer v.transfer) (pins-idle _ refl refl))
        (λ _. valid-selected on m)))
        (λ off. let none = v.transfer.disabled off in kept _ refl v.transfer (pins-idle _ none.0 none.1))

  -- any control fits a transfer that is not under way
  valid-controlled : (c : Control) → c.spcr < 256 → c.ddrb < 256 → is_under_way s.transfer ≡ false → Valid (with_control s c)
  valid-controlled c hs hd e =
      let n = none-under-way s.transfer e in
      record {
        spcr = hs;
        ddrb = hd;
        transfer = valid-idle c s.transfer v.transfer.shift v.transfer.received n.0 n.1;
        pins = pins-idle _ n.0 n.1;
      }

  valid-spcr : (x : ℕ) → x < 256 → Valid (settled s (write_spcr s x))
  unfolding write_spcr divisor_number
  valid-spcr x h =
      let P : Result Spi Refusal → Type 0 = λ w. Valid (settled s w) in
      let c : Control = record { spcr = x; spi2x = s.control.spi2x; ddrb = s.control.ddrb } in
      pick_ind P (is_under_way s.transfer) _ _
      (λ _. pick_ind P (not (is_set x 64)) _ _
      (λ _. record {
        spcr = h;
        ddrb = v.ddrb;
        transfer = valid-dropped s.control c s.transfer v.transfer;
        pins = pins-idle _ refl refl;
      })
      (λ on. pick_ind P (eqb (x % 64) (s.control.spcr % 64)) _ _
      (λ e. let low = low_bits x s.control.spcr (eqb-true (x % 64) (s.control.spcr % 64) e) in
      record {
        spcr = h;
        ddrb = v.ddrb;
        transfer =
            valid-alike s.control c s.transfer (rw low.divisor) low.mstr (λ q. clash (not-false (is_set x 64) on) q) v.transfer;
        pins = pins-controlled s v.pins c low.mstr low.cpha low.dord low.cpol;
      })
      (λ _. v)))
      (λ e. valid-controlled c h v.ddrb e)

  valid-spsr : (x : ℕ) → Valid (settled s (write_spsr s x))
  unfolding write_spsr
  valid-spsr x =
      let P : Result Spi Refusal → Type 0 = λ w. Valid (settled s w) in
      pick_ind P (differs (is_set x 1) s.control.spi2x) _ _
      (λ _. pick_ind P (is_under_way s.transfer) _ _ (λ _. v)
      (λ e. valid-controlled _ v.spcr v.ddrb e)) (λ _. v)

  -- the shift register filled, with n clocks to the first edge
  valid-filled : (x n : ℕ) → x < 256 → is_enabled s.control ≡ true → Waits s.control (record { 0 = n })
      → ValidTransfer s.control (filled s x n).transfer
  valid-filled x n h on w = record {
    shift = h;
    received = v.transfer.received;
    edges = lit< tt;
    left = w.most;
    disabled = λ q. clash on q;
    slave = w.none;
    due = λ _ _. refl;
  }

  valid-loaded : (x : ℕ) → x < 256 → Valid (loaded_of s x)
  unfolding loaded_of
  valid-loaded x h =
      pick_ind Valid (is_under_way s.transfer) _ _ (λ _. flagged _)
      (λ _. pick_ind Valid (is_enabled s.control) _ _
      (λ on. pick_ind Valid (is_master s.control) _ _
      (λ m. kept _ refl (valid-filled x (half s.control) h on (waits-half s.control m)) (pins-started s x m))
      (λ m. kept _ refl (valid-filled x 0 h on (waits-none s.control m)) (pins-idle _ refl refl)))
      (λ _. v))

  -- the transfer does not look at DDRB
  valid-ddrb : (x : ℕ) → x < 256 → Valid (set_ddrb s x)
  unfolding divisor_number
  valid-ddrb x h = record {
    spcr = v.spcr;
    ddrb = h;
    transfer = valid-alike s.control _ s.transfer refl refl (λ q. q) v.transfer;
    pins = pins-controlled s v.pins _ refl refl refl refl;
  }

pub valid-reset : Valid reset_spi
valid-reset = record {
  spcr = lit< tt;
  ddrb = lit< tt;
  transfer = valid-idle reset_spi.control reset_spi.transfer (lit< tt) (lit< tt) refl refl;
  pins = pins-idle reset_spi refl refl;
}

pub valid-clock : (s : Spi) (l : Levels) → Valid s → Valid (clock_of s l)
valid-clock s l v = valid-stepped s v l

-- a written value is a byte
pub valid-write : (s : Spi) (r : Register) (x : ℕ) → x < 256 → Valid s → Valid (settled s (write_of s r x))
valid-write s Spcr x h v = valid-spcr s v x h
valid-write s Spsr x h v = valid-spsr s v x
valid-write s Spdr x h v = valid-loaded (accessed s) (flagged s v _) x h
valid-write s Ddrb x h v = valid-ddrb s v x h

pub valid-read : (s : Spi) (r : Register) → Valid s → Valid (read_of s r).after
valid-read s Spcr v = v
valid-read s Spsr v = flagged s v _
valid-read s Spdr v = flagged s v _
valid-read s Ddrb v = v

pub valid-vector : (s : Spi) → Valid s → Valid (settled s (vector_of s))
unfolding vector_of
valid-vector s v = pick_ind (λ (w : Result Spi Refusal). Valid (settled s w)) (is_requested s) _ _ (λ _. flagged s v _) (λ _. v)
