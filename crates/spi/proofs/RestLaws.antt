-- A valid unit comes to rest at held levels: a master within 1,024 clocks, which are 16 edges of 64, any other within
-- two.
use Prim.Native.Nat.{ℕ, ◌+◌, ◌-◌, ◌*◌, ◌≤◌, ◌<◌}
use mathlib.Core.Bool.{Bool, true, false}
use mathlib.Core.Path.{◌≡◌, refl, sym, ap, subst, ◌∙◌}
use native.Mathlib.Omega.{arith}
use lib.Dec.{eqb, ltb, lit<, lit≤}
use borrow.Author.Tests.{eqb-true, eqb-false, ne_eqb, ltb-true, not-true}
use Rattle.choice.specs.Pick.{pick, digit}
use Rattle.choice.specs.Times.{times}
use Rattle.choice.proofs.Picks.{pick_ind, split, both, clash}
use Rattle.choice.proofs.Settling.{Settling, rests-on, settles}
use Rattle.shifter.specs.Exchange.{first_out, next_edge, edged_of}
use Rattle.shifter.specs.declared.Edged.{Edged}
use Rattle.spi.specs.Control.{is_enabled, is_master, cpol_of, mode_of, divisor_number, half, without_mstr, is_mode_fault}
use Rattle.spi.specs.Means.{differs, with_miso, with_sck}
use Rattle.spi.specs.Transfer.{is_under_way, byte_of, edged_transfer}
use Rattle.spi.specs.Clock.{master_of, is_sck_edge, selected_of, slave_of, by_mode_of, clock_of}
use Rattle.spi.specs.Holding.{clock_at, held_of, is_presented, slave_rests, master_rests, step_rests, is_at_rest, stays_master}
use Rattle.spi.specs.Valid.{Valid}
use Rattle.spi.specs.declared.clock.Levels.{Levels}
use Rattle.spi.specs.declared.control.Control.{Control}
use Rattle.spi.specs.declared.transfer.Transfer.{Transfer}
use Rattle.spi.specs.declared.unit.Spi.{Spi}
use Rattle.spi.proofs.ClockLaws.{shown_miso, presented-as}
use Rattle.spi.proofs.DivisorLaws.{half-of}
use Rattle.spi.proofs.DropLaws.{mstr-cleared}
use Rattle.spi.proofs.HoldingLaws.{rest-clock}
use Rattle.spi.proofs.MasterLaws.{stays-clock, keeps-control}
use Rattle.spi.proofs.ValidLaws.{valid-clock}

no_difference : (a : Bool) → differs a a ≡ false
unfolding differs
no_difference true = refl
no_difference false = refl

-- clocks to edge 16, with 64 for each edge after the next; so many where none is due
abbrev to_last : ℕ → Transfer → ℕ
to_last idle t = pick (eqb t.left.0 0) idle ((15 - t.edges) * 64 + t.left.0)

-- a master that stays one, with no edge due, is at rest once the level of SCK is kept
abbrev master_far : Levels → Spi → ℕ
master_far l s = to_last (digit (differs l.sck s.pins.sck)) s.transfer

next_edge_lem : (n : ℕ) → next_edge n < 16 → next_edge n ≡ n + 1
unfolding next_edge
next_edge_lem n = split (ltb n 15) (λ q. rw q (λ _. refl)) (λ q. rw q (λ h. absurd (omega (arith, h))))

-- an edge is the last, or another follows in at most 64 clocks
edge-nears : (c : Control) (t : Transfer) (out input : Bool)
    → to_last 0 (edged_transfer t (record { 0 = half c }) (edged_of (mode_of c) (byte_of t out) input)) < (15 - t.edges) * 64 + 1
unfolding edged_of
edge-nears c t out input =
    let h = half-of (divisor_number c) in
    let Nearer : Edged → Type 0 = λ e. to_last 0 (edged_transfer t (record { 0 = half c }) e) < (15 - t.edges) * 64 + 1 in
    pick_ind Nearer (ltb (next_edge t.edges) 16) _ _
    (λ q.
    let k = ltb-true (next_edge t.edges) 16 q in
    rw (ne_eqb (half c) 0 (λ z. omega (arith, z, h.low))) (omega (arith, k, next_edge_lem t.edges k, h.high)))
    (λ q. omega arith)

record Staying (l : Levels) (s : Spi) : Type 0 where
  valid : Valid s
  stays : stays_master s.control l.ss ≡ true

module _ (l : Levels) (s : Spi) where
  keeps : Staying l s → Staying l (clock_of s l)
  keeps v = record {
    valid = valid-clock s l v.valid;
    stays = ap (λ (c : Control). stays_master c l.ss) (ap (λ (t : Spi). t.control) (stays-clock s l v.stays) ∙ keeps-control s l) ∙ v.stays;
  }

  -- with no edge due only the level of SCK can keep it from rest
  sck-differs : stays_master s.control l.ss ≡ true → s.transfer.left.0 ≡ 0 → is_at_rest s l ≡ false → differs l.sck s.pins.sck ≡ true
  unfolding stays_master is_at_rest step_rests master_rests
  sck-differs h z r =
      let on = both (is_enabled s.control) _ h in
      let m = both (is_master s.control) _ on.1 in
      split (differs l.sck s.pins.sck) (λ d. d)
      (λ d. clash refl (rw (d, on.0, m.0, not-true (is_mode_fault s.control l.ss) m.1, z) at r))

  nears : Staying l s → is_at_rest s l ≡ false → master_far l (clock_of s l) < master_far l s
  unfolding master_of
  nears v r =
      let n : ℕ = s.transfer.left.0 in
      let Nearer : Spi → Type 0 = λ t. master_far l (with_sck t l.sck) < master_far l s in
      subst (λ (t : Spi). master_far l t < master_far l s) (sym (stays-clock s l v.stays))
      (pick_ind Nearer (eqb n 0) _ _
      (λ z. rw (z, sck-differs v.stays (eqb-true n 0 z) r, no_difference l.sck) (lit< tt))
      (λ z. pick_ind Nearer (eqb n 1) _ _
      (λ o.
      let near = edge-nears s.control s.transfer s.pins.mosi l.miso in
      rw (z, no_difference l.sck) (omega (arith, eqb-true n 1 o, near)))
      (λ o.
      let more : 2 ≤ n = omega (arith, eqb-false n 0 z, eqb-false n 1 o) in
      rw (z, ne_eqb (n - 1) 0 (λ q. omega (arith, q, more))) (omega (arith, more)))))

  far-range : Valid s → master_far l s ≤ 1024
  far-range v =
      pick_ind (λ (n : ℕ). n ≤ 1024) (eqb s.transfer.left.0 0) _ _
      (λ _. split (differs l.sck s.pins.sck) (λ d. rw d (lit≤ tt)) (λ d. rw d (lit≤ tt)))
      (λ _. omega (arith, v.transfer.left, (half-of (divisor_number s.control)).high))

master-settles : (l : Levels) (s : Spi) (n : ℕ) → Staying l s → 1024 ≤ n → is_at_rest (held_of s l n) l ≡ true
master-settles l s n v h =
    let w : Settling (clock_at l) (Staying l) (λ t. is_at_rest t l) (master_far l) = record { keeps = keeps l; stays = λ t. rest-clock t l; nears = nears l } in
    settles (clock_at l) (λ t. is_at_rest t l) w n s v (omega (arith, h, far-range l s v.valid))

-- an enabled master. One that does not stay one is none after a clock
abbrev is_driving : Control → Bool
is_driving c = pick (is_enabled c) (is_master c) false

faulted-slave : (c : Control) → is_driving (without_mstr c) ≡ false
faulted-slave c = split (is_enabled (without_mstr c)) (λ on. rw (on, mstr-cleared c)) (λ off. rw off)

module _ (s : Spi) (l : Levels) where
  slave-after : stays_master s.control l.ss ≡ false → is_driving (clock_of s l).control ≡ false
  unfolding stays_master by_mode_of slave_of selected_of
  slave-after h =
      let Slave : Spi → Type 0 = λ t. is_driving t.control ≡ false in
      pick_ind Slave (is_enabled s.control) _ _
      (λ on. pick_ind Slave (is_master s.control) _ _
      (λ m. pick_ind Slave (is_mode_fault s.control l.ss) _ _ (λ _. faulted-slave s.control) (λ f. clash refl (rw (on, m, f) at h)))
      (λ m.
      let slave : is_driving s.control ≡ false = rw (on, m) in
      pick_ind Slave l.ss _ _ (λ _. slave)
      (λ _. rw (presented-as s)
      (pick_ind Slave (is_sck_edge (cpol_of s.control) s.transfer.edges s.pins.sck l.sck) _ _ (λ _. slave) (λ _. slave)))))
      (λ off. rw off)

  -- the bit that a clock with no edge seen has put out is out already at the next
  out-again : is_presented (with_sck (with_miso s (shown_miso s)) l.sck) ≡ true
  unfolding is_presented first_out
  out-again =
      split (eqb s.transfer.edges 0)
      (λ z. split (mode_of s.control).cpha (λ p. rw (z, p, no_difference s.pins.miso))
      (λ p. rw (z, p, no_difference _)))
      (λ z. rw z)

  -- with the level of SCK kept, one clock brings an SPI that is no master to rest
  slave-settles : differs l.sck s.pins.sck ≡ false → is_driving s.control ≡ false → is_at_rest (clock_of s l) l ≡ true
  unfolding is_at_rest step_rests slave_rests by_mode_of slave_of selected_of is_sck_edge is_under_way
  slave-settles d h =
      let Rests : Spi → Type 0 = λ t. is_at_rest (with_sck t l.sck) l ≡ true in
      let same = no_difference l.sck in
      pick_ind Rests (is_enabled s.control) _ _
      (λ on. pick_ind Rests (is_master s.control) _ _ (λ m. clash m (rw on at h))
      (λ m. pick_ind Rests l.ss _ _ (λ e. rw (same, on, m, e))
      (λ e. rw (d, presented-as s) (rw (same, on, m, e) out-again))))
      (λ off. rw (same, off))

two-clocks : (s : Spi) (l : Levels) → stays_master s.control l.ss ≡ false → is_at_rest (held_of s l 2) l ≡ true
unfolding times
two-clocks s l h = slave-settles (clock_of s l) l (no_difference l.sck) (slave-after s l h)

-- a valid unit is at rest from then on
pub comes-to-rest : (s : Spi) (l : Levels) (n : ℕ) → Valid s → 1024 ≤ n → is_at_rest (held_of s l n) l ≡ true
comes-to-rest s l n v h =
    split (stays_master s.control l.ss) (λ m. master-settles l s n (record { valid = v; stays = m }) h)
    (λ m. rests-on (clock_at l) (λ t. is_at_rest t l) (λ t. rest-clock t l) 2 n s (omega (arith, h)) (two-clocks s l m))
