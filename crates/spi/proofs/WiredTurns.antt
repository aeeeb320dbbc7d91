-- Two ways in which a rig clocks a wired pair: the slave after the master each time, and both at once.
use Prim.Native.Nat.{ℕ, zero, suc, ◌+◌, ◌-◌, ◌*◌, ◌≤◌, ◌<◌}
use mathlib.Core.Bool.{Bool, true, false}
use mathlib.Core.Path.{◌≡◌, refl, ap, ◌∙◌}
use native.Mathlib.Omega.{arith}
use lib.Dec.{eqb}
use borrow.Author.Tests.{eqb-true, eqb-false}
use Rattle.choice.proofs.Picks.{split, clash}
use Rattle.shifter.specs.Edge.{edge_of}
use Rattle.spi.specs.Control.{is_master, mode_of, half}
use Rattle.spi.specs.Clock.{clock_of}
use Rattle.spi.specs.Register.{write_spdr}
use Rattle.spi.specs.Event.{is_kept, edge_at, input_of}
use Rattle.spi.specs.Exchange.{MayStart}
use Rattle.spi.specs.Wired.{Pair, bus_of, master_turn, slave_turn, both_turn, turn_of, final_pair, master_turns, is_seen, in_turn, at_once, Linked, Ready, Swapped}
use Rattle.spi.specs.declared.control.Control.{Control}
use Rattle.spi.specs.declared.unit.Spi.{Spi}
use Rattle.spi.proofs.ClockLaws.{view_of}
use Rattle.spi.proofs.Progress.{Over, over-waits, at-ends}
use Rattle.spi.proofs.Transfers.{Due, due_edge, due-later, due-waits, due-goes, begun}
use Rattle.spi.proofs.WiredLaws.{kept-master, wired}

-- a slave that is clocked after its master each time sees every edge
in-turn-seen : (n : ℕ) (p : Pair) → is_seen false p (in_turn n) ≡ true
in-turn-seen zero p = refl
in-turn-seen (suc n) p =
    let u = in-turn-seen n (turn_of (turn_of p master_turn) slave_turn) in split (edge_at p.master (bus_of p true).sck) (λ e. rw e u) (λ e. rw e u)

in-turn-count : (n : ℕ) → master_turns (in_turn n) ≡ n
in-turn-count zero = refl
in-turn-count (suc n) = ap suc (in-turn-count n)

at-once-count : (n : ℕ) → master_turns (at_once n) ≡ n
at-once-count zero = refl
at-once-count (suc n) = ap suc (at-once-count n)

-- so for every divisor
pub wired-in-turn : (s t : Spi) (v : ℕ) → MayStart s v → Linked s.control t.control → Ready t
    → Swapped (final_pair (record { master = write_spdr s v; slave = t }) (in_turn (16 * half s.control))) v t.transfer.shift
wired-in-turn s t v ms w rd =
    let n : ℕ = 16 * half s.control in
    wired s t v (in_turn n) ms w rd (omega (arith, in-turn-count n)) (in-turn-seen n (record { master = write_spdr s v; slave = t }))

-- clocked at once the slave sees an edge one clock after it comes, so the edges have to be two clocks apart
module _ (a b : Control) (w : Linked a b) (two : 2 ≤ half a) where
  module _ (p : Pair) where
    kept : p.master.control ≡ a → is_kept p.master.control (bus_of p true) ≡ true
    kept c = kept-master a b w p.master (bus_of p true) c refl

    over-edge : {z : ℕ} → Over a p.master z → edge_at p.master (bus_of p true).sck ≡ false
    over-edge o = rw (ap is_master o.control ∙ w.master, o.left) refl

    over-clock : {z : ℕ} → Over a p.master z → Over a (clock_of p.master (bus_of p true)) z
    over-clock o = over-waits a p.master _ (bus_of p true) o (kept o.control) (over-edge o)

    over_last : {k : ℕ} → k ≡ 15 → Due a p.master k 1
        → Over a (clock_of p.master (bus_of p true)) (edge_of (mode_of a) (view_of p.master) 16 (input_of a (bus_of p true))).shift
    over_last {k} k15 d =
        (at-ends a p.master.transfer.received true p.master k (view_of p.master)
        (record { control = d.control; enabled = d.enabled; edges = d.edges; view = refl; received = refl; down = λ q. clash refl q })
        (bus_of p true) (kept d.control) (due_edge a p.master k 1 (bus_of p true).sck d) k15).over

  over-seen : {z : ℕ} (n : ℕ) (p : Pair) → Over a p.master z → is_seen false p (at_once n) ≡ true
  over-seen zero p o = refl
  over-seen (suc n) p o = rw (over-edge p o) (over-seen n (turn_of p both_turn) (over-clock p o))

  -- the last edge is seen at the clock after it
  last-seen : {z : ℕ} (n : ℕ) (p : Pair) → Over a p.master z → 1 ≤ n → is_seen true p (at_once n) ≡ true
  last-seen zero p o h = absurd (omega arith)
  last-seen (suc n) p o h = rw (over-edge p o) (over-seen n (turn_of p both_turn) (over-clock p o))

  -- n clocks are enough for the edges after the k-th, the next of which is in j + 1
  at-once-seen : (n : ℕ) (unseen : Bool) (p : Pair) (k j : ℕ) → Due a p.master k (suc j) → k ≤ 15 → (unseen ≡ true → 1 ≤ j)
      → suc (suc j) + (15 - k) * half a ≤ n → is_seen unseen p (at_once n) ≡ true
  at-once-seen zero unseen p k j d hk hu e = absurd (omega arith)
  at-once-seen (suc n) unseen p k (suc j) d hk hu e =
      rw (due-later a p.master k j (bus_of p true).sck d)
      (at-once-seen n false (turn_of p both_turn) k j (due-waits a p.master (bus_of p true) k j d (kept p d.control)) hk (λ z. clash z refl) (omega arith))
  at-once-seen (suc n) true p k zero d hk hu e = absurd (omega (arith, hu refl))
  at-once-seen (suc n) false p k zero d hk hu e =
      rw (due_edge a p.master k 1 (bus_of p true).sck d)
      (split (eqb k 15) (λ z. last-seen n (turn_of p both_turn) (over_last p (eqb-true k 15 z) d) (omega (arith, e)))
      (λ z. let lt : k < 15 = omega (arith, eqb-false k 15 z) in
      at-once-seen n true (turn_of p both_turn) (k + 1) (half a - 1) (due-goes a p.master (bus_of p true) k d (kept p d.control) lt) (omega arith) (λ _. omega (arith, two))
      (omega (arith, e, more (15 - k) (15 - (k + 1)) (omega arith), two))))
    where
      more : (x y : ℕ) → x ≡ suc y → x * half a ≡ half a + y * half a
      more x y h = rw h (omega arith)

-- so for every divisor but 2, with one more clock for the slave to see the last edge
pub wired-at-once : (s t : Spi) (v : ℕ) → MayStart s v → Linked s.control t.control → Ready t → 2 ≤ half s.control
    → Swapped (final_pair (record { master = write_spdr s v; slave = t }) (at_once (16 * half s.control + 1))) v t.transfer.shift
wired-at-once s t v ms w rd two =
    let n : ℕ = 16 * half s.control + 1 in
    let p : Pair = record { master = write_spdr s v; slave = t } in
    wired s t v (at_once n) ms w rd (omega (arith, at-once-count n))
    (at-once-seen s.control t.control w two n false p 0 (half s.control - 1) (begun s v ms).due (omega arith) (λ z. clash z refl)
    (omega (arith, two)))
