-- A master and a slave on one wire exchange their bytes: the induction over their clocks.
use Prim.Native.Nat.{ℕ, zero, suc, ◌+◌, ◌-◌, ◌*◌, ◌≤◌, ◌<◌}
use mathlib.Core.Bool.{Bool, true, false}
use mathlib.Core.List.{List, [], ◌∷◌}
use mathlib.Core.Path.{◌≡◌, refl, sym, ap, subst, ◌∙◌}
use native.Mathlib.Omega.{arith}
use borrow.Author.Tests.{eq-eqb}
use Rattle.choice.proofs.Picks.{split, clash}
use Rattle.shifter.specs.Edge.{edge_of}
use Rattle.shifter.specs.Exchange.{first_out}
use Rattle.shifter.specs.Byte.{Presented, Joined, joined_edges}
use Rattle.shifter.specs.declared.Mode.{Mode}
use Rattle.shifter.specs.declared.Shifter.{Shifter}
use Rattle.shifter.proofs.Joined.{swaps}
use Rattle.spi.specs.Control.{is_master, cpol_of, mode_of, half, is_input, is_mode_fault}
use Rattle.spi.specs.Means.{differs}
use Rattle.spi.specs.Clock.{is_sck_edge, clock_of}
use Rattle.spi.specs.Register.{write_spdr}
use Rattle.spi.specs.Event.{is_kept, edge_at, input_of, out_of}
use Rattle.spi.specs.Exchange.{MayStart}
use Rattle.spi.specs.Wired.{Pair, bus_of, Turn, master_turn, slave_turn, both_turn, turn_of, final_pair, master_turns, is_seen, Linked, Ready, Swapped}
use Rattle.spi.specs.declared.clock.Levels.{Levels}
use Rattle.spi.specs.declared.control.Control.{Control}
use Rattle.spi.specs.declared.unit.Spi.{Spi}
use Rattle.spi.proofs.ClockLaws.{view_of, waited-out, clock-waits}
use Rattle.spi.proofs.Progress.{At, Over, Closed, idle-of, over-waits, at-waits, at_goes, at-ends}
use Rattle.spi.proofs.Transfers.{Due, due_edge, due-later, due-waits, due-goes, half_pos, Begun, begun}
use Rattle.spi.proofs.BusLaws.{master-shown, slave-shown, level_at, no_edge, level-turns}

module _ (a b : Control) (w : Linked a b) where
  abbrev m : Mode
  m = mode_of a

  abbrev rest : Bool
  rest = cpol_of a

  pub kept-master : (s : Spi) (l : Levels) → s.control ≡ a → l.ss ≡ true → is_kept s.control l ≡ true
  unfolding is_mode_fault
  kept-master s l c h = rw (c, w.master, h) (split (is_input a) (λ i. rw i) (λ i. rw i))

  kept-slave : (s : Spi) (l : Levels) → s.control ≡ b → l.ss ≡ false → is_kept s.control l ≡ true
  kept-slave s l c h = rw (c, w.slave, h) refl

  put-master : (s : Spi) {o : Bool} → s.control ≡ a → out_of s ≡ o → s.pins.mosi ≡ o
  put-master s c v = rw (ap is_master c ∙ w.master) at v

  put-slave : (s : Spi) {o : Bool} → s.control ≡ b → out_of s ≡ o → s.pins.miso ≡ o
  put-slave s c v = rw (ap is_master c ∙ w.slave) at v

  module _ (x y : ℕ) where
    -- a master with j edges had, n + 1 to go, and the next in d + 1 clocks
    record Going (s : Spi) (j n d : ℕ) (A : Shifter) : Type 0 where
      at : At a x true s j A
      due : Due a s j (suc d)
      sum : j + suc n ≡ 16

    -- a slave k edges into a byte, its bit out, which knows SCK as it was after k
    record Heard (s : Spi) (k : ℕ) (B : Shifter) : Type 0 where
      at : At b y true s k B
      miso : s.pins.miso ≡ B.out
      sck : s.pins.sck ≡ level_at rest k

    record Through (s : Spi) (z : ℕ) : Type 0 where
      over : Over b s z
      sck : s.pins.sck ≡ level_at rest 0

    module _ (p : Pair) where
      abbrev l : Levels
      l = bus_of p true

      abbrev r : Levels
      r = bus_of p false

      bus-mosi : p.master.control ≡ a → r.mosi ≡ p.master.pins.mosi
      bus-mosi c = (master-shown p.master b (subst (λ (d : Control). Linked d b) (sym c) w)).0

      bus-sck : {j : ℕ} → p.master.control ≡ a → p.master.transfer.edges ≡ j → r.sck ≡ level_at rest j
      bus-sck c e = (master-shown p.master b (subst (λ (d : Control). Linked d b) (sym c) w)).1 ∙ rw (c, e)

      bus-miso : {k : ℕ} {B : Shifter} → Heard p.slave k B → l.miso ≡ B.out
      bus-miso h = slave-shown p.slave a (subst (λ (d : Control). Linked a d) (sym h.at.control) w) ∙ h.miso

      -- the master's clock
      not-due : {j n d : ℕ} {A : Shifter} → Going p.master j n (suc d) A → edge_at p.master l.sck ≡ false
      not-due g = due-later a p.master _ _ l.sck g.due

      is-due : {j n : ℕ} {A : Shifter} → Going p.master j n zero A → edge_at p.master l.sck ≡ true
      is-due g = due_edge a p.master _ 1 l.sck g.due

      waits : {j n d : ℕ} {A : Shifter} → Going p.master j n (suc d) A → Going (clock_of p.master l) j n d A
      waits g =
          let kp = kept-master p.master l g.at.control refl in
          record {
            at = (at-waits a x true p.master _ _ g.at l kp (not-due g)).0;
            due = due-waits a p.master l _ _ g.due kp;
            sum = g.sum;
          }

      input-master : {k : ℕ} {B : Shifter} → Heard p.slave k B → input_of a l ≡ B.out
      input-master h = rw w.master (bus-miso h)

      goes : {j n k : ℕ} {A B : Shifter} → Going p.master j (suc n) zero A → Heard p.slave k B
          → Going (clock_of p.master l) (j + 1) n (half a - 1) (edge_of m A (j + 1) B.out)
      goes {j} {n} {k} {A} g h =
          let kp = kept-master p.master l g.at.control refl in
          let lt : j < 15 = omega (arith, g.sum) in
          record {
            at =
                subst (λ (o : Bool). At a x true (clock_of p.master l) (j + 1) (edge_of m A (j + 1) o)) (input-master h)
                (at_goes a x true p.master j A g.at l kp (is-due g) lt).0;
            due = due-goes a p.master l j g.due kp lt;
            sum = omega (arith, g.sum);
          }

      closes : {j k : ℕ} {A B : Shifter} → Going p.master j zero zero A → Heard p.slave k B
          → Closed a (clock_of p.master l) (edge_of m A (j + 1) B.out)
      closes {j} {k} {A} {B} g h =
          let last : j ≡ 15 = omega (arith, g.sum) in
          subst (λ (i : ℕ). Closed a (clock_of p.master l) (edge_of m A (i + 1) B.out)) (sym last)
          (subst (λ (o : Bool). Closed a (clock_of p.master l) (edge_of m A 16 o)) (input-master h)
          (at-ends a x true p.master j A g.at l (kept-master p.master l g.at.control refl) (is-due g) last))

      -- when it is through it has no edge due, and stays so
      no_more : {A : Shifter} → Closed a p.master A → edge_at p.master l.sck ≡ false
      no_more i = rw (ap is_master i.over.control ∙ w.master, i.over.left) refl

      stays : {A : Shifter} → Closed a p.master A → Closed a (clock_of p.master l) A
      stays i =
          let c = i.over.control in
          let kp = kept-master p.master l c refl in
          let m = ap is_master c ∙ w.master in
          record {
            over = over-waits a p.master _ l i.over kp (no_more i);
            out = ap out_of (clock-waits p.master l i.over.enabled kp (no_more i)) ∙ waited-out p.master l.sck ∙ rw m (put-master p.master c i.out);
          }

      -- the slave's clock
      slave-sees : {k : ℕ} {now : Bool} → p.slave.control ≡ b → p.slave.transfer.edges ≡ k → p.slave.pins.sck ≡ level_at rest k → r.sck ≡ now
          → edge_at p.slave r.sck ≡ is_sck_edge rest k (level_at rest k) now
      slave-sees c e h g = rw (c, w.slave, w.cpol, e, h, g) refl

      hears : {k n d : ℕ} {A B : Shifter} → Going p.master k n d A → Heard p.slave k B → Heard (clock_of p.slave r) k B
      hears {k} i h =
          let now : r.sck ≡ level_at rest k = bus-sck i.at.control i.at.edges in
          let q = slave-sees h.at.control h.at.edges h.sck now ∙ no_edge rest k (level_at rest k) in
          let v = at-waits b y true p.slave k _ h.at r (kept-slave p.slave r h.at.control refl) q in
          record { at = v.0; miso = put-slave (clock_of p.slave r) v.0.control v.1; sck = now }

      input-slave : {o : Bool} → r.mosi ≡ o → (B : Shifter) (n : ℕ) → edge_of (mode_of b) B n (input_of b r) ≡ edge_of m B n o
      input-slave e B n = rw (w.slave, w.mode, e) refl

      hears-edge : {k n d : ℕ} {A B : Shifter} → Going p.master (k + 1) n d A → Heard p.slave k B
          → Heard (clock_of p.slave r) (k + 1) (edge_of m B (k + 1) A.out)
      hears-edge {k} {n} {d} {A} {B} i h =
          let now : r.sck ≡ level_at rest (k + 1) = bus-sck i.at.control i.at.edges in
          let q = slave-sees h.at.control h.at.edges h.sck now ∙ level-turns rest k in
          let v = at_goes b y true p.slave k B h.at r (kept-slave p.slave r h.at.control refl) q (omega (arith, i.sum)) in
          let mosi : p.master.pins.mosi ≡ A.out = rw (ap is_master i.at.control ∙ w.master) at (ap (λ (z : Shifter). z.out) i.at.view) in
          let g = input-slave (bus-mosi i.at.control ∙ mosi) B (k + 1) in
          record {
            at = subst (λ (z : Shifter). At b y true (clock_of p.slave r) (k + 1) z) g v.0;
            miso = put-slave (clock_of p.slave r) v.0.control (v.1 ∙ ap (λ (z : Shifter). z.out) g);
            sck = now;
          }

      hears-last : {k : ℕ} {A B : Shifter} → k ≡ 15 → Closed a p.master A → Heard p.slave k B
          → Through (clock_of p.slave r) (edge_of m B (k + 1) A.out).shift
      hears-last {k} {A} {B} last i h =
          let now : r.sck ≡ level_at rest 0 = bus-sck i.over.control i.over.edges in
          let turns : is_sck_edge rest k (level_at rest k) (level_at rest 0) ≡ true = rw last (level-turns rest 15) in
          let q = slave-sees h.at.control h.at.edges h.sck now ∙ turns in
          let v = at-ends b y true p.slave k B h.at r (kept-slave p.slave r h.at.control refl) q last in
          let g = input-slave (bus-mosi i.over.control ∙ put-master p.master i.over.control i.out) B 16 in
          record {
            over =
                subst (λ (n : ℕ). Over b (clock_of p.slave r) (edge_of m B (n + 1) A.out).shift) (sym last)
                (subst (λ (z : Shifter). Over b (clock_of p.slave r) z.shift) g v.over);
            sck = now;
          }

      rests : {z : ℕ} {A : Shifter} → Closed a p.master A → Through p.slave z → Through (clock_of p.slave r) z
      rests {z} i h =
          let c = h.over.control in
          let now : r.sck ≡ level_at rest 0 = bus-sck i.over.control i.over.edges in
          let q = slave-sees c h.over.edges h.sck now ∙ no_edge rest 0 (level_at rest 0) in
          record { over = over-waits b p.slave z r h.over (kept-slave p.slave r c refl) q; sck = now }

    -- where the pair is: both have had k edges; the master one more; the master is through; both are. The master has
    -- n + 1 edges to go, the next in d + 1 of its clocks
    data Stage : Type 0 where
      level : (k n d : ℕ) (A B : Shifter) → Stage
      ahead : (k n d : ℕ) (A B : Shifter) → Stage
      ending : (k : ℕ) (A B : Shifter) → Stage
      over : (A B : Shifter) → Stage

    abbrev Holds : Stage → Pair → Type 0
    Holds (level k n d A B) p = Going p.master k n d A × Heard p.slave k B
    Holds (ahead k n d A B) p = Going p.master (k + 1) n d A × Heard p.slave k B
    Holds (ending k A B) p = (k ≡ 15) × (Closed a p.master A × Heard p.slave k B)
    Holds (over A B) p = Closed a p.master A × Through p.slave B.shift

    abbrev turns_left : Stage → ℕ
    turns_left (level k n d A B) = suc d + n * half a
    turns_left (ahead k n d A B) = suc d + n * half a
    turns_left (ending k A B) = 0
    turns_left (over A B) = 0

    abbrev is_unseen : Stage → Bool
    is_unseen (level k n d A B) = false
    is_unseen (ahead k n d A B) = true
    is_unseen (ending k A B) = true
    is_unseen (over A B) = false

    -- what both will hold in the end
    abbrev aim : Stage → Joined
    aim (level k n d A B) = joined_edges m (record { master = A; slave = B }) k (suc n)
    aim (ahead k n d A B) = joined_edges m (record { master = A; slave = edge_of m B (k + 1) A.out }) (k + 1) (suc n)
    aim (ending k A B) = record { master = A; slave = edge_of m B (k + 1) A.out }
    aim (over A B) = record { master = A; slave = B }

    run : (ts : List Turn) (p : Pair) (g : Stage) → Holds g p → turns_left g ≤ master_turns ts → is_seen (is_unseen g) p ts ≡ true
        → Swapped (final_pair p ts) (aim g).slave.shift (aim g).master.shift
    run [] p (level k n d A B) h e s = absurd (omega arith)
    run [] p (ahead k n d A B) h e s = clash s refl
    run [] p (ending k A B) h e s = clash s refl
    run [] p (over A B) h e s = record {
      master = h.0.over.received;
      slave = h.1.over.received;
      spif_master = h.0.over.spif;
      spif_slave = h.1.over.spif;
      idle_master = idle-of p.master.transfer h.0.over.edges h.0.over.left;
      idle_slave = idle-of p.slave.transfer h.1.over.edges h.1.over.left;
    }
    run (master_turn ∷ ts) p (level k n (suc d) A B) h e s =
        run ts (turn_of p master_turn) (level k n d A B) (waits p h.0, h.1) (omega arith) (rw (not-due p h.0) at s)
    run (master_turn ∷ ts) p (level k (suc n) zero A B) h e s =
        run ts (turn_of p master_turn) (ahead k n (half a - 1) (edge_of m A (k + 1) B.out) B) (goes p h.0 h.1, h.1)
        (omega (arith, half_pos a)) (rw (is-due p h.0) at s)
    run (master_turn ∷ ts) p (level k zero zero A B) h e s =
        run ts (turn_of p master_turn) (ending k (edge_of m A (k + 1) B.out) B) (omega (arith, h.0.sum), (closes p h.0 h.1, h.1))
        (omega arith) (rw (is-due p h.0) at s)
    run (master_turn ∷ ts) p (ahead k n (suc d) A B) h e s =
        run ts (turn_of p master_turn) (ahead k n d A B) (waits p h.0, h.1) (omega arith) (rw (not-due p h.0) at s)
    run (master_turn ∷ ts) p (ahead k n zero A B) h e s = clash (rw (is-due p h.0) at s) refl
    run (master_turn ∷ ts) p (ending k A B) h e s =
        run ts (turn_of p master_turn) (ending k A B) (h.0, (stays p h.1.0, h.1.1)) (omega arith) (rw (no_more p h.1.0) at s)
    run (master_turn ∷ ts) p (over A B) h e s =
        run ts (turn_of p master_turn) (over A B) (stays p h.0, h.1) (omega arith) (rw (no_more p h.0) at s)
    run (slave_turn ∷ ts) p (level k n d A B) h e s = run ts (turn_of p slave_turn) (level k n d A B) (h.0, hears p h.0 h.1) e s
    run (slave_turn ∷ ts) p (ahead k n d A B) h e s =
        run ts (turn_of p slave_turn) (level (k + 1) n d A (edge_of m B (k + 1) A.out)) (h.0, hears-edge p h.0 h.1) e s
    run (slave_turn ∷ ts) p (ending k A B) h e s =
        run ts (turn_of p slave_turn) (over A (edge_of m B (k + 1) A.out)) (h.1.0, hears-last p h.0 h.1.0 h.1.1) e s
    run (slave_turn ∷ ts) p (over A B) h e s = run ts (turn_of p slave_turn) (over A B) (h.0, rests p h.0 h.1) e s
    run (both_turn ∷ ts) p (level k n (suc d) A B) h e s =
        run ts (turn_of p both_turn) (level k n d A B) (waits p h.0, hears p h.0 h.1) (omega arith) (rw (not-due p h.0) at s)
    run (both_turn ∷ ts) p (level k (suc n) zero A B) h e s =
        run ts (turn_of p both_turn) (ahead k n (half a - 1) (edge_of m A (k + 1) B.out) B) (goes p h.0 h.1, hears p h.0 h.1)
        (omega (arith, half_pos a)) (rw (is-due p h.0) at s)
    run (both_turn ∷ ts) p (level k zero zero A B) h e s =
        run ts (turn_of p both_turn) (ending k (edge_of m A (k + 1) B.out) B)
        (omega (arith, h.0.sum), (closes p h.0 h.1, hears p h.0 h.1)) (omega arith) (rw (is-due p h.0) at s)
    run (both_turn ∷ ts) p (ahead k n (suc d) A B) h e s =
        run ts (turn_of p both_turn) (level (k + 1) n d A (edge_of m B (k + 1) A.out)) (waits p h.0, hears-edge p h.0 h.1) (omega arith)
        (rw (not-due p h.0) at s)
    run (both_turn ∷ ts) p (ahead k n zero A B) h e s = clash (rw (is-due p h.0) at s) refl
    run (both_turn ∷ ts) p (ending k A B) h e s =
        run ts (turn_of p both_turn) (over A (edge_of m B (k + 1) A.out)) (stays p h.1.0, hears-last p h.0 h.1.0 h.1.1) (omega arith)
        (rw (no_more p h.1.0) at s)
    run (both_turn ∷ ts) p (over A B) h e s =
        run ts (turn_of p both_turn) (over A B) (stays p h.0, rests p h.0 h.1) (omega arith) (rw (no_more p h.0) at s)

-- a slave that is ready shows what it would put out
shows : (t : Spi) → is_master t.control ≡ false → Ready t → (view_of t).out ≡ t.pins.miso
unfolding first_out
shows t sl rd =
    rw (sl, eq-eqb t.transfer.edges 0 rd.idle)
    (split (mode_of t.control).cpha (λ q. rw q) (λ q. rw q (sym (rd.first q))))

-- the master's SPDR is written, and after 16·h of its clocks both have the other's byte
pub wired : (s t : Spi) (v : ℕ) (ts : List Turn) → MayStart s v → Linked s.control t.control → Ready t → 16 * half s.control ≤ master_turns ts
    → is_seen false (record { master = write_spdr s v; slave = t }) ts ≡ true
    → Swapped (final_pair (record { master = write_spdr s v; slave = t }) ts) v t.transfer.shift
unfolding differs
wired s t v ts ms w rd e u =
    let a : Control = s.control in
    let b : Control = t.control in
    let g : Begun s v (write_spdr s v) = begun s v ms in
    let A : Shifter = view_of (write_spdr s v) in
    let B : Shifter = record { shift = t.transfer.shift; out = t.pins.miso } in
    let x : ℕ = (write_spdr s v).transfer.received in
    let y : ℕ = t.transfer.received in
    let i : Going a b w x y (write_spdr s v) 0 15 (half a - 1) A = record {
      at = record {
        control = g.due.control;
        enabled = g.due.enabled;
        edges = g.due.edges;
        view = refl;
        received = refl;
        down = λ d. clash refl d;
      };
      due = g.due;
      sum = refl;
    } in
    let o : Heard a b w x y t 0 B = record {
      at = record {
        control = refl;
        enabled = w.enabled_slave;
        edges = rd.idle;
        view = ap (λ (z : Bool). record { shift = t.transfer.shift; out = z }) (shows t w.slave rd);
        received = refl;
        down = λ d. clash refl d;
      };
      miso = refl;
      sck = rd.rest ∙ w.cpol;
    } in
    let r = run a b w x y ts (record { master = write_spdr s v; slave = t }) (level 0 15 (half a - 1) A B) (i, o) (omega (arith, e, half_pos a)) u in
    let z = swaps (mode_of a) (record { master = A; slave = B }) (subst (λ (n : ℕ). n < 256) (sym g.shift) ms.byte) rd.byte g.presented
    (subst (λ (n : Mode). Presented n B) w.mode rd.first) in
    record {
      master = r.master ∙ z.master;
      slave = r.slave ∙ z.slave ∙ g.shift;
      spif_master = r.spif_master;
      spif_slave = r.spif_slave;
      idle_master = r.idle_master;
      idle_slave = r.idle_slave;
    }
