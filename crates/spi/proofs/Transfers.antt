-- The two transfers of the unit: a master's, whose edge k comes on the k·h-th clock, and a slave's, at any spacing of
-- edges.
use Prim.Native.Nat.{ℕ, zero, suc, ◌+◌, ◌-◌, ◌*◌, ◌≤◌, ◌<◌}
use mathlib.Core.Bool.{Bool, true, false}
use mathlib.Core.List.{List, [], ◌∷◌, ◌++◌}
use mathlib.Core.Path.{◌≡◌, refl, sym, ap, subst, ◌∙◌}
use native.Mathlib.Omega.{arith}
use lib.Dec.{eqb, lit≤}
use borrow.Author.Tests.{eq-eqb, ne_eqb}
use Rattle.choice.proofs.Picks.{clash}
use Rattle.shifter.specs.Byte.{Presented}
use Rattle.shifter.specs.Carrier.{Paces}
use Rattle.shifter.specs.Exchange.{first_out}
use Rattle.shifter.proofs.Carried.{edge-after}
use Rattle.shifter.proofs.ExchangeLaws.{edged-onward}
use Rattle.spi.specs.Control.{is_enabled, is_master, mode_of, divisor_number, half}
use Rattle.spi.specs.Divisor.{half_of}
use Rattle.spi.specs.Transfer.{byte_of}
use Rattle.spi.specs.Clock.{clock_of}
use Rattle.spi.specs.Register.{started_of, loaded_of, accessed, write_spdr}
use Rattle.spi.specs.Event.{Event, clock, write, read, vector, next_of, carrier, clocks_in, is_kept, is_harmless, is_clock, is_edge_in, is_undisturbed, edge_at, input_of, is_up_to}
use Rattle.spi.specs.Exchange.{SetsSpif, Exchanges, MayStart, MayTake}
use Rattle.spi.specs.declared.clock.Levels.{Levels}
use Rattle.spi.specs.declared.control.Control.{Control}
use Rattle.spi.specs.declared.transfer.Transfer.{Transfer}
use Rattle.spi.specs.declared.unit.Spi.{Spi}
use Rattle.spi.proofs.DivisorLaws.{half-of}
use Rattle.spi.proofs.ClockLaws.{view_of, edged_as, clock-waits, clock-edges}
use Rattle.spi.proofs.EventLaws.{Same, write_same, read_same, vector-same}
use Rattle.spi.proofs.WholeByte.{exchanges}

module _ (c : Control) where
  -- an enabled master k edges into a byte, the next one due in j clocks
  pub record Due (s : Spi) (k j : ℕ) : Type 0 where
    pub control : s.control ≡ c
    pub enabled : is_enabled s.control ≡ true
    pub master : is_master s.control ≡ true
    pub edges : s.transfer.edges ≡ k
    pub left : s.transfer.left.0 ≡ j

  pub due_edge : (s : Spi) (k j : ℕ) (sck : Bool) → Due s k j → edge_at s sck ≡ eqb j 1
  due_edge s k j sck d = rw (d.master, d.left)

  -- not in this clock
  pub due-later : (s : Spi) (k j : ℕ) (sck : Bool) → Due s k (suc (suc j)) → edge_at s sck ≡ false
  due-later s k j sck d = due_edge s k (suc (suc j)) sck d ∙ ne_eqb (suc (suc j)) 1 (λ q. omega arith)

  pub due-waits : (s : Spi) (l : Levels) (k j : ℕ) → Due s k (suc (suc j)) → is_kept s.control l ≡ true → Due (clock_of s l) k (suc j)
  due-waits s l k j d kp =
      subst (λ (t : Spi). Due t k (suc j)) (sym (clock-waits s l d.enabled kp (due-later s k j l.sck d)))
      (record { control = d.control; enabled = d.enabled; master = d.master; edges = d.edges; left = rw d.master (omega (arith, d.left)) })

  pub half_pos : half c ≡ suc (half c - 1)
  half_pos = omega (arith, (half-of (divisor_number c)).low)

  pub due-goes : (s : Spi) (l : Levels) (k : ℕ) → Due s k 1 → is_kept s.control l ≡ true → k < 15 → Due (clock_of s l) (k + 1) (suc (half c - 1))
  due-goes s l k d kp lt =
      let e = edged-onward (mode_of s.control) (byte_of s.transfer (view_of s).out) (input_of s.control l)
      (subst (λ (n : ℕ). n < 15) (sym d.edges) lt) in
      subst (λ (t : Spi). Due t (k + 1) (suc (half c - 1)))
      (sym (clock-edges s l d.enabled kp (due_edge s k 1 l.sck d) ∙ ap (edged_as s l.sck) e))
      (record {
        control = d.control;
        enabled = d.enabled;
        master = d.master;
        edges = ap (λ (n : ℕ). n + 1) d.edges;
        left = rw d.master (ap half d.control ∙ half_pos);
      })

  due-same : (s t : Spi) (k j : ℕ) → Same s t → Due s k j → Due t k j
  due-same s t k j m d = record {
    control = m.control ∙ d.control;
    enabled = ap is_enabled m.control ∙ d.enabled;
    master = ap is_master m.control ∙ d.master;
    edges = ap (λ (u : Transfer). u.edges) m.transfer ∙ d.edges;
    left = ap (λ (u : Transfer). u.left.0) m.transfer ∙ d.left;
  }

  rests : (s : Spi) (e : Event) (k j : ℕ) → Due s k j → is_harmless s e ≡ true → is_clock e ≡ false
      → (is_edge_in s e ≡ false) × Due (next_of s e) k j
  rests s (clock l) k j d h q = clash refl q
  rests s (write r v) k j d h q = (refl, due-same s _ k j (write_same s r v h) d)
  rests s (read r) k j d h q = (refl, due-same s _ k j (read_same s r) d)
  rests s vector k j d h q = (refl, due-same s _ k j (vector-same s) d)

  waits : (s : Spi) (e : Event) (k j : ℕ) → Due s k (suc (suc j)) → is_harmless s e ≡ true → is_clock e ≡ true
      → (is_edge_in s e ≡ false) × Due (next_of s e) k (suc j)
  waits s (clock l) k j d h q = (due-later s k j l.sck d, due-waits s l k j d h)
  waits s (write r v) k j d h q = clash q refl
  waits s (read r) k j d h q = clash q refl
  waits s vector k j d h q = clash q refl

  goes : (s : Spi) (e : Event) (k : ℕ) → Due s k 1 → is_harmless s e ≡ true → is_clock e ≡ true
      → (is_edge_in s e ≡ true) × (k < 15 → Due (next_of s e) (k + 1) (suc (half c - 1)))
  goes s (clock l) k d h q = (due_edge s k 1 l.sck d, due-goes s l k d h)
  goes s (write r v) k d h q = clash q refl
  goes s (read r) k d h q = clash q refl
  goes s vector k d h q = clash q refl

  -- a master's edges come h clocks apart
  paces : Paces carrier (half c) (λ s k j. Due s k (suc j))
  paces = record { rests = λ s e k j. rests s e k (suc j); waits = waits; goes = goes }

-- what writing SPDR starts
pub record Begun (s : Spi) (v : ℕ) (t : Spi) : Type 0 where
  pub due : Due s.control t 0 (suc (half s.control - 1))
  pub shift : t.transfer.shift ≡ v
  pub presented : Presented (mode_of s.control) (view_of t)

pub begun : (s : Spi) (v : ℕ) → MayStart s v → Begun s v (write_spdr s v)
unfolding loaded_of first_out
begun s v m =
    let w : loaded_of (accessed s) v ≡ started_of (accessed s) v = rw (m.idle, m.enabled, m.master) in
    subst (λ (t : Spi). Begun s v t) (sym w)
    (record {
      due = record { control = refl; enabled = m.enabled; master = m.master; edges = refl; left = half_pos s.control };
      shift = refl;
      presented = λ q. rw (m.master, q);
    })

module _ (s : Spi) (v : ℕ) (es : List Event) (l : Levels) (m : MayStart s v) (kp : is_undisturbed (write_spdr s v) (es ++ (clock l ∷ [])) ≡ true) where
  -- edge n of SCK comes on the n·h-th clock after the write, n from 1 to 16
  pub edge-times : (n : ℕ) → 1 ≤ n → n ≤ 16 → clocks_in es + 1 ≡ n * half s.control → is_up_to n (write_spdr s v) (es ++ (clock l ∷ [])) ≡ true
  edge-times zero lo hi e = absurd (omega arith)
  edge-times (suc n) lo hi e =
      let c : Control = s.control in
      let g : half c ≡ suc (half c - 1) = half_pos c in
      edge-after carrier (half c) (λ t k j. Due c t k (suc j)) (paces c) (omega (arith, g)) es (clock l) (write_spdr s v) 0 n (half c - 1)
      refl (begun s v m).due kp (omega arith) (omega (arith, g))

  -- a whole master transfer: SPIF on the 16·h-th clock
  pub master-exchanges : clocks_in es + 1 ≡ 16 * half s.control → Exchanges (mode_of s.control) (write_spdr s v) v (es ++ (clock l ∷ []))
  master-exchanges e =
      let t : Spi = write_spdr s v in
      let b : Begun s v t = begun s v m in
      let c : t.control ≡ s.control = b.due.control in
      let x : Exchanges (mode_of t.control) t t.transfer.shift (es ++ (clock l ∷ [])) =
      exchanges t (es ++ (clock l ∷ [])) b.due.enabled kp b.due.edges (subst (λ (n : ℕ). n < 256) (sym b.shift) m.byte)
      (subst (λ (d : Control). Presented (mode_of d) (view_of t)) (sym c) b.presented) (edge-times 16 (lit≤ tt) (lit≤ tt) e) in
      subst (λ (n : ℕ). Exchanges (mode_of s.control) t n (es ++ (clock l ∷ []))) b.shift
      (subst (λ (d : Control). Exchanges (mode_of d) t t.transfer.shift (es ++ (clock l ∷ []))) c x)

  -- M7: divisor 2, number 4, on clock 16; divisor 128, number 3, on clock 1024
  pub m7 : (divisor_number s.control ≡ 4 → clocks_in es + 1 ≡ 16 → SetsSpif (write_spdr s v) (es ++ (clock l ∷ [])))
      × (divisor_number s.control ≡ 3 → clocks_in es + 1 ≡ 1024 → SetsSpif (write_spdr s v) (es ++ (clock l ∷ [])))
  m7 = (
    λ n e. (master-exchanges (e ∙ ap (λ (i : ℕ). 16 * half_of i) (sym n))).flags,
    λ n e. (master-exchanges (e ∙ ap (λ (i : ℕ). 16 * half_of i) (sym n))).flags,
  )

-- a whole slave transfer, at any spacing of edges, SS low throughout
pub slave-exchanges : (s : Spi) (es : List Event) → MayTake s → is_undisturbed s es ≡ true → is_up_to 16 s es ≡ true
    → Exchanges (mode_of s.control) s s.transfer.shift es
unfolding first_out
slave-exchanges s es m kp u =
    exchanges s es m.enabled kp m.idle m.byte (λ q. rw (m.slave, q, eq-eqb s.transfer.edges 0 m.idle)) u
