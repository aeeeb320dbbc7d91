-- Where an enabled unit is within a byte, and how a clock moves it.
use Prim.Native.Nat.{ℕ, ◌+◌, ◌<◌}
use mathlib.Core.Bool.{Bool, true, false}
use mathlib.Core.Path.{◌≡◌, refl, sym, ap, ap₂, subst, ◌∙◌}
use lib.Dec.{eqb}
use borrow.Author.Tests.{eqb-true, eq-eqb, not-false}
use Rattle.choice.proofs.Picks.{split, clash}
use Rattle.shifter.specs.Edge.{edge_of}
use Rattle.shifter.specs.Exchange.{edged_of}
use Rattle.shifter.specs.declared.Edged.TheVariants.{Onward, Complete}
use Rattle.shifter.specs.declared.Exchange.{Exchange}
use Rattle.shifter.specs.declared.Shifter.{Shifter}
use Rattle.shifter.proofs.ExchangeLaws.{edged-onward, edged-last}
use Rattle.spi.specs.Control.{is_enabled, mode_of}
use Rattle.spi.specs.Flag.{is_up, raised_of}
use Rattle.spi.specs.Transfer.{is_under_way}
use Rattle.spi.specs.Clock.{clock_of}
use Rattle.spi.specs.Event.{is_kept, edge_at, input_of, out_of}
use Rattle.spi.specs.declared.clock.Levels.{Levels}
use Rattle.spi.specs.declared.control.Control.{Control}
use Rattle.spi.specs.declared.flag.Flag.{Flag}
use Rattle.spi.specs.declared.flag.Flag.TheVariants.{Clear, Set, Armed}
use Rattle.spi.specs.declared.transfer.Transfer.{Transfer}
use Rattle.spi.specs.declared.unit.Spi.{Spi}
use Rattle.spi.proofs.ClockLaws.{view_of, waited-view, waited-out, waited-left, edged_as, edged-out, edged-view, clock-waits, clock-edges}
use Rattle.spi.proofs.EventLaws.{Same}

pub raised-up : (f : Flag) → is_up (raised_of f) ≡ true
raised-up Clear = refl
raised-up Set = refl
raised-up Armed = refl

pub idle-of : (t : Transfer) → t.edges ≡ 0 → t.left.0 ≡ 0 → is_under_way t ≡ false
unfolding is_under_way
idle-of t e l = rw (eq-eqb t.edges 0 e, eq-eqb t.left.0 0 l)

pub none-under-way : (t : Transfer) → is_under_way t ≡ false → (t.edges ≡ 0) × (t.left.0 ≡ 0)
unfolding is_under_way
none-under-way t h =
    split (eqb t.edges 0)
    (λ e. (eqb-true t.edges 0 e, eqb-true t.left.0 0 (not-false (eqb t.left.0 0) (rw e at h))))
    (λ e. clash refl (rw e at h))

module _ (c : Control) where
  -- after edge 16, with z received
  pub record Over (s : Spi) (z : ℕ) : Type 0 where
    pub control : s.control ≡ c
    pub enabled : is_enabled s.control ≡ true
    pub edges : s.transfer.edges ≡ 0
    pub left : s.transfer.left.0 ≡ 0
    pub received : s.transfer.received ≡ z
    pub spif : is_up s.flags.spif ≡ true

  -- and r in the shift register and out
  pub record Closed (s : Spi) (r : Shifter) : Type 0 where
    pub over : Over s r.shift
    pub out : out_of s ≡ r.out

  pub over-waits : (s : Spi) (z : ℕ) (l : Levels) → Over s z → is_kept s.control l ≡ true → edge_at s l.sck ≡ false → Over (clock_of s l) z
  over-waits s z l o kept q =
      subst (λ (t : Spi). Over t z) (sym (clock-waits s l o.enabled kept q))
      (record {
        control = o.control;
        enabled = o.enabled;
        edges = o.edges;
        left = waited-left s l.sck o.left;
        received = o.received;
        spif = o.spif;
      })

  module _ (x : ℕ) (up : Bool) where
    -- an enabled unit k edges into a byte, with r in the shift register and out, and x in the receive buffer; SPIF has
    -- not risen since it was `up`
    pub record At (s : Spi) (k : ℕ) (r : Shifter) : Type 0 where
      pub control : s.control ≡ c
      pub enabled : is_enabled s.control ≡ true
      pub edges : s.transfer.edges ≡ k
      pub view : view_of s ≡ r
      pub received : s.transfer.received ≡ x
      pub down : up ≡ false → is_up s.flags.spif ≡ false

    module _ (s : Spi) (k : ℕ) (r : Shifter) (a : At s k r) where
      pub at_same : (t : Spi) → Same s t → At t k r
      at_same t m = record {
        control = m.control ∙ a.control;
        enabled = ap is_enabled m.control ∙ a.enabled;
        edges = ap (λ (u : Transfer). u.edges) m.transfer ∙ a.edges;
        view = rw (m.control, m.transfer, m.pins) a.view;
        received = ap (λ (u : Transfer). u.received) m.transfer ∙ a.received;
        down = λ d. m.down (a.down d);
      }

      module _ (l : Levels) (kept : is_kept s.control l ≡ true) where
        -- a clock: where the unit is then, and what is out
        pub at-waits : edge_at s l.sck ≡ false → At (clock_of s l) k r × (out_of (clock_of s l) ≡ r.out)
        at-waits q =
            subst (λ (t : Spi). At t k r × (out_of t ≡ r.out)) (sym (clock-waits s l a.enabled kept q)) (
              record {
                control = a.control;
                enabled = a.enabled;
                edges = a.edges;
                view = waited-view s l.sck ∙ a.view;
                received = a.received;
                down = a.down;
              },
              waited-out s l.sck ∙ ap (λ (v : Shifter). v.out) a.view,
            )

        clock-edge : edge_at s l.sck ≡ true
            → clock_of s l ≡ edged_as s l.sck (edged_of (mode_of c) (record { register = r; edges = k }) (input_of c l))
        clock-edge q =
            clock-edges s l a.enabled kept q
            ∙ ap (edged_as s l.sck)
            (ap (λ (d : Control). edged_of (mode_of d) (record { register = view_of s; edges = s.transfer.edges }) (input_of d l)) a.control
            ∙ ap₂ (λ (v : Shifter) (n : ℕ). edged_of (mode_of c) (record { register = v; edges = n }) (input_of c l)) a.view a.edges)

        pub at_goes : edge_at s l.sck ≡ true → k < 15
            → let q : Shifter = edge_of (mode_of c) r (k + 1) (input_of c l) in At (clock_of s l) (k + 1) q × (out_of (clock_of s l) ≡ q.out)
        at_goes q lt =
            let y : Exchange = record { register = edge_of (mode_of c) r (k + 1) (input_of c l); edges = k + 1 } in
            subst (λ (t : Spi). At t (k + 1) y.register × (out_of t ≡ y.register.out))
            (sym (clock-edge q ∙ ap (edged_as s l.sck) (edged-onward (mode_of c) (record { register = r; edges = k }) (input_of c l) lt))) (
              record {
                control = a.control;
                enabled = a.enabled;
                edges = refl;
                view = edged-view s l.sck y k refl;
                received = a.received;
                down = a.down;
              },
              edged-out s l.sck (Onward y),
            )

        pub at-ends : edge_at s l.sck ≡ true → k ≡ 15 → Closed (clock_of s l) (edge_of (mode_of c) r 16 (input_of c l))
        at-ends q k15 =
            let y : Shifter = edge_of (mode_of c) r 16 (input_of c l) in
            subst (λ (t : Spi). Closed t y)
            (sym (clock-edge q ∙ ap (edged_as s l.sck) (edged-last (mode_of c) (record { register = r; edges = k }) (input_of c l) k15)))
            (record {
              over = record {
                control = a.control;
                enabled = a.enabled;
                edges = refl;
                left = refl;
                received = refl;
                spif = raised-up s.flags.spif;
              };
              out = edged-out s l.sck (Complete y);
            })
