-- A whole byte of the SPI, master and slave alike: it moves by its edges, so that what `shifter` says of any carrier
-- holds of it.
use Prim.Native.Nat.{ℕ, ◌+◌, ◌<◌}
use mathlib.Core.Bool.{Bool, true, false}
use mathlib.Core.List.{List}
use mathlib.Core.Path.{◌≡◌, refl, sym, ap, subst}
use Rattle.choice.proofs.Picks.{clash}
use Rattle.shifter.specs.Byte.{Presented}
use Rattle.shifter.specs.Edge.{is_sampling, edge_of}
use Rattle.shifter.specs.Carrier.{Carries, Edges}
use Rattle.shifter.specs.declared.Shifter.{Shifter}
use Rattle.shifter.proofs.Carried.{carried}
use Rattle.spi.specs.Control.{is_enabled, mode_of}
use Rattle.spi.specs.Flag.{is_up}
use Rattle.spi.specs.Event.{Event, clock, write, read, vector, next_of, carrier, final_of, input_of, out_of, is_harmless, is_edge_in, input_in, is_undisturbed, is_up_to}
use Rattle.spi.specs.Exchange.{Exchanges}
use Rattle.spi.specs.declared.clock.Levels.{Levels}
use Rattle.spi.specs.declared.control.Control.{Control}
use Rattle.spi.specs.declared.unit.Spi.{Spi}
use Rattle.spi.proofs.ClockLaws.{view_of}
use Rattle.spi.proofs.EventLaws.{write_same, read_same, vector-same}
use Rattle.spi.proofs.Progress.{At, Closed, idle-of, at_same, at-waits, at_goes, at-ends}

module _ (c : Control) (x : ℕ) (up : Bool) where
  module _ (s : Spi) (k : ℕ) (r : Shifter) (a : At c x up s k r) where
    waits : (e : Event) → is_harmless s e ≡ true → is_edge_in s e ≡ false → At c x up (next_of s e) k r
    waits (clock l) h q = (at-waits c x up s k r a l h q).0
    waits (write g v) h q = at_same c x up s k r a _ (write_same s g v h)
    waits (read g) h q = at_same c x up s k r a _ (read_same s g)
    waits vector h q = at_same c x up s k r a _ (vector-same s)

    input-same : (l : Levels) (n : ℕ) → edge_of (mode_of c) r n (input_of c l) ≡ edge_of (mode_of c) r n (input_of s.control l)
    input-same l n = ap (λ (d : Control). edge_of (mode_of c) r n (input_of d l)) (sym a.control)

    goes : (e : Event) → is_harmless s e ≡ true → is_edge_in s e ≡ true → k < 15
        → let q : Shifter = edge_of (mode_of c) r (k + 1) (input_in s e) in At c x up (next_of s e) (k + 1) q × (out_of (next_of s e) ≡ q.out)
    goes (clock l) h q lt =
        subst (λ (z : Shifter). At c x up (next_of s (clock l)) (k + 1) z × (out_of (next_of s (clock l)) ≡ z.out)) (input-same l (k + 1))
        (at_goes c x up s k r a l h q lt)
    goes (write g v) h q lt = clash q refl
    goes (read g) h q lt = clash q refl
    goes vector h q lt = clash q refl

    ends : (e : Event) → is_harmless s e ≡ true → is_edge_in s e ≡ true → k ≡ 15
        → let q : Shifter = edge_of (mode_of c) r 16 (input_in s e) in
        Closed c (next_of s e) q × (is_sampling (mode_of c).cpha 16 ≡ true → out_of (next_of s e) ≡ q.out)
    ends (clock l) h q k15 =
        let w = subst (λ (z : Shifter). Closed c (next_of s (clock l)) z) (input-same l 16) (at-ends c x up s k r a l h q k15) in
        (w, λ _. w.out)
    ends (write g v) h q k15 = clash q refl
    ends (read g) h q k15 = clash q refl
    ends vector h q k15 = clash q refl

  edges : Edges carrier (mode_of c) (At c x up) (Closed c)
  edges = record {
    waits = λ s e k r a h q. waits s k r a e h q;
    goes = λ s e k r a h q lt. goes s k r a e h q lt;
    ends = λ s e r a h q. ends s 15 r a e h q refl;
  }

-- any byte, from no edge seen
pub exchanges : (s : Spi) (es : List Event) → is_enabled s.control ≡ true → is_undisturbed s es ≡ true → s.transfer.edges ≡ 0 → s.transfer.shift < 256
    → Presented (mode_of s.control) (view_of s) → is_up_to 16 s es ≡ true → Exchanges (mode_of s.control) s s.transfer.shift es
exchanges s es on kp e0 b pr u =
    let c : Control = s.control in
    let x : ℕ = s.transfer.received in
    let up : Bool = is_up s.flags.spif in
    let w =
    carried carrier (mode_of c) (At c x up) (Closed c) (edges c x up) s (view_of s) es
    (record { control = refl; enabled = on; edges = e0; view = refl; received = refl; down = λ d. d }) b pr kp u in
    record {
      carries = subst (λ (n : ℕ). Carries carrier (mode_of c) s s.transfer.shift n es) (sym w.ended.over.received) w.carries;
      flags = record {
        spif = w.ended.over.spif;
        before = λ xs y ys q. let i = w.before xs y ys q in (i.at.down, i.at.received);
      };
      idle = idle-of (final_of s es).transfer w.ended.over.edges w.ended.over.left;
    }
