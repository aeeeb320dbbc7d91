-- The cases of one item of the pass, and the lines that go out at it.
use Prim.Native.Nat.{ℕ, ◌+◌, ◌-◌, ◌≤◌}
use mathlib.Core.Path.{◌≡◌, refl, ap, ◌∙◌}
use mathlib.Core.List.{List, ◌++◌, append-nil}
use native.Mathlib.Omega.{arith}
use lib.Dec.{eqb, ltb}
use borrow.Author.Tests.{ltb-false}
use Rattle.choice.proofs.Picks.{pick_ind}
use Rattle.trace.specs.Shrinking.{most}
use Rattle.trace.specs.Text.{InRange, line_of, lines_of}
use Rattle.trace.specs.Turning.{run_of, run_items, added_turn, turn_of, call_of, out_at}
use Rattle.trace.specs.declared.item.Item.{Item}
use Rattle.trace.specs.declared.item.Item.TheVariants.{Write, Read, Vector, Clocks}
use Rattle.trace.specs.declared.turn.Run.{Run}
use Rattle.trace.specs.declared.turn.Turn.{Turn}
use Rattle.trace.proofs.PutLaws.{lines-append}

-- the run that is held back is a line's at most, since no line has more
pub turn-held : (r : Run) (i : Item) → r.clocks ≤ most → InRange i → (turn_of r i).held.clocks ≤ most
unfolding turn_of added_turn
turn-held r (Write a v m) g h = omega arith
turn-held r (Read a v m) g h = omega arith
turn-held r (Vector k m) g h = omega arith
turn-held r (Clocks m d) g h =
    pick_ind (λ (t : Turn). t.held.clocks ≤ most) (eqb r.levels m) (added_turn r d) (record { out = r; held = run_of m d })
    (λ e. pick_ind (λ (t : Turn). t.held.clocks ≤ most) (ltb most (r.clocks + d))
    (record { out = run_of r.levels most; held = run_of r.levels (r.clocks + d - most) })
    (record { out = run_of r.levels 0; held = run_of r.levels (r.clocks + d) })
    (λ f. omega (arith, h.2))
    (λ f. omega (arith, ltb-false most (r.clocks + d) f)))
    (λ e. h.2)

-- what goes out at clocks, and at a call
pub out-clocks : (out : Run) (i : Item) (l c : ℕ) → i ≡ Clocks l c → lines_of (out_at out i) ≡ lines_of (run_items out)
out-clocks out i l c e = rw e (ap lines_of (append-nil (run_items out)))

pub out-call : (out : Run) (i : Item) → ((l c : ℕ) → i ≡ Clocks l c → ⊥) → lines_of (out_at out i) ≡ lines_of (run_items out) ++ line_of i
out-call out i h = lines-append (run_items out) (call_of i) ∙ ap (λ (x : List ℕ). lines_of (run_items out) ++ x) (one i h)
  where
    one : (i : Item) → ((l c : ℕ) → i ≡ Clocks l c → ⊥) → lines_of (call_of i) ≡ line_of i
    one (Write a v n) h = append-nil (line_of (Write a v n))
    one (Read a v n) h = append-nil (line_of (Read a v n))
    one (Vector k n) h = append-nil (line_of (Vector k n))
    one (Clocks l c) h = absurd (h l c refl)
