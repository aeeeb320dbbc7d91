-- A means, no rule: the shrink as a pass over the items, with a run of clocks held back. That it comes to `shrunk_of`
-- is proved in proofs/OutLaws.antt.
use Rattle.std.specs.Prelude.{ℕ, ◌+◌, ◌-◌, List, [], ◌∷◌, ◌++◌, eqb, ltb}
use Rattle.choice.specs.Pick.{pick}
use Rattle.trace.specs.Shrinking.{most, rest_of, parts_of}
use Rattle.trace.specs.declared.item.Item.{Item}
use Rattle.trace.specs.declared.item.Item.TheVariants.{Write, Read, Vector, Clocks}
use Rattle.trace.specs.declared.turn.Run.{Run}
use Rattle.trace.specs.declared.turn.Turn.{Turn}

-- n clocks with levels l are held back, none where n is 0: what goes out from there on
unfoldable pub out_of : ℕ → ℕ → ℕ → List Item → List Item
out_of full l n [] = parts_of full l n
out_of full l n (Write a v m ∷ is) = parts_of full l n ++ Write a v m ∷ out_of full l 0 is
out_of full l n (Read a v m ∷ is) = parts_of full l n ++ Read a v m ∷ out_of full l 0 is
out_of full l n (Vector k m ∷ is) = parts_of full l n ++ Vector k m ∷ out_of full l 0 is
out_of full l n (Clocks m d ∷ is) = pick (eqb l m) (out_of full l (n + d) is) (parts_of full l n ++ out_of full m d is)

abbrev pub run_of : ℕ → ℕ → Run
run_of l n = record { levels = l; clocks = n }

-- one item of the pass: the run that goes out before it, and the one that is held back after it. Of clocks with equal
-- levels a full line goes out where there are more
unfoldable pub added_turn : Run → ℕ → Turn
added_turn r d =
    pick (ltb most (r.clocks + d))
    (record { out = run_of r.levels most; held = run_of r.levels (r.clocks + d - most) })
    (record { out = run_of r.levels 0; held = run_of r.levels (r.clocks + d) })

abbrev pub call_turn : Run → Turn
call_turn r = record { out = r; held = run_of r.levels 0 }

unfoldable pub turn_of : Run → Item → Turn
turn_of r (Write a v m) = call_turn r
turn_of r (Read a v m) = call_turn r
turn_of r (Vector k m) = call_turn r
turn_of r (Clocks m d) = pick (eqb r.levels m) (added_turn r d) (record { out = r; held = run_of m d })

-- the line of a run, if it has clocks
abbrev pub run_items : Run → List Item
run_items r = rest_of r.levels r.clocks

-- a call goes out itself
abbrev pub call_of : Item → List Item
call_of (Write a v n) = Write a v n ∷ []
call_of (Read a v n) = Read a v n ∷ []
call_of (Vector k n) = Vector k n ∷ []
call_of (Clocks l c) = []

-- what goes out at an item
abbrev pub out_at : Run → Item → List Item
out_at r i = run_items r ++ call_of i
