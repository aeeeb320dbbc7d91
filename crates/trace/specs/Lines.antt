-- The lines of a text one after the other, as a reader gives them.
use Rattle.std.specs.Prelude.{ℕ, zero, suc, ◌-◌, Option, Some, None, Result, Ok, Err, List, [], ◌∷◌, length}
use Rattle.trace.specs.Line.{line_at}
use Rattle.trace.specs.declared.item.Item.{Item}
use Rattle.trace.specs.declared.line.Line.{Line}
use Rattle.trace.specs.declared.line.NoItem.{NoItem}

-- a line, and those behind it; a malformed one is the last
abbrev pub with_line : Option (Result Line NoItem) → (ℕ → List (Result Item NoItem)) → List (Result Item NoItem)
with_line None rest = []
with_line (Some (Err e)) rest = Err e ∷ []
with_line (Some (Ok l)) rest = Ok l.item ∷ rest l.next

-- at most n lines
unfoldable pub lines_by : ℕ → List ℕ → ℕ → List (Result Item NoItem)
lines_by zero text at = []
lines_by (suc n) text at = with_line (line_at text at) (lines_by n text)

-- from a place on; every line has a byte
unfoldable pub lines_from : List ℕ → ℕ → List (Result Item NoItem)
lines_from text at = lines_by (length text - at) text at

-- what a reader gives of the line at its place ..
abbrev pub item_in : Option (Result Line NoItem) → Option (Result Item NoItem)
item_in None = None
item_in (Some (Err e)) = Some (Err e)
item_in (Some (Ok l)) = Some (Ok l.item)

-- .. and its place then: behind the line, or at the text's end behind a malformed one
abbrev pub place_after : List ℕ → ℕ → Option (Result Line NoItem) → ℕ
place_after text at None = at
place_after text at (Some (Err e)) = length text
place_after text at (Some (Ok l)) = l.next
