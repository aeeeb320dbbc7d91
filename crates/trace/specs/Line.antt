-- The line at a place of a text: what it holds and the next place, malformed, or the text's end. That it is found
-- exactly where the line of an item in range stands is proved in `proofs/LineMeaning.antt` and `proofs/LineFound.antt`.
use Rattle.std.specs.Prelude.{ℕ, ◌+◌, Option, Some, None, Result, Ok, Err, List, ltb, eqb, length, get_or}
use Rattle.std.specs.Option.{ok_or}
use Rattle.choice.specs.Pick.{pick}
use Rattle.decimal.specs.Field.{field_at}
use Rattle.decimal.specs.declared.Field.{Field}
use Rattle.trace.specs.declared.item.Item.{Item}
use Rattle.trace.specs.declared.item.Item.TheVariants.{Write, Read, Vector, Clocks}
use Rattle.trace.specs.declared.line.Pair.{Pair}
use Rattle.trace.specs.declared.line.Triple.{Triple}
use Rattle.trace.specs.declared.line.Line.{Line}
use Rattle.trace.specs.declared.line.NoItem.{NoItem}

-- two numbers, a tab between and LF after them
abbrev pub two : ℕ → ℕ → ℕ → Option Pair
two x y next = Some (record { first = x; second = y; next = next })

abbrev pub pair_by : ℕ → Option Field → Option Pair
pair_by x None = None
pair_by x (Some f) = two x f.value f.next

abbrev pub pair_from : List ℕ → ℕ → Option Field → Option Pair
pair_from text second None = None
pair_from text second (Some f) = pair_by f.value (field_at text f.next second 10)

unfoldable pub pair_at : List ℕ → ℕ → ℕ → ℕ → Option Pair
pair_at text at first second = pair_from text second (field_at text at first 9)

-- three numbers up to 255, tabs between and LF after them
abbrev pub three : ℕ → ℕ → ℕ → ℕ → Option Triple
three x y z next = Some (record { first = x; second = y; third = z; next = next })

abbrev pub triple_by : ℕ → Option Pair → Option Triple
triple_by x None = None
triple_by x (Some p) = three x p.first p.second p.next

abbrev pub triple_from : List ℕ → Option Field → Option Triple
triple_from text None = None
triple_from text (Some f) = triple_by f.value (pair_at text f.next 255 255)

unfoldable pub triple_at : List ℕ → ℕ → Option Triple
triple_at text at = triple_from text (field_at text at 255 9)

-- an item, and the place of the next line
abbrev pub item_line : Item → ℕ → Option Line
item_line i next = Some (record { item = i; next = next })

abbrev pub write_by : Option Triple → Option Line
write_by None = None
write_by (Some t) = item_line (Write t.first t.second t.third) t.next

abbrev pub read_by : Option Triple → Option Line
read_by None = None
read_by (Some t) = item_line (Read t.first t.second t.third) t.next

abbrev pub vector_by : Option Pair → Option Line
vector_by None = None
vector_by (Some p) = item_line (Vector p.first p.second) p.next

abbrev pub clocks_by : Option Pair → Option Line
clocks_by None = None
clocks_by (Some p) = pick (eqb p.second 0) None (item_line (Clocks p.first p.second) p.next)

-- the fields at `at` of a line that begins with this letter: W, R, A or C
unfoldable pub item_at : List ℕ → ℕ → ℕ → Option Line
item_at text letter at =
    pick (eqb letter 87) (write_by (triple_at text at))
    (pick (eqb letter 82) (read_by (triple_at text at))
    (pick (eqb letter 65) (vector_by (pair_at text at 255 255))
    (pick (eqb letter 67) (clocks_by (pair_at text at 31 4294967295))
    None)))

-- a letter, a tab and the fields
unfoldable pub fields_at : List ℕ → ℕ → Option Line
fields_at text at = pick (eqb (get_or text (at + 1) 0) 9) (item_at text (get_or text at 0) (at + 2)) None

-- past the end there is no line
unfoldable pub line_at : List ℕ → ℕ → Option (Result Line NoItem)
line_at text at = pick (ltb at (length text)) (Some (ok_or (fields_at text at) (record {}))) None

-- the three that the line at a place can be
abbrev pub found : Item → ℕ → Option (Result Line NoItem)
found i next = Some (Ok (record { item = i; next = next }))

abbrev pub malformed : Option (Result Line NoItem)
malformed = Some (Err (record {}))

abbrev pub no_line : Option (Result Line NoItem)
no_line = None
