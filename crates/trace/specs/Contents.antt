-- What a text holds (document 02, M-100): the items of its lines up to the first malformed one, and whether there is
-- such a line. That this is the inverse of `text_of` is stated both ways as `Reads` in specs/Meaning.antt.
use Rattle.std.specs.Prelude.{ℕ, ◌+◌, Bool, true, false, Result, Ok, Err, List, [], ◌∷◌, eqb}
use Rattle.choice.specs.Pick.{pick}
use Rattle.trace.specs.Lines.{lines_from}
use Rattle.trace.specs.Text.{first_line}
use Rattle.trace.specs.declared.item.Item.{Item}
use Rattle.trace.specs.declared.line.NoItem.{NoItem}
use Rattle.trace.specs.declared.text.Malformed.{Malformed}

-- whether every line is an item's; else the first that is not, from 1
abbrev pub Check : Type 0
Check = Result (Unit {0}) Malformed

abbrev pub passed : Check
passed = Ok tt

abbrev pub malformed_at : ℕ → Check
malformed_at line = Err (record { line = line })

pub record Contents : Type 0 where
  pub items : List Item
  pub check : Check

-- no item more
abbrev pub ended : Check → Contents
ended c = record { items = []; check = c }

-- the items of lines, up to a malformed one
unfoldable pub items_in : List (Result Item NoItem) → List Item
items_in [] = []
items_in (Ok i ∷ rest) = i ∷ items_in rest
items_in (Err e ∷ rest) = []

-- whether they are all items', where the first has this number
unfoldable pub check_in : ℕ → List (Result Item NoItem) → Check
check_in line [] = passed
check_in line (Ok i ∷ rest) = check_in (line + 1) rest
check_in line (Err e ∷ rest) = malformed_at line

-- from a place on, where the line there has this number
abbrev pub contents_at : List ℕ → ℕ → ℕ → Contents
contents_at text at line = record { items = items_in (lines_from text at); check = check_in line (lines_from text at) }

-- the text begins with these bytes
unfoldable pub starts_with : List ℕ → List ℕ → Bool
starts_with [] text = true
starts_with (x ∷ head) [] = false
starts_with (x ∷ head) (y ∷ text) = pick (eqb y x) (starts_with head text) false

-- the first line has 8 bytes, 'to be compared byte for byte'
abbrev pub contents_of : List ℕ → Contents
contents_of text = pick (starts_with first_line text) (contents_at text 8 2) (ended (malformed_at 1))
