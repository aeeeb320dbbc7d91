-- What it means that a text is well-formed or malformed, and the promise that reading keeps (document 02, M-100): it is
-- the inverse of `text_of`.
use Rattle.std.specs.Prelude.{ℕ, ◌+◌, ◌<◌, ◌≤◌, ◌≡◌, List, [], ◌∷◌, ◌++◌, eqb, length, drop}
use Rattle.choice.specs.Pick.{pick}
use Rattle.trace.specs.Contents.{passed, malformed_at, contents_of}
use Rattle.trace.specs.Text.{InRange, AllInRange, line_of, text_of, first_line}
use Rattle.trace.specs.declared.item.Item.{Item}

-- the line of an item in range stands in the text from `at` up to `next`
pub record IsLine (text : List ℕ) (at : ℕ) (i : Item) (next : ℕ) : Type 0 where
  pub range : InRange i
  pub shown : drop at text ≡ line_of i ++ drop next text
  pub after : at < next
  pub within : next ≤ length text

-- these bytes begin with no such line
abbrev pub NoLine : List ℕ → Type 0
NoLine rest = (i : Item) (s : List ℕ) → InRange i → rest ≡ line_of i ++ s → ⊥

-- well-formed: the text of these items, all in range
pub record IsText (text : List ℕ) (is : List Item) : Type 0 where
  pub range : AllInRange is
  pub shown : text ≡ text_of is

-- this line, from 1, is the first that is malformed: the first line itself, or one that comes after those of items in
-- range. A text that ends without LF has a last line that is no item's
pub data MalformedAt (text : List ℕ) : ℕ → Type 0 where
  first : ((s : List ℕ) → text ≡ first_line ++ s → ⊥) → MalformedAt text 1
  later : (is : List Item) (rest : List ℕ) → AllInRange is → text ≡ text_of is ++ rest → 0 < length rest → NoLine rest
      → MalformedAt text (2 + length is)

-- how many LF there are. The text of items has one for each and one more (`feeds-text` in proofs/LineCount.antt), so
-- the line above has the number that an editor gives it: one more than the LF before it
unfoldable pub feeds_in : List ℕ → ℕ
feeds_in [] = 0
feeds_in (b ∷ s) = pick (eqb b 10) (1 + feeds_in s) (feeds_in s)

-- a text is read as well-formed exactly if it is the text of some items in range, and then those are its items, and no
-- others; else it is read as malformed exactly at the first line that is
pub record Reads (text : List ℕ) : Type 0 where
  pub well_formed : (contents_of text).check ≡ passed → IsText text (contents_of text).items
  pub found : (is : List Item) → IsText text is → ((contents_of text).check ≡ passed) × ((contents_of text).items ≡ is)
  pub malformed : (line : ℕ) → (contents_of text).check ≡ malformed_at line → MalformedAt text line
  pub refused : (line : ℕ) → MalformedAt text line → (contents_of text).check ≡ malformed_at line
