-- What the writer and the shrink keep to (document 02, M-109), over the definitions that their contracts cite.
use Rattle.std.specs.Prelude.{ℕ, ◌≤◌, true, List, [], ◌∷◌, ◌++◌, ◌≡◌, length, replicate, take}
use Rattle.trace.specs.Contents.{passed, contents_of}
use Rattle.trace.specs.Filling.{buffer_written}
use Rattle.trace.specs.Listing.{list_of, listing_of}
use Rattle.trace.specs.Shrinking.{shrunk_text}
use Rattle.trace.specs.Text.{AllInRange, text_of}
use Rattle.trace.specs.declared.item.Item.{Item}
use Rattle.trace.specs.declared.item.Item.TheVariants.{Write, Read, Vector, Clocks}

-- a list of bytes is taken exactly if it is the list of some items in range, and then those are its items; else 9
pub record Lists (list : List ℕ) : Type 0 where
  pub taken : (listing_of list).sound ≡ true
      → AllInRange (listing_of list).items × (list ≡ list_of (listing_of list).items)
  pub found : (is : List Item) → AllInRange is → list ≡ list_of is → listing_of list ≡ record { items = is; sound = true }

-- 'reading what was written gives the list back': the text that stands in the buffer is well-formed, and the list of
-- its items is the list that was given
pub record Writes (list buffer : List ℕ) : Type 0 where
  pub text : take (length (text_of (listing_of list).items)) (buffer_written list buffer) ≡ text_of (listing_of list).items
  pub read : (contents_of (text_of (listing_of list).items)).check ≡ passed
  pub back : list_of (contents_of (text_of (listing_of list).items)).items ≡ list

-- and writing what was read gives the text back
pub record Rewrites (text : List ℕ) : Type 0 where
  pub sound : (listing_of (list_of (contents_of text).items)).sound ≡ true
  pub back : text_of (listing_of (list_of (contents_of text).items)).items ≡ text

-- an item clock by clock
unfoldable pub units_of : Item → List Item
units_of (Write a v n) = Write a v n ∷ []
units_of (Read a v n) = Read a v n ∷ []
units_of (Vector k n) = Vector k n ∷ []
units_of (Clocks l c) = replicate c (Clocks l 1)

unfoldable pub expanded_of : List Item → List Item
expanded_of [] = []
expanded_of (i ∷ is) = units_of i ++ expanded_of is

-- the same clocks and calls in order
abbrev pub Same : List Item → List Item → Type 0
Same is js = expanded_of is ≡ expanded_of js

abbrev pub SameText : List ℕ → List ℕ → Type 0
SameText text other = Same (contents_of text).items (contents_of other).items

-- of a well-formed text
pub record Shrinks (text : List ℕ) : Type 0 where
  -- the shrunk text is one, with 'the same clocks and calls in order'
  pub well : (contents_of (shrunk_text text)).check ≡ passed
  pub same : SameText (shrunk_text text) text
  -- 'no text with the same clocks and calls in order is shorter', the text itself among them
  pub least : (other : List ℕ) → (contents_of other).check ≡ passed → SameText other text
      → length (shrunk_text text) ≤ length other
  -- every such text has the same shrunk text, so 'shrinking twice changes nothing'
  pub one : (other : List ℕ) → (contents_of other).check ≡ passed → SameText other text
      → shrunk_text other ≡ shrunk_text text
  pub twice : shrunk_text (shrunk_text text) ≡ shrunk_text text
