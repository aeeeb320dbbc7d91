-- The shrink (document 02, M-109): 'neighbouring `C` lines with equal levels become one, or, past 4,294,967,295, as
-- many full ones as go and the rest, if any, in a last one'. What it keeps, and that no text is shorter, is stated as
-- `Shrinks` in specs/Promises.antt.
use Rattle.std.specs.Prelude.{ℕ, zero, suc, ◌+◌, ◌/◌, ◌%◌, List, [], ◌∷◌, ◌++◌, eqb, replicate}
use Rattle.choice.specs.Pick.{pick}
use Rattle.trace.specs.Contents.{contents_of}
use Rattle.trace.specs.Text.{text_of}
use Rattle.trace.specs.declared.item.Item.{Item}
use Rattle.trace.specs.declared.item.Item.TheVariants.{Write, Read, Vector, Clocks}

-- the most clocks that a line has
abbrev pub most : ℕ
most = 4294967295

-- c clocks with levels l before an item: with clocks at equal levels they become one, however many they are
abbrev pub joined : ℕ → ℕ → Item → List Item → List Item
joined l c (Write a v n) is = Clocks l c ∷ Write a v n ∷ is
joined l c (Read a v n) is = Clocks l c ∷ Read a v n ∷ is
joined l c (Vector k n) is = Clocks l c ∷ Vector k n ∷ is
joined l c (Clocks m d) is = pick (eqb l m) (Clocks l (c + d) ∷ is) (Clocks l c ∷ Clocks m d ∷ is)

abbrev pub clocks_before : ℕ → ℕ → List Item → List Item
clocks_before l c [] = Clocks l c ∷ []
clocks_before l c (i ∷ is) = joined l c i is

abbrev pub before : Item → List Item → List Item
before (Write a v n) is = Write a v n ∷ is
before (Read a v n) is = Read a v n ∷ is
before (Vector k n) is = Vector k n ∷ is
before (Clocks l c) is = clocks_before l c is

unfoldable pub merged_of : List Item → List Item
merged_of [] = []
merged_of (i ∷ is) = before i (merged_of is)

-- the rest, if any
abbrev pub rest_of : ℕ → ℕ → List Item
rest_of l zero = []
rest_of l (suc r) = Clocks l (suc r) ∷ []

-- n clocks as full items, as many as go, and the rest in a last one
unfoldable pub parts_of : ℕ → ℕ → ℕ → List Item
parts_of full l n = replicate (n / full) (Clocks l full) ++ rest_of l (n % full)

abbrev pub cut_item : ℕ → Item → List Item
cut_item full (Write a v n) = Write a v n ∷ []
cut_item full (Read a v n) = Read a v n ∷ []
cut_item full (Vector k n) = Vector k n ∷ []
cut_item full (Clocks l c) = parts_of full l c

unfoldable pub cut_of : ℕ → List Item → List Item
cut_of full [] = []
cut_of full (i ∷ is) = cut_item full i ++ cut_of full is

unfoldable pub shrunk_of : List Item → List Item
shrunk_of is = cut_of most (merged_of is)

-- the shrunk text
abbrev pub shrunk_text : List ℕ → List ℕ
shrunk_text text = text_of (shrunk_of (contents_of text).items)
