-- The text of a trace (document 02, M-100): 'text, LF after each line, fields parted by one tab, decimals without
-- leading zeros'.
use Rattle.std.specs.Prelude.{ℕ, ◌≤◌, List, [], ◌∷◌, ◌++◌}
use Rattle.decimal.specs.Digits.{digits_of}
use Rattle.trace.specs.declared.item.Item.{Item}
use Rattle.trace.specs.declared.item.Item.TheVariants.{Write, Read, Vector, Clocks}

-- 'a level byte above 31, clocks out of range, another number above 255' is malformed
abbrev pub InRange : Item → Type 0
InRange (Write a v n) = (a ≤ 255) × (v ≤ 255) × (n ≤ 255)
InRange (Read a v n) = (a ≤ 255) × (v ≤ 255) × (n ≤ 255)
InRange (Vector k n) = (k ≤ 255) × (n ≤ 255)
InRange (Clocks l c) = (l ≤ 31) × (1 ≤ c) × (c ≤ 4294967295)

abbrev pub AllInRange : List Item → Type 0
AllInRange [] = Unit {0}
AllInRange (i ∷ is) = InRange i × AllInRange is

-- W, R, A, C
abbrev pub letter_of : Item → ℕ
letter_of (Write a v n) = 87
letter_of (Read a v n) = 82
letter_of (Vector k n) = 65
letter_of (Clocks l c) = 67

-- '`W` address value answer; `R` address value answer; `A` vector answer; `C` levels clocks'
abbrev pub numbers_of : Item → List ℕ
numbers_of (Write a v n) = a ∷ v ∷ n ∷ []
numbers_of (Read a v n) = a ∷ v ∷ n ∷ []
numbers_of (Vector k n) = k ∷ n ∷ []
numbers_of (Clocks l c) = l ∷ c ∷ []

-- a tab between two fields, LF after the last
abbrev pub fields_of : List ℕ → List ℕ
fields_of [] = 10 ∷ []
fields_of (x ∷ []) = digits_of x ++ 10 ∷ []
fields_of (x ∷ y ∷ r) = digits_of x ++ 9 ∷ fields_of (y ∷ r)

abbrev pub line_of : Item → List ℕ
line_of i = letter_of i ∷ 9 ∷ fields_of (numbers_of i)

abbrev pub lines_of : List Item → List ℕ
lines_of [] = []
lines_of (i ∷ is) = line_of i ++ lines_of is

-- 'the first line is `chime`, tab, `1`'
abbrev pub first_line : List ℕ
first_line = 99 ∷ 104 ∷ 105 ∷ 109 ∷ 101 ∷ 9 ∷ 49 ∷ 10 ∷ []

abbrev pub text_of : List Item → List ℕ
text_of is = first_line ++ lines_of is
