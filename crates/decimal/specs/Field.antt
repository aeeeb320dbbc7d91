-- A field at a place of a text: a decimal up to a limit, closed by the byte `end`. That it is found exactly where the
-- digits of such a number stand is proved in `proofs/FieldMeaning.antt`.
use Rattle.std.specs.Prelude.{ℕ, ◌+◌, ◌*◌, ◌-◌, Option, Some, None, List, [], ◌∷◌, ltb, eqb, drop}
use Rattle.choice.specs.Pick.{pick}
use Rattle.decimal.specs.Digits.{is_digit}
use Rattle.decimal.specs.declared.Field.{Field}

-- a decimal was read, and this is the place past the byte that closes it
abbrev pub number : ℕ → ℕ → Option Field
number value next = Some (record { value = value; next = next })

-- a digit after others that are worth `value`
abbrev pub with_digit : ℕ → ℕ → ℕ
with_digit value b = 10 * value + (b - 48)

-- the bytes from the place `at` on, after digits that are worth `value`. A 0 is followed by `end` alone: any digit
-- after it would make it a leading zero
unfoldable pub rest_of : ℕ → ℕ → ℕ → ℕ → List ℕ → Option Field
rest_of limit end value at [] = None
rest_of limit end value at (b ∷ rest) =
    let more : Option Field = rest_of limit end (with_digit value b) (at + 1) rest in
    pick (ltb limit value) None
    (pick (eqb b end) (number value (at + 1))
    (pick (eqb value 0) None
    (pick (is_digit b) more None)))

-- a number has at least one digit
unfoldable pub field_from : ℕ → ℕ → ℕ → List ℕ → Option Field
field_from limit end at [] = None
field_from limit end at (b ∷ rest) = pick (is_digit b) (rest_of limit end (with_digit 0 b) (at + 1) rest) None

abbrev pub field_at : List ℕ → ℕ → ℕ → ℕ → Option Field
field_at text at limit end = field_from limit end at (drop at text)
