-- A decimal number in a text.
use Rattle.std.specs.Prelude.{ℕ, Bool, true, false, List, [], ◌∷◌, leb, Option, Some, None}
use Rattle.choice.specs.Pick.{pick}
use Rattle.decimal.specs.Digits.{is_digit}
use Rattle.decimal.specs.Field.{with_digit}

unfoldable pub are_digits : List ℕ → Bool
are_digits [] = true
are_digits (b ∷ text) = pick (is_digit b) (are_digits text) false

-- what digits are worth after others that are worth `value`
unfoldable pub worth_after : ℕ → List ℕ → ℕ
worth_after value [] = value
worth_after value (b ∷ text) = worth_after (with_digit value b) text

-- what 32 bits hold
abbrev pub fitting : ℕ → Option ℕ
fitting value = pick (leb value 4294967295) (Some value) None

-- digits alone
abbrev pub number_after : ℕ → List ℕ → Option ℕ
number_after value text = pick (are_digits text) (fitting (worth_after value text)) None

-- a number is at least one digit, and nothing else
abbrev pub number_in : List ℕ → Option ℕ
number_in [] = None
number_in (b ∷ text) = number_after 0 (b ∷ text)

-- A means, no rule: the same by one byte after the other.
abbrev pub digit_read : ℕ → ℕ → Option ℕ
digit_read value b = pick (is_digit b) (fitting (with_digit value b)) None

abbrev pub byte_read : Option ℕ → ℕ → Option ℕ
byte_read (Some value) b = digit_read value b
byte_read None b = None

unfoldable pub read_from : Option ℕ → List ℕ → Option ℕ
read_from n [] = n
read_from n (b ∷ text) = read_from (byte_read n b) text
