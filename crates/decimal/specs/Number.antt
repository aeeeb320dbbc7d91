-- A number's digits in a lent buffer.
use Rattle.std.specs.Prelude.{ℕ, ◌+◌, Bool, List, leb, length}
use Rattle.std.proofs.lemmas.List.Edits.{sets}
use Rattle.choice.specs.Pick.{pick}
use Rattle.decimal.specs.Digits.{digits_of}

-- they have room from this place on
abbrev pub has_room : List ℕ → ℕ → ℕ → Bool
has_room buffer at n = leb (at + length (digits_of n)) (length buffer)

-- the buffer with them there, and the place past them; else nothing is put
unfoldable pub with_number : List ℕ → ℕ → ℕ → List ℕ
with_number buffer at n = pick (has_room buffer at n) (sets buffer at (digits_of n)) buffer

unfoldable pub place_past : List ℕ → ℕ → ℕ → ℕ
place_past buffer at n = pick (has_room buffer at n) (at + length (digits_of n)) at
