-- A means, no rule: bytes put into a lent buffer, and a part of a line.
use Rattle.std.specs.Prelude.{ℕ, ◌+◌, ◌≡◌, List, [], ◌∷◌, ◌++◌, length}
use Rattle.std.proofs.lemmas.List.Edits.{sets}
use Rattle.decimal.specs.Digits.{digits_of}

-- `new` is `old` with the bytes stored from `at` on, up to `next`; every other byte is kept
pub record Put (old new : List ℕ) (at next : ℕ) (bytes : List ℕ) : Type 0 where
  pub stored : new ≡ sets old at bytes
  pub past : next ≡ at + length bytes

-- a number and the byte that closes its field
abbrev pub closed_by : ℕ → ℕ → List ℕ
closed_by end n = digits_of n ++ end ∷ []
