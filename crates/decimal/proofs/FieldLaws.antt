-- One turn of the scan of a field, at each way that it can go: what `rest_of` and `field_at` are proved from.
use Prim.Native.Nat.{ℕ, ◌+◌, ◌<◌, ◌≤◌}
use mathlib.Core.Path.{◌≡◌, ◌∙◌}
use mathlib.Core.Bool.{true, false}
use mathlib.Core.List.{List, ◌∷◌}
use native.Mathlib.Omega.{arith}
use native.Mathlib.Numerals.{add-one}
use lib.Dec.{leb}
use lib.ListN.{length, get_or, drop, drop_of_length-le}
use lib.Seq.{drop-cons}
use borrow.Author.Tests.{lt-ltb, le-ltb, le-leb, leb-true, eq-eqb, ne_eqb}
use Rattle.std.specs.Prelude.{Option, None}
use Rattle.choice.proofs.Picks.{both}
use Rattle.decimal.specs.Digits.{is_digit}
use Rattle.decimal.specs.Field.{number, rest_of, field_from, field_at, with_digit}
use Rattle.decimal.specs.declared.Field.{Field}

-- the bounds of a digit
pub digit-range : (b : ℕ) → is_digit b ≡ true → (48 ≤ b) × (b < 58)
digit-range b h = let r = both (leb 48 b) (leb b 57) h in (leb-true 48 b r.0, omega (arith, leb-true b 57 r.1))

pub is_digit_lem : (b : ℕ) → 48 ≤ b → b < 58 → is_digit b ≡ true
is_digit_lem b l h = rw (le-leb 48 b l, le-leb b 57 (omega arith))

-- the byte at a place within the text
pub here : (text : List ℕ) (at : ℕ) → at < length text → drop at text ≡ get_or text at 0 ∷ drop (at + 1) text
here text at h = rw add-one (drop-cons text at 0 h)

module _ (text : List ℕ) (limit end value at : ℕ) (r : Option Field) (inside : at < length text) (so_far : rest_of limit end value at (drop at text) ≡ r) where
  pub turn-large : limit < value → None ≡ r
  unfolding rest_of
  turn-large h = let s = rw (here text at inside) at so_far in (rw (lt-ltb limit value h)) ∙ s

  pub turn_end : value ≤ limit → get_or text at 0 ≡ end → number value (at + 1) ≡ r
  unfolding rest_of
  turn_end h e = let s = rw (here text at inside) at so_far in (rw (le-ltb limit value h, eq-eqb _ _ e)) ∙ s

  pub turn-zero : value ≤ limit → (get_or text at 0 ≡ end → ⊥) → value ≡ 0 → None ≡ r
  unfolding rest_of
  turn-zero h n z = let s = rw (here text at inside) at so_far in (rw (le-ltb limit value h, ne_eqb _ _ n, eq-eqb _ _ z)) ∙ s

  pub turn-other : value ≤ limit → (get_or text at 0 ≡ end → ⊥) → (value ≡ 0 → ⊥) → is_digit (get_or text at 0) ≡ false → None ≡ r
  unfolding rest_of
  turn-other h n z d = let s = rw (here text at inside) at so_far in (rw (le-ltb limit value h, ne_eqb _ _ n, ne_eqb _ _ z, d)) ∙ s

  pub turn-digit : value ≤ limit → (get_or text at 0 ≡ end → ⊥) → (value ≡ 0 → ⊥) → is_digit (get_or text at 0) ≡ true
      → rest_of limit end (with_digit value (get_or text at 0)) (at + 1) (drop (at + 1) text) ≡ r
  unfolding rest_of
  turn-digit h n z d = let s = rw (here text at inside) at so_far in (rw (le-ltb limit value h, ne_eqb _ _ n, ne_eqb _ _ z, d)) ∙ s

pub turn-past : (text : List ℕ) (limit end value at : ℕ) (r : Option Field) → length text ≤ at → rest_of limit end value at (drop at text) ≡ r → None ≡ r
unfolding rest_of
turn-past text limit end value at r h so_far = let s = rw (drop_of_length-le text h) at so_far in s

module _ (text : List ℕ) (limit end at : ℕ) (r : Option Field) where
  pub start-digit : at < length text → is_digit (get_or text at 0) ≡ true → (first : ℕ) → first ≡ with_digit 0 (get_or text at 0)
      → r ≡ rest_of limit end first (at + 1) (drop (at + 1) text) → r ≡ field_at text at limit end
  unfolding field_from
  start-digit h d first f e = rw (here text at h, d) (rw f at e)

  pub start-other : at < length text → is_digit (get_or text at 0) ≡ false → r ≡ None → r ≡ field_at text at limit end
  unfolding field_from
  start-other h d e = rw (here text at h, d) e

  pub start-past : length text ≤ at → r ≡ None → r ≡ field_at text at limit end
  unfolding field_from
  start-past h e = rw (drop_of_length-le text h) e
