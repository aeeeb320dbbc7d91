-- Bytes stored one after the other, and the digits of a number so.
use Prim.Native.Nat.{ℕ, suc, ◌+◌, ◌/◌, ◌%◌, ◌<◌, ◌≤◌}
use mathlib.Core.Path.{◌≡◌, refl, ◌∙◌}
use mathlib.Core.List.{List, [], ◌∷◌, ◌++◌}
use native.Mathlib.Omega.{arith}
use lib.ListN.{length, set}
use lib.Seq.{sets}
use borrow.Author.Tests.{le-leb, lt-leb}
use Rattle.decimal.specs.Digits.{digits_of}
use Rattle.decimal.specs.Number.{with_number, place_past}
use Rattle.decimal.proofs.DigitLaws.{digits-one, digits_last}

pub sets-append : (l : List ℕ) (i : ℕ) (a b : List ℕ) → sets l i (a ++ b) ≡ sets (sets l i a) (i + length a) b
sets-append l i [] b = let z : i + 0 ≡ i = omega arith in rw z
sets-append l i (x ∷ a) b =
    let z : suc i + length a ≡ i + suc (length a) = omega arith in
    sets-append (set l i x) (suc i) a b ∙ rw z

pub put_one : (l : List ℕ) (at n : ℕ) → n < 10 → set l at (48 + n % 10) ≡ sets l at (digits_of n)
put_one l at n h = let m : n % 10 ≡ n = omega arith in rw (digits-one n h, m)

-- the last digit after the others
pub put-more : (l m : List ℕ) (at last n : ℕ) → 10 ≤ n → last ≡ at + length (digits_of (n / 10)) → m ≡ sets l at (digits_of (n / 10))
    → set m last (48 + n % 10) ≡ sets l at (digits_of n)
put-more l m at last n h e s = rw (digits_last n h, sets-append l at (digits_of (n / 10)) ((48 + n % 10) ∷ []), ← s, ← e)

-- where they have room, and where not
module _ (buffer : List ℕ) (at n : ℕ) where
  pub put-there : at + length (digits_of n) ≤ length buffer
      → (place_past buffer at n ≡ at + length (digits_of n)) × (with_number buffer at n ≡ sets buffer at (digits_of n))
  unfolding place_past with_number
  put-there h = rw (le-leb (at + length (digits_of n)) (length buffer) h) (refl, refl)

  pub put-not : length buffer < at + length (digits_of n) → (at ≡ place_past buffer at n) × (buffer ≡ with_number buffer at n)
  unfolding place_past with_number
  put-not h = rw (lt-leb (at + length (digits_of n)) (length buffer) h) (refl, refl)
