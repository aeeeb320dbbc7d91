-- The text of items has one LF for each line, so lines are counted by LF.
use Prim.Native.Nat.{ℕ, ◌+◌, ◌<◌}
use mathlib.Core.Path.{◌≡◌, refl, ap, ap₂, ◌∙◌}
use mathlib.Core.List.{List, [], ◌∷◌, ◌++◌}
use native.Mathlib.Omega.{arith}
use lib.Dec.{eqb}
use lib.ListN.{length}
use borrow.Author.Tests.{ne_eqb}
use Rattle.choice.proofs.Picks.{split}
use Rattle.decimal.specs.Digits.{digits_of}
use Rattle.decimal.proofs.DigitLaws.{digits-one, digits_more, digits-ind}
use Rattle.trace.specs.Text.{fields_of, line_of, lines_of, text_of, first_line}
use Rattle.trace.specs.Meaning.{feeds_in}
use Rattle.trace.specs.declared.item.Item.{Item}
use Rattle.trace.specs.declared.item.Item.TheVariants.{Write, Read, Vector, Clocks}

feeds-append : (a b : List ℕ) → feeds_in (a ++ b) ≡ feeds_in a + feeds_in b
unfolding feeds_in
feeds-append [] b = omega arith
feeds-append (x ∷ a) b =
    let e = feeds-append a b in
    split (eqb x 10) (λ h. rw h (omega (arith, e))) (λ h. rw h (omega (arith, e)))

-- a byte that is no LF
feeds-other : (x : ℕ) (s : List ℕ) → (x ≡ 10 → ⊥) → feeds_in (x ∷ s) ≡ feeds_in s
unfolding feeds_in
feeds-other x s h = rw (ne_eqb x 10 h)

feeds-end : feeds_in (10 ∷ []) ≡ 1
unfolding feeds_in
feeds-end = refl

feeds-none : feeds_in [] ≡ 0
unfolding feeds_in
feeds-none = refl

digit-feeds : (d : ℕ) → d < 10 → feeds_in ((48 + d) ∷ []) ≡ 0
digit-feeds d h = feeds-other (48 + d) [] (λ e. omega arith) ∙ feeds-none

feeds-digits : (n : ℕ) → feeds_in (digits_of n) ≡ 0
feeds-digits = digits-ind (λ n. feeds_in (digits_of n) ≡ 0)
    (λ d h. ap feeds_in (digits-one d h) ∙ digit-feeds d h)
    (λ v d p h so_far.
    ap feeds_in (digits_more v d p h) ∙ feeds-append (digits_of v) ((48 + d) ∷ []) ∙ ap₂ (◌+◌) so_far (digit-feeds d h))

-- a line has one, at its end
feeds-fields : (ns : List ℕ) → feeds_in (fields_of ns) ≡ 1
feeds-fields [] = feeds-end
feeds-fields (x ∷ []) = feeds-append (digits_of x) (10 ∷ []) ∙ ap₂ (◌+◌) (feeds-digits x) feeds-end
feeds-fields (x ∷ y ∷ r) =
    feeds-append (digits_of x) (9 ∷ fields_of (y ∷ r))
    ∙ ap₂ (◌+◌) (feeds-digits x) (feeds-other 9 (fields_of (y ∷ r)) (λ e. omega arith) ∙ feeds-fields (y ∷ r))

feeds-line : (i : Item) → feeds_in (line_of i) ≡ 1
feeds-line (Write a v n) = feeds-other 87 _ (λ e. omega arith) ∙ feeds-other 9 _ (λ e. omega arith) ∙ feeds-fields (a ∷ v ∷ n ∷ [])
feeds-line (Read a v n) = feeds-other 82 _ (λ e. omega arith) ∙ feeds-other 9 _ (λ e. omega arith) ∙ feeds-fields (a ∷ v ∷ n ∷ [])
feeds-line (Vector k n) = feeds-other 65 _ (λ e. omega arith) ∙ feeds-other 9 _ (λ e. omega arith) ∙ feeds-fields (k ∷ n ∷ [])
feeds-line (Clocks l c) = feeds-other 67 _ (λ e. omega arith) ∙ feeds-other 9 _ (λ e. omega arith) ∙ feeds-fields (l ∷ c ∷ [])

feeds-lines : (is : List Item) → feeds_in (lines_of is) ≡ length is
feeds-lines [] = feeds-none
feeds-lines (i ∷ is) = omega (arith, feeds-append (line_of i) (lines_of is), feeds-line i, feeds-lines is)

feeds-first : feeds_in first_line ≡ 1
unfolding feeds_in
feeds-first = refl

pub feeds-text : (is : List Item) → feeds_in (text_of is) ≡ 1 + length is
feeds-text is = omega (arith, feeds-append first_line (lines_of is), feeds-first, feeds-lines is)
