-- Laws of tests on lists. Assumes nothing.
use Prim.Native.Nat.{ℕ}
use mathlib.Core.Bool.{Bool, true, false, ◌&&◌}
use mathlib.Core.List.{List, [], ◌∷◌}
use mathlib.Core.Path.{◌≡◌, refl, sym, ap, ap₂, ◌∙◌}
use native.Mathlib.Omega.{arith}
use mir.Val.{bool_byte}
use lib.Dec.{eqb, leb, ltb}
use borrow.Author.Tests.{leb-true, leb-false, ne_eqb, le-ltb, lt-ltb}
use Rattle.choice.specs.Pick.{pick}
use Rattle.std.specs.List.{fold, zip}
use Rattle.std.specs.Int.Bits.{bit_or, or_zero_r}
use Rattle.std.proofs.lemmas.Nat.{le_or_r}
use Rattle.choice.proofs.Picks.{pick-self, split, clash}
use Rattle.record.specs.Accepts.{is_within}

-- no byte is above its limit, where none is marked as one that is

marked : (over x m : ℕ) → eqb (bit_or over (bool_byte (ltb m x))) 0 ≡ pick (eqb over 0) (leb x m) false
marked over x m = split (leb x m)
    (λ h. rw (h, le-ltb m x (leb-true x m h), or_zero_r over) (sym (pick-self (eqb over 0))))
    (λ h. let l = leb-false x m h in let k = le_or_r over 1 in rw (h, lt-ltb m x (omega arith)) (ne_eqb _ 0 (λ e. omega arith) ∙ neither (eqb over 0)))
  where
    neither : (t : Bool) → false ≡ pick t false false
    neither true = refl
    neither false = refl

pub within-folded : (xs ms : List ℕ) (over : ℕ) → eqb (fold (λ (n : ℕ) (p : ℕ × ℕ). bit_or n (bool_byte (ltb p.1 p.0))) over (zip xs ms)) 0 ≡ pick (eqb over 0) (is_within xs ms) false
unfolding is_within
within-folded [] ms over = sym (pick-self (eqb over 0))
within-folded (x ∷ xs) [] over = sym (pick-self (eqb over 0))
within-folded (x ∷ xs) (m ∷ ms) over =
    within-folded xs ms (bit_or over (bool_byte (ltb m x)))
    ∙ ap (λ (t : Bool). pick t (is_within xs ms) false) (marked over x m)
    ∙ both-picked (eqb over 0) (leb x m)
  where
    both-picked : (a b : Bool) → pick (pick a b false) (is_within xs ms) false ≡ pick a (pick b (is_within xs ms) false) false
    both-picked true b = refl
    both-picked false b = refl

-- both of a pair of tests hold, and a pair of tests that hold

pub and_both : (a b : Bool) → a && b ≡ true → (a ≡ true) × (b ≡ true)
and_both true b h = (refl, h)
and_both false b h = clash h refl

pub and-pair : (a b : Bool) → a ≡ true → b ≡ true → a && b ≡ true
and-pair a b h k = ap₂ (◌&&◌) h k
