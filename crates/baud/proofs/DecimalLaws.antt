-- A text read byte by byte, and what it is worth as a whole.
use Prim.Native.Nat.{ℕ, ◌+◌, ◌<◌, ◌≤◌}
use mathlib.Core.Path.{◌≡◌, refl, ◌∙◌}
use mathlib.Core.Bool.{Bool, true, false}
use mathlib.Core.List.{List, [], ◌∷◌}
use native.Mathlib.Omega.{arith}
use native.Mathlib.Numerals.{add-one}
use lib.Dec.{leb}
use lib.ListN.{length, get_or, drop, drop_of_length-le}
use lib.Seq.{drop-cons}
use borrow.Author.Tests.{leb-true, leb-false, le-leb, lt-leb}
use Rattle.choice.specs.Pick.{pick}
use Rattle.choice.proofs.Picks.{split, pick_true, pick-false}
use Rattle.std.proofs.Common.{Option, Some, None, ◌==◌}
use Rattle.decimal.specs.Digits.{is_digit}
use Rattle.decimal.specs.Field.{with_digit}
use Rattle.baud.specs.Decimal.{are_digits, worth_after, fitting, number_after, number_in}
use Rattle.baud.specs.Decimal.{byte_read, read_from}

-- more digits are worth no less
worth-least : (value : ℕ) (text : List ℕ) → value ≤ worth_after value text
unfolding worth_after
worth-least value [] = omega arith
worth-least value (b ∷ text) = omega (arith, worth-least (with_digit value b) text)

-- nothing stays nothing
pub nothing_read : (text : List ℕ) → read_from None text ≡ None
unfolding read_from
nothing_read [] = refl
nothing_read (b ∷ text) = nothing_read text

-- what 32 bits hold, and what not
value-fits : (w : ℕ) → w ≤ 4294967295 → Some w ≡ fitting w
value-fits w h = pick_true (leb w 4294967295) _ _ _ (le-leb _ _ h) refl

value-large : (w : ℕ) → 4294967295 < w → None ≡ fitting w
value-large w h = pick-false (leb w 4294967295) _ _ _ (lt-leb _ _ h) refl

-- too much stays too much
too_much : (value : ℕ) (text : List ℕ) → 4294967295 < value → None ≡ number_after value text
too_much value text h =
    let large : 4294967295 < worth_after value text = omega (arith, worth-least value text) in
    split (are_digits text)
    (λ e. pick_true (are_digits text) _ _ _ e (value-large _ large))
    (λ e. pick-false (are_digits text) _ _ _ e refl)

-- byte by byte is as a whole
pub read-after : (value : ℕ) (text : List ℕ) → value ≤ 4294967295
    → read_from (Some value) text ≡ number_after value text
unfolding read_from are_digits worth_after
read-after value [] h = value-fits value h
read-after value (b ∷ text) h =
    by (with_digit value b) (is_digit b) (leb (with_digit value b) 4294967295)
    (λ f. read-after (with_digit value b) text (leb-true _ _ f))
    (λ f. too_much (with_digit value b) text (leb-false _ _ f))
  where
    by : (w : ℕ) (t u : Bool) → (u ≡ true → read_from (Some w) text ≡ number_after w text)
        → (u ≡ false → None ≡ number_after w text)
        → read_from (pick t (pick u (Some w) None) None) text
        ≡ pick (pick t (are_digits text) false) (fitting (worth_after w text)) None
    by w true true f g = f refl
    by w true false f g = nothing_read text ∙ g refl
    by w false u f g = nothing_read text

-- the loop: one byte more, and the end
pub read_more : (text : List ℕ) (i : ℕ) (n m : Option ℕ) → i < length text → m ≡ byte_read n (get_or text i 0)
    → read_from m (drop (i + 1) text) ≡ read_from n (drop i text)
unfolding read_from
read_more text i n m h e = rw (add-one, e, drop-cons text i 0 h)

pub read_all : (text : List ℕ) (i : ℕ) (n : Option ℕ) → length text ≤ i → n ≡ read_from n (drop i text)
unfolding read_from
read_all text i n h = rw (drop_of_length-le text h)

-- a text with a byte
pub some_read : (text : List ℕ) → (length text == 0) ≡ false → read_from (Some 0) text ≡ number_in text
some_read [] h = cc
some_read (b ∷ text) h = read-after 0 (b ∷ text) (omega arith)
