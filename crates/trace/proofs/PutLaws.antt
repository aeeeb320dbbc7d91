-- Bytes put into a lent buffer, and the length of a line.
use Prim.Native.Nat.{ℕ, ◌+◌, ◌≤◌}
use mathlib.Core.Path.{◌≡◌, refl, ap, sym, ◌∙◌}
use mathlib.Core.List.{List, [], ◌∷◌, ◌++◌, append_assoc}
use native.Mathlib.Omega.{arith}
use borrow.Author.Tests.{leb-true, leb-false}
use borrow.Rule.Slice.PartMut.{put_mid}
use lib.Dec.{leb}
use lib.ListN.{length, set, drop, take, length-append}
use lib.Seq.{sets, sets-eq, length-sets}
use Rattle.std.proofs.lemmas.List.Edits.{paste_all}
use Rattle.std.proofs.lemmas.Slice.{put_mid-paste}
use Rattle.std.proofs.Common.{◌⊎◌, inl, inr}
use Rattle.choice.proofs.Picks.{split}
use Rattle.decimal.specs.Digits.{digits_of}
use Rattle.decimal.specs.Number.{place_past, with_number}
use Rattle.decimal.proofs.CountLaws.{count-some}
use Rattle.decimal.proofs.PutLaws.{sets-append, put-there, put-not}
use Rattle.trace.specs.Text.{numbers_of, line_of, lines_of, fields_of}
use Rattle.trace.specs.Putting.{Put, closed_by}
use Rattle.trace.specs.declared.item.Item.{Item}
use Rattle.trace.specs.declared.item.Item.TheVariants.{Write, Read}

-- bytes copied into a part of the buffer
pub put-part : (a : List ℕ) (at k : ℕ) (now bytes : List ℕ) → now ≡ bytes → k ≡ length bytes → at + length bytes ≤ length a
    → put_mid at k a now ≡ sets a at bytes
put-part a at k now bytes e q h =
    put_mid-paste at k a now bytes k e refl q
    ∙ paste_all a at bytes k q
    ∙ ap (λ (n : ℕ). take at a ++ (bytes ++ drop (at + n) a)) q
    ∙ sym (sets-eq bytes a at h ∙ append_assoc (take at a) bytes (drop (at + length bytes) a))

-- a number's digits, up to `last`, and the byte past them
module _ (a b : List ℕ) (at last n end : ℕ) (e : last ≡ place_past a at n) (s : b ≡ with_number a at n) where
  pub same-place : last ≡ at → at + length (closed_by end n) ≤ length a → ⊥
  same-place z h =
      let c = length-append (digits_of n) (end ∷ []) in
      let p = put-there a at n (omega (arith, h, c)) in
      omega (arith, z, e, p.0, count-some n)

  pub at_end : length b ≤ last → at + length (closed_by end n) ≤ length a → ⊥
  at_end z h =
      let c = length-append (digits_of n) (end ∷ []) in
      let p = put-there a at n (omega (arith, h, c)) in
      omega (arith, z, h, c, e, p.0, ap length (s ∙ p.1), length-sets a at (digits_of n))

  pub number-put : (last ≡ at → ⊥) → Put a (set b last end) at (last + 1) (closed_by end n)
  number-put z =
      split (leb (at + length (digits_of n)) (length a))
      (λ f. let p = put-there a at n (leb-true (at + length (digits_of n)) (length a) f) in record {
        stored = rw (s, e, p.1, p.0) (sym (sets-append a at (digits_of n) (end ∷ [])));
        past = omega (arith, e, p.0, length-append (digits_of n) (end ∷ []));
      })
      (λ f. let p = put-not a at n (leb-false (at + length (digits_of n)) (length a) f) in absurd (z (e ∙ sym p.0)))

-- a number's field, and those behind it
pub fields-more : (x y : ℕ) (r : List ℕ) → fields_of (x ∷ y ∷ r) ≡ closed_by 9 x ++ fields_of (y ∷ r)
fields-more x y r = sym (append_assoc (digits_of x) (9 ∷ []) (fields_of (y ∷ r)))

-- a write's and a read's
pub three-fields : (i : Item) (a v n : ℕ) → (i ≡ Write a v n) ⊎ (i ≡ Read a v n) → fields_of (a ∷ v ∷ n ∷ []) ≡ fields_of (numbers_of i)
three-fields i a v n (inl e) = rw e refl
three-fields i a v n (inr e) = rw e refl

-- how long a line is
pub pair-length : (letter x y : ℕ) → length (letter ∷ 9 ∷ fields_of (x ∷ y ∷ [])) ≡ 4 + length (digits_of x) + length (digits_of y)
pair-length letter x y =
    let a = length-append (digits_of x) (9 ∷ fields_of (y ∷ [])) in
    let b = length-append (digits_of y) (10 ∷ []) in
    omega arith

pub lines-append : (is js : List Item) → lines_of (is ++ js) ≡ lines_of is ++ lines_of js
lines-append [] js = refl
lines-append (i ∷ is) js =
    ap (λ (x : List ℕ). line_of i ++ x) (lines-append is js) ∙ sym (append_assoc (line_of i) (lines_of is) (lines_of js))
