-- `line_at` finds the line of each item in range, so a line that it calls malformed is no item's.
use Prim.Native.Nat.{ℕ, ◌+◌, ◌<◌, ◌≤◌}
use mathlib.Core.Path.{◌≡◌, refl, ap, sym, ◌∙◌}
use mathlib.Core.List.{List, ◌∷◌, ◌++◌, append_assoc}
use native.Mathlib.Omega.{arith}
use lib.Dec.{ltb, lit<}
use lib.ListN.{length, get_or, drop, length-drop}
use lib.Seq.{drop-drop, get_or-drop}
use borrow.Author.Tests.{lt-ltb, ltb-true, ltb-false, ne_eqb}
use Rattle.std.specs.Prelude.{Option, Some, None}
use Rattle.std.specs.Option.{ok_or}
use Rattle.choice.proofs.Picks.{split}
use Rattle.decimal.specs.Digits.{digits_of}
use Rattle.decimal.proofs.FieldMeaning.{field_found}
use Rattle.trace.specs.Text.{InRange, letter_of, numbers_of, fields_of, line_of}
use Rattle.trace.specs.Line.{two, pair_at, three, triple_at, item_line, item_at, fields_at, found, malformed, no_line, line_at}
use Rattle.trace.specs.Meaning.{NoLine}
use Rattle.trace.specs.declared.item.Item.{Item}
use Rattle.trace.specs.declared.item.Item.TheVariants.{Write, Read, Vector, Clocks}
use Rattle.trace.specs.declared.line.Line.{Line}

module _ (text : List ℕ) (at : ℕ) (s : List ℕ) where
  pair_found : (first second x y : ℕ) → x ≤ first → y ≤ second → drop at text ≡ digits_of x ++ 9 ∷ (digits_of y ++ 10 ∷ s)
      → (next : ℕ) × (pair_at text at first second ≡ two x y next) × (drop next text ≡ s)
  unfolding pair_at
  pair_found first second x y lx ly e =
      let f = field_found text at first 9 x (digits_of y ++ 10 ∷ s) (lit< tt) lx e in
      let g = field_found text f.next second 10 y s (lit< tt) ly f.left in
      (g.next, rw f.found (rw g.found refl), g.left)

triple-found : (text : List ℕ) (at : ℕ) (s : List ℕ) (x y z : ℕ) → x ≤ 255 → y ≤ 255 → z ≤ 255 → drop at text ≡ digits_of x ++ 9 ∷ (digits_of y ++ 9 ∷ (digits_of z ++ 10 ∷ s))
    → (next : ℕ) × (triple_at text at ≡ three x y z next) × (drop next text ≡ s)
unfolding triple_at
triple-found text at s x y z lx ly lz e =
    let f = field_found text at 255 9 x (digits_of y ++ 9 ∷ (digits_of z ++ 10 ∷ s)) (lit< tt) lx e in
    let g = pair_found text f.next s 255 255 y z ly lz f.left in
    (g.0, rw f.found (rw g.1 refl), g.2)

abbrev Finds : List ℕ → ℕ → List ℕ → Item → Option Line → Type 0
Finds text at s i line = (next : ℕ) × (line ≡ item_line i next) × (drop next text ≡ s)

item-found : (text : List ℕ) (at : ℕ) (s : List ℕ) (i : Item) → InRange i → drop at text ≡ fields_of (numbers_of i) ++ s → Finds text at s i (item_at text (letter_of i) at)
unfolding item_at
item-found text at s (Write a v n) l e = let f = triple-found text at s a v n l.0 l.1 l.2 (e ∙ simp append_assoc) in (f.0, rw f.1 refl, f.2)
item-found text at s (Read a v n) l e = let f = triple-found text at s a v n l.0 l.1 l.2 (e ∙ simp append_assoc) in (f.0, rw f.1 refl, f.2)
item-found text at s (Vector k n) l e = let f = pair_found text at s 255 255 k n l.0 l.1 (e ∙ simp append_assoc) in (f.0, rw f.1 refl, f.2)
item-found text at s (Clocks levels c) l e =
    let f = pair_found text at s 31 4294967295 levels c l.0 l.2 (e ∙ simp append_assoc) in
    let nz : (c ≡ 0 → ⊥) = λ z. omega (arith, l.1) in
    (f.0, rw f.1 (rw (ne_eqb c 0 nz) refl), f.2)

-- the two bytes at a place, and what is left behind them
two_bytes : (text : List ℕ) (at a b : ℕ) (s : List ℕ) → drop at text ≡ a ∷ b ∷ s
    → (at < length text) × (get_or text at 0 ≡ a) × (get_or text (at + 1) 0 ≡ b) × (drop (at + 2) text ≡ s)
two_bytes text at a b s e =
    let z : at + 0 ≡ at = omega arith in
    let g : get_or text (at + 0) 0 ≡ a = sym (get_or-drop at text 0 0) ∙ rw e refl in
    (omega (arith, length-drop at text, ap length e), rw z at g, sym (get_or-drop at text 1 0) ∙ rw e refl, sym (drop-drop 2 at text) ∙ rw e refl)

pub line-found : (text : List ℕ) (at : ℕ) (s : List ℕ) (i : Item) → InRange i → drop at text ≡ line_of i ++ s
    → (next : ℕ) × (line_at text at ≡ found i next) × (drop next text ≡ s)
unfolding line_at fields_at
line-found text at s i l e =
    let b = two_bytes text at (letter_of i) 9 (fields_of (numbers_of i) ++ s) e in
    let f = item-found text (at + 2) s i l b.3 in
    (f.0, rw (lt-ltb at (length text) b.0, b.2, b.1) (ap (λ (o : Option Line). Some (ok_or o (record {}))) f.1), f.2)

-- a malformed line is no item's
pub line-not : (text : List ℕ) (at : ℕ) → line_at text at ≡ malformed → NoLine (drop at text)
line-not text at m i s l e =
    let f = line-found text at s i l e in
    let q : found i f.0 ≡ malformed = sym f.1 ∙ m in absurd (let z : ◌≡◌ {A = ℕ} 0 1 = cc in omega arith)

-- and it is a line
pub line-left : (text : List ℕ) (at : ℕ) → line_at text at ≡ malformed → at < length text
unfolding line_at
line-left text at m =
    split (ltb at (length text)) (λ h. ltb-true at (length text) h)
    (λ h. let w : no_line ≡ malformed = rw h at m in absurd (let z : ◌≡◌ {A = ℕ} 0 1 = cc in omega arith))

-- within the text there is a line
some-line : (o : Option Line) → Some (ok_or o (record {})) ≡ no_line → ⊥
some-line None e = absurd (let z : ◌≡◌ {A = ℕ} 0 1 = cc in omega arith)
some-line (Some l) e = absurd (let z : ◌≡◌ {A = ℕ} 0 1 = cc in omega arith)

pub line-end : (text : List ℕ) (at : ℕ) → line_at text at ≡ no_line → length text ≤ at
unfolding line_at
line-end text at m =
    split (ltb at (length text)) (λ h. absurd (some-line (fields_at text at) (rw h at m))) (λ h. ltb-false at (length text) h)
