-- What `line_at` finds is the line of an item in range, and it finds each one.
use Prim.Native.Nat.{ℕ, ◌+◌, ◌<◌, ◌≤◌}
use mathlib.Core.Path.{◌≡◌, refl, ap, ap₂, sym, subst, ◌∙◌}
use mathlib.Core.List.{List, ◌∷◌, ◌++◌, append_assoc}
use native.Mathlib.Omega.{arith}
use lib.Dec.{ltb, eqb}
use lib.ListN.{length, get_or, drop, get_or-eq_default}
use borrow.Author.Tests.{ltb-true, ltb-false, eqb-true, eqb-false}
use Rattle.std.specs.Prelude.{Option, Some, None, Ok, Err}
use Rattle.std.specs.Option.{ok_or}
use Rattle.choice.proofs.Picks.{split}
use Rattle.decimal.specs.Digits.{digits_of}
use Rattle.decimal.specs.Field.{number, field_at}
use Rattle.decimal.specs.declared.Field.{Field}
use Rattle.decimal.proofs.FieldLaws.{here}
use Rattle.decimal.proofs.FieldMeaning.{field_is}
use Rattle.trace.specs.Text.{InRange, letter_of, numbers_of, fields_of}
use Rattle.trace.specs.Line.{two, pair_by, pair_from, pair_at, three, triple_by, triple_from, triple_at, item_line, write_by, read_by, vector_by, clocks_by, item_at, fields_at, found, no_line, line_at}
use Rattle.trace.specs.Meaning.{IsLine}
use Rattle.trace.specs.declared.item.Item.{Item}
use Rattle.trace.specs.declared.item.Item.TheVariants.{Write, Read, Vector, Clocks}
use Rattle.trace.specs.declared.line.Pair.{Pair}
use Rattle.trace.specs.declared.line.Triple.{Triple}
use Rattle.trace.specs.declared.line.Line.{Line}

no : {X : Type 0} → ◌≡◌ {A = ℕ} 0 1 → X
no e = absurd (omega arith)

-- what is in equal pairs, triples and lines is equal
same_two : {x y m a b n : ℕ} → two x y m ≡ two a b n → (x ≡ a) × (y ≡ b) × (m ≡ n)
same_two e = (
  ap (elim [ None ↦ 0 | Some p ↦ p.first ]) e,
  ap (elim [ None ↦ 0 | Some p ↦ p.second ]) e,
  ap (elim [ None ↦ 0 | Some p ↦ p.next ]) e,
)

same_three : {x y z m a b c n : ℕ} → three x y z m ≡ three a b c n → (x ≡ a) × (y ≡ b) × (z ≡ c) × (m ≡ n)
same_three e = (
  ap (elim [ None ↦ 0 | Some t ↦ t.first ]) e,
  ap (elim [ None ↦ 0 | Some t ↦ t.second ]) e,
  ap (elim [ None ↦ 0 | Some t ↦ t.third ]) e,
  ap (elim [ None ↦ 0 | Some t ↦ t.next ]) e,
)

same_item : {i j : Item} {m n : ℕ} → item_line i m ≡ item_line j n → (i ≡ j) × (m ≡ n)
same_item {i} e = (ap (elim [ None ↦ i | Some l ↦ l.item ]) e, ap (elim [ None ↦ 0 | Some l ↦ l.next ]) e)

pub same_found : {i j : Item} {m n : ℕ} → found i m ≡ found j n → (i ≡ j) × (m ≡ n)
same_found {i} e = (
  ap (elim [ None ↦ i | Some r ↦ elim r [ Ok l ↦ l.item | Err x ↦ i ] ]) e,
  ap (elim [ None ↦ 0 | Some r ↦ elim r [ Ok l ↦ l.next | Err x ↦ 0 ] ]) e,
)

-- the item's line that was found
line-by : (o : Option Line) (i : Item) (next : ℕ) → Some (ok_or o (record {})) ≡ found i next → o ≡ item_line i next
line-by None i next e = no cc
line-by (Some l) i next e = let s = same_found e in ap₂ item_line s.0 s.1

-- a pair that was found: its two fields
pair-by : (x' : ℕ) (f : Option Field) (x y next : ℕ) → pair_by x' f ≡ two x y next → (x' ≡ x) × (f ≡ number y next)
pair-by x' None x y next e = no cc
pair-by x' (Some f) x y next e = let s = same_two e in (s.0, ap₂ number s.1 s.2)

pair-from : (text : List ℕ) (second : ℕ) (f : Option Field) (x y next : ℕ) → pair_from text second f ≡ two x y next
    → (at : ℕ) × (f ≡ number x at) × (field_at text at second 10 ≡ number y next)
pair-from text second None x y next e = no cc
pair-from text second (Some f) x y next e =
    let b = pair-by f.value (field_at text f.next second 10) x y next e in
    (f.next, ap (λ (n : ℕ). number n f.next) b.0, b.1)

pub record IsPair (text : List ℕ) (at first second x y next : ℕ) : Type 0 where
  pub low₁ : x ≤ first
  pub low₂ : y ≤ second
  shown : drop at text ≡ digits_of x ++ 9 ∷ (digits_of y ++ 10 ∷ drop next text)
  after : at < next
  within : next ≤ length text

pub pair_is : (text : List ℕ) (at first second x y next : ℕ) → pair_at text at first second ≡ two x y next → IsPair text at first second x y next
unfolding pair_at
pair_is text at first second x y next e =
    let p = pair-from text second (field_at text at first 9) x y next e in
    let f = field_is text at first 9 x p.0 p.1 in
    let g = field_is text p.0 second 10 y next p.2 in
    record { low₁ = f.low; low₂ = g.low; shown = f.shown ∙ ap (λ (s : List ℕ). digits_of x ++ 9 ∷ s) g.shown; after = omega arith; within = g.within }

-- a triple that was found: its first field and the pair of the others
triple-by : (x' : ℕ) (p : Option Pair) (x y z next : ℕ) → triple_by x' p ≡ three x y z next
    → (x' ≡ x) × (p ≡ two y z next)
triple-by x' None x y z next e = no cc
triple-by x' (Some p) x y z next e =
    let s = same_three e in
    (s.0, ap₂ (λ (a b : ℕ). two a b p.next) s.1 s.2 ∙ ap (two y z) s.3)

triple-from : (text : List ℕ) (f : Option Field) (x y z next : ℕ) → triple_from text f ≡ three x y z next
    → (at : ℕ) × (f ≡ number x at) × (pair_at text at 255 255 ≡ two y z next)
triple-from text None x y z next e = no cc
triple-from text (Some f) x y z next e =
    let b = triple-by f.value (pair_at text f.next 255 255) x y z next e in
    (f.next, ap (λ (n : ℕ). number n f.next) b.0, b.1)

record IsTriple (text : List ℕ) (at x y z next : ℕ) : Type 0 where
  low₁ : x ≤ 255
  low₂ : y ≤ 255
  low₃ : z ≤ 255
  shown : drop at text ≡ digits_of x ++ 9 ∷ (digits_of y ++ 9 ∷ (digits_of z ++ 10 ∷ drop next text))
  after : at < next
  within : next ≤ length text

triple-is : (text : List ℕ) (at x y z next : ℕ) → triple_at text at ≡ three x y z next → IsTriple text at x y z next
unfolding triple_at
triple-is text at x y z next e =
    let p = triple-from text (field_at text at 255 9) x y z next e in
    let f = field_is text at 255 9 x p.0 p.1 in
    let g = pair_is text p.0 255 255 y z next p.2 in
    record { low₁ = f.low; low₂ = g.low₁; low₃ = g.low₂; shown = f.shown ∙ ap (λ (s : List ℕ). digits_of x ++ 9 ∷ s) g.shown; after = omega arith; within = g.within }

-- the fields of an item stand in the text from `at` up to `next`
record IsItem (text : List ℕ) (at : ℕ) (i : Item) (next : ℕ) : Type 0 where
  range : InRange i
  shown : drop at text ≡ fields_of (numbers_of i) ++ drop next text
  after : at < next
  within : next ≤ length text

found_as : (text : List ℕ) (at : ℕ) (i j : Item) (m n : ℕ) → item_line i m ≡ item_line j n → IsItem text at i m → IsItem text at j n
found_as text at i j m n e h = let p = (same_item e).0 in let q = (same_item e).1 in subst (λ (k : ℕ). IsItem text at j k) q (subst (λ (k : Item). IsItem text at k m) p h)

module _ (text : List ℕ) (at : ℕ) (i : Item) (next : ℕ) where
  write-is : (t : Option Triple) → triple_at text at ≡ t → write_by t ≡ item_line i next → IsItem text at i next
  write-is None h e = no cc
  write-is (Some t) h e =
      let r = triple-is text at t.first t.second t.third t.next h in
      found_as text at (Write t.first t.second t.third) i t.next next e (record { range = (r.low₁, r.low₂, r.low₃); shown = simp append_assoc r.shown; after = r.after; within = r.within })

  read_is : (t : Option Triple) → triple_at text at ≡ t → read_by t ≡ item_line i next → IsItem text at i next
  read_is None h e = no cc
  read_is (Some t) h e =
      let r = triple-is text at t.first t.second t.third t.next h in
      found_as text at (Read t.first t.second t.third) i t.next next e (record { range = (r.low₁, r.low₂, r.low₃); shown = simp append_assoc r.shown; after = r.after; within = r.within })

  vector-is : (t : Option Pair) → pair_at text at 255 255 ≡ t → vector_by t ≡ item_line i next → IsItem text at i next
  vector-is None h e = no cc
  vector-is (Some p) h e =
      let r = pair_is text at 255 255 p.first p.second p.next h in
      found_as text at (Vector p.first p.second) i p.next next e (record { range = (r.low₁, r.low₂); shown = simp append_assoc r.shown; after = r.after; within = r.within })

  clocks-is : (t : Option Pair) → pair_at text at 31 4294967295 ≡ t → clocks_by t ≡ item_line i next → IsItem text at i next
  clocks-is None h e = no cc
  clocks-is (Some p) h e =
      let r = pair_is text at 31 4294967295 p.first p.second p.next h in
      split (eqb p.second 0)
      (λ z. let w : None ≡ item_line i next = rw z at e in no cc)
      (λ z. let w : item_line (Clocks p.first p.second) p.next ≡ item_line i next = rw z at e in
      let nz : (p.second ≡ 0 → ⊥) = eqb-false p.second 0 z in
      found_as text at (Clocks p.first p.second) i p.next next w (record { range = (r.low₁, omega arith, r.low₂); shown = simp append_assoc r.shown; after = r.after; within = r.within }))

-- the letter and the fields of an item
item-is : (text : List ℕ) (letter at : ℕ) (i : Item) (next : ℕ) → item_at text letter at ≡ item_line i next → (letter ≡ letter_of i) × IsItem text at i next
unfolding item_at
item-is text letter at i next e =
    split (eqb letter 87)
    (λ h. let w : write_by (triple_at text at) ≡ item_line i next = rw h at e in (eqb-true letter 87 h ∙ sym (write-letter (triple_at text at) w), write-is text at i next (triple_at text at) refl w))
    (λ h. let e₁ = rw h at e in
    split (eqb letter 82)
    (λ h. let w : read_by (triple_at text at) ≡ item_line i next = rw h at e₁ in (eqb-true letter 82 h ∙ sym (read-letter (triple_at text at) w), read_is text at i next (triple_at text at) refl w))
    (λ h. let e₂ = rw h at e₁ in
    split (eqb letter 65)
    (λ h. let w : vector_by (pair_at text at 255 255) ≡ item_line i next = rw h at e₂ in (eqb-true letter 65 h ∙ sym (vector-letter (pair_at text at 255 255) w), vector-is text at i next (pair_at text at 255 255) refl w))
    (λ h. let e₃ = rw h at e₂ in
    split (eqb letter 67)
    (λ h. let w : clocks_by (pair_at text at 31 4294967295) ≡ item_line i next = rw h at e₃ in (eqb-true letter 67 h ∙ sym (clocks-letter (pair_at text at 31 4294967295) w), clocks-is text at i next (pair_at text at 31 4294967295) refl w))
    (λ h. let w : None ≡ item_line i next = rw h at e₃ in no cc))))
  where
    write-letter : (t : Option Triple) → write_by t ≡ item_line i next → letter_of i ≡ 87
    write-letter None w = no cc
    write-letter (Some t) w = ap letter_of (sym (same_item w).0)

    read-letter : (t : Option Triple) → read_by t ≡ item_line i next → letter_of i ≡ 82
    read-letter None w = no cc
    read-letter (Some t) w = ap letter_of (sym (same_item w).0)

    vector-letter : (t : Option Pair) → vector_by t ≡ item_line i next → letter_of i ≡ 65
    vector-letter None w = no cc
    vector-letter (Some p) w = ap letter_of (sym (same_item w).0)

    clocks-letter : (t : Option Pair) → clocks_by t ≡ item_line i next → letter_of i ≡ 67
    clocks-letter None w = no cc
    clocks-letter (Some p) w = split (eqb p.second 0) (λ z. let x : None ≡ item_line i next = rw z at w in no cc) (λ z. let x : item_line (Clocks p.first p.second) p.next ≡ item_line i next = rw z at w in ap letter_of (sym (same_item x).0))

pub line-is : (text : List ℕ) (at : ℕ) (i : Item) (next : ℕ) → line_at text at ≡ found i next → IsLine text at i next
unfolding line_at fields_at
line-is text at i next e =
    split (ltb at (length text))
    (λ h. let e₁ : fields_at text at ≡ item_line i next = line-by (fields_at text at) i next (rw h at e) in
    split (eqb (get_or text (at + 1) 0) 9)
    (λ t. let w : item_at text (get_or text at 0) (at + 2) ≡ item_line i next = rw t at e₁ in
    let p = item-is text (get_or text at 0) (at + 2) i next w in
    let tab = eqb-true (get_or text (at + 1) 0) 9 t in
    let inside : at < length text = ltb-true at (length text) h in
    let inside₁ : at + 1 < length text = split (ltb (at + 1) (length text)) (λ y. ltb-true (at + 1) (length text) y) (λ y. no (let z : get_or text (at + 1) 0 ≡ 0 = get_or-eq_default text 0 (ltb-false (at + 1) (length text) y) in let x : ◌≡◌ {A = ℕ} 0 9 = sym z ∙ tab in absurd (omega arith))) in
    let two : at + 1 + 1 ≡ at + 2 = omega arith in
    let begins : drop at text ≡ letter_of i ∷ 9 ∷ drop (at + 2) text = here text at inside ∙ (rw (p.0, here text (at + 1) inside₁, tab, two) refl) in
    record { range = p.1.range; shown = begins ∙ ap (λ (s : List ℕ). letter_of i ∷ 9 ∷ s) p.1.shown; after = omega (arith, p.1.after); within = p.1.within })
    (λ t. let w : None ≡ item_line i next = rw t at e₁ in no cc))
    (λ h. let w : no_line ≡ found i next = rw h at e in no cc)
