-- The shrink keeps clocks and calls, depends on nothing else, and stays in range.
use Prim.Native.Nat.{ℕ, zero, suc, ◌+◌, ◌*◌, ◌/◌, ◌%◌, ◌≤◌}
use mathlib.Core.Path.{◌≡◌, refl, ap, sym, ◌∙◌}
use mathlib.Core.List.{List, [], ◌∷◌, ◌++◌, append_assoc, append-nil}
use native.Mathlib.Omega.{arith}
use native.Mathlib.Nat.{div-add-mod', suc-mul, mod-lt}
use lib.Dec.{eqb, lit≤}
use lib.ListN.{replicate, replicate-append-replicate}
use borrow.Author.Tests.{eq-eqb, eqb-true}
use Rattle.choice.proofs.Picks.{split, pick_ind}
use Rattle.trace.specs.Text.{InRange, AllInRange}
use Rattle.trace.specs.declared.item.Item.{Item}
use Rattle.trace.specs.declared.item.Item.TheVariants.{Write, Read, Vector, Clocks}
use Rattle.trace.specs.Promises.{units_of, expanded_of, Same}
use Rattle.trace.specs.Shrinking.{most, clocks_before, before, merged_of, rest_of, parts_of, cut_item, cut_of, shrunk_of}

expanded-append : (is js : List Item) → expanded_of (is ++ js) ≡ expanded_of is ++ expanded_of js
unfolding expanded_of
expanded-append [] js = refl
expanded-append (i ∷ is) js = ap (λ (x : List Item). units_of i ++ x) (expanded-append is js) ∙ sym (append_assoc (units_of i) (expanded_of is) (expanded_of js))

-- merging keeps the clocks
more-units : (l c d : ℕ) (r : List Item) → replicate (c + d) (Clocks l 1) ++ r ≡ replicate c (Clocks l 1) ++ (replicate d (Clocks l 1) ++ r)
more-units l c d r = ap (λ (x : List Item). x ++ r) (sym (replicate-append-replicate c d (Clocks l 1))) ∙ append_assoc (replicate c (Clocks l 1)) (replicate d (Clocks l 1)) r

expanded-before : (i : Item) (is : List Item) → expanded_of (before i is) ≡ units_of i ++ expanded_of is
unfolding expanded_of units_of
expanded-before (Write a v n) is = refl
expanded-before (Read a v n) is = refl
expanded-before (Vector k n) is = refl
expanded-before (Clocks l c) [] = refl
expanded-before (Clocks l c) (Write a v n ∷ is) = refl
expanded-before (Clocks l c) (Read a v n ∷ is) = refl
expanded-before (Clocks l c) (Vector k n ∷ is) = refl
expanded-before (Clocks l c) (Clocks m d ∷ is) =
    split (eqb l m)
    (λ e. let q : l ≡ m = eqb-true l m e in rw (e, ← q) (more-units l c d (expanded_of is)))
    (λ e. rw e)

expanded-merged : (is : List Item) → expanded_of (merged_of is) ≡ expanded_of is
unfolding expanded_of merged_of
expanded-merged [] = refl
expanded-merged (i ∷ is) = expanded-before i (merged_of is) ∙ ap (λ (x : List Item). units_of i ++ x) (expanded-merged is)

module _ (full : ℕ) where
  expanded-full : (l q : ℕ) → expanded_of (replicate q (Clocks l full)) ≡ replicate (q * full) (Clocks l 1)
  unfolding expanded_of units_of
  expanded-full l zero = let z : 0 * full ≡ 0 = omega arith in rw z
  expanded-full l (suc q) = let z : suc q * full ≡ full + q * full = suc-mul q full ∙ omega arith in
      ap (λ (x : List Item). replicate full (Clocks l 1) ++ x) (expanded-full l q) ∙ replicate-append-replicate full (q * full) (Clocks l 1) ∙ rw z

  expanded-last : (l r : ℕ) → expanded_of (rest_of l r) ≡ replicate r (Clocks l 1)
  unfolding expanded_of units_of
  expanded-last l zero = refl
  expanded-last l (suc r) = append-nil (replicate (suc r) (Clocks l 1))

  expanded-parts : (l n : ℕ) → expanded_of (parts_of full l n) ≡ replicate n (Clocks l 1)
  unfolding parts_of
  expanded-parts l n =
      expanded-append (replicate (n / full) (Clocks l full)) (rest_of l (n % full))
      ∙ rw (expanded-full l (n / full), expanded-last l (n % full)) (replicate-append-replicate (n / full * full) (n % full) (Clocks l 1) ∙ ap (λ (k : ℕ). replicate k (Clocks l 1)) (div-add-mod' n full))

  expanded-item : (i : Item) → expanded_of (cut_item full i) ≡ units_of i
  unfolding expanded_of units_of
  expanded-item (Write a v n) = refl
  expanded-item (Read a v n) = refl
  expanded-item (Vector k n) = refl
  expanded-item (Clocks l c) = expanded-parts l c

  expanded-cut : (is : List Item) → expanded_of (cut_of full is) ≡ expanded_of is
  unfolding expanded_of cut_of
  expanded-cut [] = refl
  expanded-cut (i ∷ is) = expanded-append (cut_item full i) (cut_of full is) ∙ rw (expanded-item i, expanded-cut is)

pub shrunk-same : (is : List Item) → Same (shrunk_of is) is
unfolding shrunk_of
shrunk-same is = expanded-cut most (merged_of is) ∙ expanded-merged is

-- one clock more
one_more : (l c : ℕ) (is : List Item) → clocks_before l 1 (clocks_before l c is) ≡ clocks_before l (1 + c) is
one_more l c [] = rw (eq-eqb l l refl)
one_more l c (Write a v n ∷ is) = rw (eq-eqb l l refl)
one_more l c (Read a v n ∷ is) = rw (eq-eqb l l refl)
one_more l c (Vector k n ∷ is) = rw (eq-eqb l l refl)
one_more l c (Clocks m d ∷ is) =
    let s : 1 + (c + d) ≡ 1 + c + d = omega arith in
    split (eqb l m)
    (λ e. rw e (rw (eq-eqb l l refl, s)))
    (λ e. rw e (rw (eq-eqb l l refl)))

merged-units : (l c : ℕ) (is : List Item) → merged_of (replicate (suc c) (Clocks l 1) ++ is) ≡ clocks_before l (suc c) (merged_of is)
unfolding merged_of
merged-units l zero is = refl
merged-units l (suc c) is =
    let s : 1 + suc c ≡ suc (suc c) = omega arith in
    ap (λ (x : List Item). clocks_before l 1 x) (merged-units l c is) ∙ one_more l (suc c) (merged_of is) ∙ rw s

-- at least one clock
abbrev Counted : Item → Type 0
Counted (Write a v n) = Unit {0}
Counted (Read a v n) = Unit {0}
Counted (Vector k n) = Unit {0}
Counted (Clocks l c) = 1 ≤ c

merged-item : (i : Item) (is : List Item) → Counted i → merged_of (units_of i ++ is) ≡ before i (merged_of is)
unfolding merged_of units_of
merged-item (Write a v n) is h = refl
merged-item (Read a v n) is h = refl
merged-item (Vector k n) is h = refl
merged-item (Clocks l zero) is h = absurd (omega arith)
merged-item (Clocks l (suc c)) is h = merged-units l c is

in-range-counted : (i : Item) → InRange i → Counted i
in-range-counted (Write a v n) h = tt
in-range-counted (Read a v n) h = tt
in-range-counted (Vector k n) h = tt
in-range-counted (Clocks l c) h = h.1

-- what is merged is settled by the clocks and calls alone
merged-expanded : (is : List Item) → AllInRange is → merged_of (expanded_of is) ≡ merged_of is
unfolding merged_of expanded_of
merged-expanded [] h = refl
merged-expanded (i ∷ is) h = merged-item i (expanded_of is) (in-range-counted i h.0) ∙ ap (λ (x : List Item). before i x) (merged-expanded is h.1)

pub shrunk-alike : (is js : List Item) → AllInRange is → AllInRange js → Same is js → shrunk_of is ≡ shrunk_of js
unfolding shrunk_of
shrunk-alike is js p q e = ap (λ (x : List Item). cut_of most x) (sym (merged-expanded is p) ∙ ap merged_of e ∙ merged-expanded js q)

-- the shrunk list is in range
abbrev Merged : Item → Type 0
Merged (Write a v n) = InRange (Write a v n)
Merged (Read a v n) = InRange (Read a v n)
Merged (Vector k n) = InRange (Vector k n)
Merged (Clocks l c) = (l ≤ 31) × (1 ≤ c)

abbrev AllMerged : List Item → Type 0
AllMerged [] = Unit {0}
AllMerged (i ∷ is) = Merged i × AllMerged is

before-range : (i : Item) (is : List Item) → InRange i → AllMerged is → AllMerged (before i is)
before-range (Write a v n) is h g = (h, g)
before-range (Read a v n) is h g = (h, g)
before-range (Vector k n) is h g = (h, g)
before-range (Clocks l c) [] h g = ((h.0, h.1), tt)
before-range (Clocks l c) (Write a v n ∷ is) h g = ((h.0, h.1), g)
before-range (Clocks l c) (Read a v n ∷ is) h g = ((h.0, h.1), g)
before-range (Clocks l c) (Vector k n ∷ is) h g = ((h.0, h.1), g)
before-range (Clocks l c) (Clocks m d ∷ is) h g =
    pick_ind AllMerged (eqb l m) (Clocks l (c + d) ∷ is) (Clocks l c ∷ Clocks m d ∷ is)
    (λ e. ((h.0, omega (arith, h.1)), g.1))
    (λ e. ((h.0, h.1), g))

merged-range : (is : List Item) → AllInRange is → AllMerged (merged_of is)
unfolding merged_of
merged-range [] h = tt
merged-range (i ∷ is) h = before-range i (merged_of is) h.0 (merged-range is h.1)

range-append : (is js : List Item) → AllInRange is → AllInRange js → AllInRange (is ++ js)
range-append [] js p q = q
range-append (i ∷ is) js p q = (p.0, range-append is js p.1 q)

full-range : (l m q : ℕ) → l ≤ 31 → 1 ≤ m → m ≤ 4294967295 → AllInRange (replicate q (Clocks l m))
full-range l m zero h a b = tt
full-range l m (suc q) h a b = ((h, a, b), full-range l m q h a b)

last-range : (l r : ℕ) → l ≤ 31 → r ≤ 4294967295 → AllInRange (rest_of l r)
last-range l zero h a = tt
last-range l (suc r) h a = ((h, omega arith, a), tt)

module _ (full : ℕ) (some : 1 ≤ full) (top : full ≤ 4294967295) where
  item-range : (i : Item) → Merged i → AllInRange (cut_item full i)
  unfolding parts_of
  item-range (Write a v n) h = (h, tt)
  item-range (Read a v n) h = (h, tt)
  item-range (Vector k n) h = (h, tt)
  item-range (Clocks l c) h = range-append (replicate (c / full) (Clocks l full)) (rest_of l (c % full)) (full-range l full (c / full) h.0 some top) (last-range l (c % full) h.0 (omega (arith, mod-lt c some)))

  cut_range : (is : List Item) → AllMerged is → AllInRange (cut_of full is)
  unfolding cut_of
  cut_range [] h = tt
  cut_range (i ∷ is) h = range-append (cut_item full i) (cut_of full is) (item-range i h.0) (cut_range is h.1)

pub shrunk-range : (is : List Item) → AllInRange is → AllInRange (shrunk_of is)
unfolding shrunk_of
shrunk-range is h = cut_range most (lit≤ tt) (lit≤ tt) (merged_of is) (merged-range is h)

pub shrunk-again : (is : List Item) → AllInRange is → shrunk_of (shrunk_of is) ≡ shrunk_of is
shrunk-again is h = shrunk-alike (shrunk_of is) is (shrunk-range is h) h (shrunk-same is)
