-- An entry of a list, and the list, an entry after the other: read, it is the item whose bytes stand there.
use Prim.Native.Nat.{ℕ, zero, suc, min, ◌+◌, ◌-◌, ◌<◌, ◌≤◌}
use mathlib.Core.Path.{◌≡◌, refl, ap, sym, ◌∙◌}
use mathlib.Core.Bool.{true, false}
use mathlib.Core.List.{List, ◌++◌}
use native.Mathlib.Omega.{arith}
use lib.Dec.{leb, ltb}
use lib.ListN.{length, get_or, drop, length-drop, length-append, get_or-append}
use lib.Seq.{get_or-drop, drop-append_seam}
use borrow.Author.Tests.{lt-ltb, le-ltb, ltb-true, ltb-false, le-leb, lt-leb, leb-true, leb-false}
use Rattle.std.specs.Prelude.{Option, Some, None}
use Rattle.std.specs.Option.{is_some}
use Rattle.choice.proofs.Picks.{split, clash}
use Rattle.trace.specs.Listing.{short_at, long_at, entry_from, entry_at, Listing, listed, with_entry, listing_by, listing_at, listing_of}
use Rattle.trace.specs.declared.item.Item.{Item}

-- ---- the code's two ways to an entry
pub entry-short : (list : List ℕ) (at : ℕ) → length list < at + 8 → None ≡ entry_at list at
unfolding entry_at
entry-short list at h = rw (lt-leb (at + 8) (length list) h)

pub entry-there : (list : List ℕ) (at : ℕ) (r : Option Item) → at + 8 ≤ length list
    → r ≡ entry_from (get_or list at 0) (get_or list (at + 1) 0) (short_at list at) (long_at list at) → r ≡ entry_at list at
unfolding entry_at
entry-there list at r h e = e ∙ rw (le-leb (at + 8) (length list) h)

-- ---- an entry has eight bytes
pub entry-within : (list : List ℕ) (at : ℕ) (i : Item) → entry_at list at ≡ Some i → at + 8 ≤ length list
unfolding entry_at
entry-within list at i e =
    split (leb (at + 8) (length list))
    (λ h. leb-true (at + 8) (length list) h)
    (λ h. let o : None ≡ Some i = rw h at e in absurd (let z : ◌≡◌ {A = ℕ} 0 1 = cc in omega arith))

-- ---- the list, an entry after the other
nothing-past : (list : List ℕ) (at n : ℕ) → length list ≤ at → listing_by n list at ≡ listed true
unfolding listing_by
nothing-past list at zero h = refl
nothing-past list at (suc n) h = rw (le-ltb at (length list) h)

-- any number of entries that is large enough will do
enough : (m n : ℕ) (list : List ℕ) (at : ℕ) → length list ≤ at + m → length list ≤ at + n → listing_by m list at ≡ listing_by n list at
unfolding listing_by
enough zero n list at p q = sym (nothing-past list at n (omega arith))
enough (suc m) zero list at p q = nothing-past list at (suc m) (omega arith)
enough (suc m) (suc n) list at p q =
    split (ltb at (length list))
    (λ h. rw h (ap (with_entry (entry_at list at)) (enough m n list (at + 8) (omega arith) (omega arith))))
    (λ h. rw h)

pub listing-entry : (list : List ℕ) (at : ℕ) (e : Option Item) → at < length list → e ≡ entry_at list at
    → listing_at list at ≡ with_entry e (listing_at list (at + 8))
unfolding listing_at listing_by
listing-entry list at e h q =
    let n : ℕ = length list - at - 1 in
    let s : length list - at ≡ suc n = omega arith in
    ap (λ (k : ℕ). listing_by k list at) s
    ∙ rw (lt-ltb at (length list) h, ← q) (ap (with_entry e) (enough n (length list - (at + 8)) list (at + 8) (omega arith) (omega arith)))

pub listing-over : (list : List ℕ) (at : ℕ) → length list ≤ at → listing_at list at ≡ listed true
unfolding listing_at
listing-over list at h = nothing-past list at (length list - at) h

-- ---- the list, cut into entries
pub entry-past : (list : List ℕ) (m at : ℕ) → entry_at (drop m list) at ≡ entry_at list (m + at)
entry-past list m at =
    let g : (k : ℕ) → get_or (drop m list) (at + k) 0 ≡ get_or list (m + at + k) 0 = λ k. get_or-drop m list (at + k) 0 ∙ ap (λ (x : ℕ). get_or list x 0) (sum k) in
    split (leb (m + at + 8) (length list))
    (λ h. let i = leb-true (m + at + 8) (length list) h in
    sym (entry-there (drop m list) at _ (omega (arith, length-drop m list, i)) refl)
    ∙ entry-there list (m + at) _ i (rw (get_or-drop m list at 0, g 1, g 2, g 3, g 4, g 5, g 6, g 7)))
    (λ h. let i = leb-false (m + at + 8) (length list) h in
    sym (entry-short (drop m list) at (omega (arith, length-drop m list, i))) ∙ entry-short list (m + at) (omega arith))
  where
    sum : (k : ℕ) → m + (at + k) ≡ m + at + k
    sum k = omega arith

listing-past : (n : ℕ) (list : List ℕ) (m at : ℕ) → listing_by n (drop m list) at ≡ listing_by n list (m + at)
unfolding listing_by
listing-past zero list m at = refl
listing-past (suc n) list m at =
    let e : m + (at + 8) ≡ m + at + 8 = omega arith in
    let more = listing-past n list m (at + 8) ∙ ap (listing_by n list) e in
    split (ltb (m + at) (length list))
    (λ h. let i = ltb-true (m + at) (length list) h in
    rw (h, lt-ltb at (length (drop m list)) (omega (arith, length-drop m list)), entry-past list m at) (ap (with_entry (entry_at list (m + at))) more))
    (λ h. let i = ltb-false (m + at) (length list) h in
    rw (h, le-ltb at (length (drop m list)) (omega (arith, length-drop m list))))

-- an entry has the first eight bytes, or all there are
module _ (entry rest : List ℕ) (h : length entry ≡ min 8 (length (entry ++ rest))) where
  front : (k : ℕ) → k < length entry → get_or (entry ++ rest) k 0 ≡ get_or entry k 0
  front k l = get_or-append entry rest 0 k l

  entry-front : entry_at (entry ++ rest) 0 ≡ entry_at entry 0
  entry-front =
      let n = length-append entry rest in
      split (leb 8 (length entry))
      (λ t. let i = leb-true 8 (length entry) t in
      sym (entry-there (entry ++ rest) 0 _ (omega arith) refl)
      ∙ entry-there entry 0 _ i
      (rw (front 0 (omega arith), front 1 (omega arith), front 2 (omega arith), front 3 (omega arith), front 4 (omega arith), front 5 (omega arith), front 6 (omega arith), front 7 (omega arith))))
      (λ t. let i = leb-false 8 (length entry) t in
      sym (entry-short (entry ++ rest) 0 (omega arith)) ∙ entry-short entry 0 (omega arith))

  listing-rest : 8 ≤ length entry → listing_at (entry ++ rest) 8 ≡ listing_of rest
  unfolding listing_at
  listing-rest l =
      let n = length-append entry rest in
      let e : length entry ≡ 8 = omega arith in
      let m : length (entry ++ rest) - 8 ≡ length rest - 0 = omega arith in
      let d : drop 8 (entry ++ rest) ≡ rest = rw e at (drop-append_seam entry rest) in
      sym (listing-past (length (entry ++ rest) - 8) (entry ++ rest) 8 0) ∙ rw (d, m)

  pub listing-cut : 0 < length (entry ++ rest) → listing_of (entry ++ rest) ≡ with_entry (entry_at entry 0) (listing_of rest)
  listing-cut some =
      let n = length-append entry rest in
      listing-entry (entry ++ rest) 0 (entry_at entry 0) some (sym entry-front)
      ∙ split (leb 8 (length entry))
      (λ t. ap (with_entry (entry_at entry 0)) (listing-rest (leb-true 8 (length entry) t)))
      (λ t. let i = leb-false 8 (length entry) t in rw (← entry-short entry 0 (omega arith)))

-- what a list holds, by the chunk that comes off its front
pub listing-chunk : (list entry rest : List ℕ) (size : ℕ) → size ≡ 8 → list ≡ entry ++ rest → length entry ≡ min size (length list) → 0 < length list
    → (e : Option Item) → e ≡ entry_at entry 0 → listing_of list ≡ with_entry e (listing_of rest)
listing-chunk list entry rest size eight e h some o q =
    ap listing_of e
    ∙ listing-cut entry rest (h ∙ rw (eight, ← e)) (rw e at some)
    ∙ ap (λ (o : Option Item). with_entry o (listing_of rest)) (sym q)

pub listing-none : (list : List ℕ) → length list ≡ 0 → listing_of list ≡ listed true
listing-none list h = listing-over list 0 (omega arith)

pub sound-on : (e : Option Item) (r : Listing) → is_some e ≡ true → (with_entry e r).sound ≡ r.sound
sound-on None r h = clash h refl
sound-on (Some i) r h = refl

pub sound-out : (e : Option Item) (r : Listing) → is_some e ≡ false → (with_entry e r).sound ≡ false
sound-out None r h = refl
sound-out (Some i) r h = clash refl h
