-- The pass with a run of clocks held back gives the shrunk list, and one item of it keeps what the pass gives.
use Prim.Native.Nat.{ℕ, suc, ◌+◌, ◌-◌, ◌/◌, ◌%◌, ◌<◌, ◌≤◌}
use mathlib.Core.Path.{◌≡◌, refl, ap, sym, ◌∙◌}
use mathlib.Core.Bool.{false}
use mathlib.Core.List.{List, [], ◌∷◌, ◌++◌, append_assoc, append-nil}
use native.Mathlib.Omega.{arith}
use native.Mathlib.Nat.{zero-div, zero-mod, add-div_left, add-mod_left}
use lib.Dec.{eqb, ltb, lit<}
use borrow.Author.Tests.{eq-eqb, eqb-true, ltb-true, ltb-false}
use Rattle.choice.proofs.Picks.{split}
use Rattle.trace.specs.declared.item.Item.{Item}
use Rattle.trace.specs.declared.item.Item.TheVariants.{Write, Read, Vector, Clocks}
use Rattle.trace.specs.Shrinking.{most, clocks_before, merged_of, rest_of, parts_of, cut_of, shrunk_of}
use Rattle.trace.specs.Turning.{out_of, added_turn, turn_of, out_at}
use Rattle.trace.specs.declared.turn.Run.{Run}
use Rattle.trace.specs.declared.turn.Turn.{Turn}

module _ (full : ℕ) (some : 0 < full) where
  parts_none : (l : ℕ) → parts_of full l 0 ≡ []
  unfolding parts_of
  parts_none l = rw (zero-div full, zero-mod full)

  -- a full item goes out first
  pub parts-full : (l n : ℕ) → parts_of full l (full + n) ≡ Clocks l full ∷ parts_of full l n
  unfolding parts_of
  parts-full l n = let s : n / full + 1 ≡ suc (n / full) = omega arith in rw (add-div_left n some, add-mod_left full n, s)

  -- clocks before a list that begins with clocks
  twice : (l n d : ℕ) (is : List Item) → clocks_before l n (clocks_before l d is) ≡ clocks_before l (n + d) is
  twice l n d [] = rw (eq-eqb l l refl)
  twice l n d (Write a v m ∷ is) = rw (eq-eqb l l refl)
  twice l n d (Read a v m ∷ is) = rw (eq-eqb l l refl)
  twice l n d (Vector k m ∷ is) = rw (eq-eqb l l refl)
  twice l n d (Clocks m e ∷ is) =
      let s : n + (d + e) ≡ n + d + e = omega arith in
      split (eqb l m) (λ q. rw q (rw (eq-eqb l l refl, s))) (λ q. rw q (rw (eq-eqb l l refl)))

  apart : (l n m d : ℕ) (is : List Item) → eqb l m ≡ false → clocks_before l n (clocks_before m d is) ≡ Clocks l n ∷ clocks_before m d is
  apart l n m d [] h = rw h
  apart l n m d (Write a v k ∷ is) h = rw h
  apart l n m d (Read a v k ∷ is) h = rw h
  apart l n m d (Vector j k ∷ is) h = rw h
  apart l n m d (Clocks k e ∷ is) h = split (eqb m k) (λ q. rw q (rw h)) (λ q. rw q (rw h))

  -- no clocks before a list
  nothing : (l : ℕ) (is : List Item) → cut_of full (clocks_before l 0 is) ≡ cut_of full is
  unfolding cut_of
  nothing l [] = rw (parts_none l)
  nothing l (Write a v n ∷ is) = rw (parts_none l)
  nothing l (Read a v n ∷ is) = rw (parts_none l)
  nothing l (Vector k n ∷ is) = rw (parts_none l)
  nothing l (Clocks m d ∷ is) =
      let z : 0 + d ≡ d = omega arith in
      split (eqb l m) (λ e. let q : l ≡ m = eqb-true l m e in rw (e, z, q)) (λ e. rw (e, parts_none l))

  out-cut : (l n : ℕ) (is : List Item) → out_of full l n is ≡ cut_of full (clocks_before l n (merged_of is))
  unfolding out_of merged_of cut_of
  out-cut l n [] = sym (append-nil (parts_of full l n))
  out-cut l n (Write a v m ∷ is) = ap (λ (x : List Item). parts_of full l n ++ Write a v m ∷ x) (out-cut l 0 is ∙ nothing l (merged_of is))
  out-cut l n (Read a v m ∷ is) = ap (λ (x : List Item). parts_of full l n ++ Read a v m ∷ x) (out-cut l 0 is ∙ nothing l (merged_of is))
  out-cut l n (Vector k m ∷ is) = ap (λ (x : List Item). parts_of full l n ++ Vector k m ∷ x) (out-cut l 0 is ∙ nothing l (merged_of is))
  out-cut l n (Clocks m d ∷ is) =
      split (eqb l m)
      (λ e. let q : l ≡ m = eqb-true l m e in rw e (out-cut l (n + d) is ∙ ap (cut_of full) (sym (twice l n d (merged_of is))) ∙ rw q))
      (λ e. rw e (ap (λ (x : List Item). parts_of full l n ++ x) (out-cut m d is) ∙ sym (ap (cut_of full) (apart l n m d (merged_of is) e))))

-- nothing held back at first
pub out-shrunk : (l : ℕ) (is : List Item) → out_of most l 0 is ≡ shrunk_of is
unfolding shrunk_of
out-shrunk l is = out-cut most (lit< tt) l 0 is ∙ nothing most (lit< tt) l (merged_of is)

parts_whole : (l : ℕ) → parts_of most l most ≡ rest_of l most
unfolding parts_of
parts_whole l = refl

parts-small : (l n : ℕ) → n ≤ most → parts_of most l n ≡ rest_of l n
unfolding parts_of
parts-small l n h =
    split (ltb n most)
    (λ e. let p : n < most = ltb-true n most e in
    let q : n / most ≡ 0 = omega arith in
    let r : n % most ≡ n = omega arith in
    rw (q, r))
    (λ e. let p : n ≡ most = omega (arith, ltb-false n most e) in
    ap (λ (k : ℕ). parts_of most l k) p ∙ parts_whole l ∙ ap (λ (k : ℕ). rest_of l k) (sym p))

out-full : (l k : ℕ) (is : List Item) → out_of most l (most + k) is ≡ Clocks l most ∷ out_of most l k is
unfolding out_of
out-full l k [] = parts-full most (lit< tt) l k
out-full l k (Write a v n ∷ is) = ap (λ (x : List Item). x ++ Write a v n ∷ out_of most l 0 is) (parts-full most (lit< tt) l k)
out-full l k (Read a v n ∷ is) = ap (λ (x : List Item). x ++ Read a v n ∷ out_of most l 0 is) (parts-full most (lit< tt) l k)
out-full l k (Vector j n ∷ is) = ap (λ (x : List Item). x ++ Vector j n ∷ out_of most l 0 is) (parts-full most (lit< tt) l k)
out-full l k (Clocks m d ∷ is) =
    let s : most + k + d ≡ most + (k + d) = omega arith in
    split (eqb l m)
    (λ e. rw e (ap (λ (x : ℕ). out_of most l x is) s ∙ out-full l (k + d) is))
    (λ e. rw e (ap (λ (x : List Item). x ++ out_of most m d is) (parts-full most (lit< tt) l k)))

-- what goes out at an item, and what is left to go out
Goes : Item → List Item → List Item → Turn → Type 0
Goes i is all t = all ≡ out_at t.out i ++ out_of most t.held.levels t.held.clocks is

goes-added : (r : Run) (m d : ℕ) (is : List Item) → Goes (Clocks m d) is (out_of most r.levels (r.clocks + d) is) (added_turn r d)
unfolding Goes added_turn
goes-added r m d is =
    split (ltb most (r.clocks + d))
    (λ e. let p : most + (r.clocks + d - most) ≡ r.clocks + d = omega (arith, ltb-true most (r.clocks + d) e) in
    rw e (ap (λ (x : ℕ). out_of most r.levels x is) (sym p) ∙ out-full r.levels (r.clocks + d - most) is))
    (λ e. rw e)

goes-call : (l n : ℕ) (i : Item) (is : List Item) → n ≤ most → parts_of most l n ++ i ∷ out_of most l 0 is ≡ (rest_of l n ++ i ∷ []) ++ out_of most l 0 is
goes-call l n i is h = ap (λ (x : List Item). x ++ i ∷ out_of most l 0 is) (parts-small l n h) ∙ sym (append_assoc (rest_of l n) (i ∷ []) (out_of most l 0 is))

pub turn-goes : (r : Run) (i : Item) (is : List Item) → r.clocks ≤ most
    → out_of most r.levels r.clocks (i ∷ is) ≡ out_at (turn_of r i).out i ++ out_of most (turn_of r i).held.levels (turn_of r i).held.clocks is
unfolding out_of turn_of Goes
turn-goes r (Write a v m) is h = goes-call r.levels r.clocks (Write a v m) is h
turn-goes r (Read a v m) is h = goes-call r.levels r.clocks (Read a v m) is h
turn-goes r (Vector k m) is h = goes-call r.levels r.clocks (Vector k m) is h
turn-goes r (Clocks m d) is h =
    split (eqb r.levels m)
    (λ e. rw e (goes-added r m d is))
    (λ e. rw e (ap (λ (x : List Item). x ++ out_of most m d is) (parts-small r.levels r.clocks h ∙ sym (append-nil (rest_of r.levels r.clocks)))))

pub out-end : (l n : ℕ) → n ≤ most → out_of most l n [] ≡ rest_of l n
unfolding out_of
out-end l n h = parts-small l n h
