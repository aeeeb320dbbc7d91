-- Over a byte's 16 edges the eight bits leave in order, and the eight sampled ones take their place, in order: once
-- over phase and order.
use Prim.Native.Nat.{ℕ, zero, suc, ◌+◌, ◌*◌, ◌%◌, ◌<◌, ◌≤◌}
use mathlib.Core.Bool.{Bool, true, false}
use mathlib.Core.List.{List, [], ◌∷◌, ◌++◌, append_assoc, append-nil}
use mathlib.Core.Path.{◌≡◌, refl, sym, ap, ap₂, ◌∙◌}
use native.Mathlib.Omega.{arith}
use lib.Dec.{eqb}
use lib.ListN.{length, take, drop}
use lib.Seq.{take-append-le, drop-append-le}
use borrow.Author.Tests.{eqb-false, eq-eqb, ne_eqb, lt-ltb}
use Rattle.choice.specs.Pick.{pick}
use Rattle.choice.proofs.Picks.{pick_ind, split, clash}
use Rattle.shifter.specs.Order.{out_bit, shifted_in, bits_of}
use Rattle.shifter.specs.Edge.{is_sampling, is_putting, edge_of}
use Rattle.shifter.specs.Byte.{after_edges, sampled_at, shown_at, Presented, WholeByte}
use Rattle.shifter.specs.declared.Mode.{Mode}
use Rattle.shifter.specs.declared.Shifter.{Shifter}
use Rattle.shifter.proofs.Laws.{rest, out_first, shifted-last, shifted-lt}

module _ (m : Mode) (r : Shifter) (k : ℕ) (i : Bool) where
  -- what is sampled at an edge is the bit that was out before it, and still is after it ..
  pub out-kept : is_sampling m.cpha k ≡ true → (edge_of m r k i).out ≡ r.out
  unfolding edge_of
  out-kept h = rw h

  -- .. so that who samples then gets what was shown before
  pub shown-before : (o : Bool) (os xs : List Bool) → (is_sampling m.cpha k ≡ true → o ≡ (edge_of m r k i).out) → os ≡ xs
      → pick (is_sampling m.cpha k) (o ∷ os) os ≡ pick (is_sampling m.cpha k) (r.out ∷ xs) xs
  shown-before o os xs ho hs =
      split (is_sampling m.cpha k)
      (λ e. rw e (ap₂ (λ (b : Bool) (z : List Bool). b ∷ z) (ho e ∙ out-kept e) hs)) (λ e. rw e hs)

  shift_kept : is_sampling m.cpha k ≡ false → (edge_of m r k i).shift ≡ r.shift
  unfolding edge_of
  shift_kept h = rw h (pick_ind (λ (x : Shifter). x.shift ≡ r.shift) (is_putting m.cpha k) _ _ (λ _. refl) (λ _. refl))

  -- an edge that does not sample, but for the last, puts out the first bit
  pub edge-puts : is_sampling m.cpha k ≡ false → k < 16 → (edge_of m r k i).out ≡ out_bit m.dord (edge_of m r k i).shift
  unfolding edge_of is_sampling is_putting
  edge-puts h l =
      split m.cpha
      (λ c. let even : eqb (k % 2) 0 ≡ false = rw c at h in rw (c, even, eq-eqb (k % 2) 1 (omega (arith, eqb-false (k % 2) 0 even))))
      (λ c. let odd : eqb (k % 2) 1 ≡ false = rw c at h in
      rw (c, odd, lt-ltb k 16 l, eq-eqb (k % 2) 0 (omega (arith, eqb-false (k % 2) 1 odd))))

  pub edge-lt : r.shift < 256 → (edge_of m r k i).shift < 256
  unfolding edge_of
  edge-lt h =
      pick_ind (λ (x : Shifter). x.shift < 256) (is_sampling m.cpha k) _ _ (λ _. shifted-lt m.dord r.shift i h)
      (λ _. pick_ind (λ (x : Shifter). x.shift < 256) (is_putting m.cpha k) _ _ (λ _. h) (λ _. h))

module _ (m : Mode) (r : Shifter) (k : ℕ) (a b : Bool) where
  -- the register after the edges k + 1 and k + 2, and the level that is sampled at one of them
  abbrev after : Shifter
  after = edge_of m (edge_of m r (k + 1) a) (k + 1 + 1) b

  abbrev sample : Bool
  sample = pick m.cpha b a

  -- what they do, the first of them odd: a bit leaves, shown at the sampling edge, and the sampled one enters
  record Paired : Type 0 where
    shift : after.shift ≡ shifted_in m.dord r.shift sample
    shown : (is : List Bool) → shown_at m r k (a ∷ b ∷ is) ≡ out_bit m.dord r.shift ∷ shown_at m after (k + 1 + 1) is
    sampled : (is : List Bool) → sampled_at m.cpha k (a ∷ b ∷ is) ≡ sample ∷ sampled_at m.cpha (k + 1 + 1) is
    presented : k + 1 + 1 < 16 → Presented m after

  paired : k % 2 ≡ 0 → Presented m r → Paired
  unfolding edge_of is_sampling is_putting
  paired e p =
      let odd0 : eqb ((k + 1) % 2) 0 ≡ false = ne_eqb ((k + 1) % 2) 0 (λ q. omega arith) in
      let odd1 : eqb ((k + 1) % 2) 1 ≡ true = eq-eqb ((k + 1) % 2) 1 (omega arith) in
      let even0 : eqb ((k + 1 + 1) % 2) 0 ≡ true = eq-eqb ((k + 1 + 1) % 2) 0 (omega arith) in
      let even1 : eqb ((k + 1 + 1) % 2) 1 ≡ false = ne_eqb ((k + 1 + 1) % 2) 1 (λ q. omega arith) in
      split m.cpha
      (λ c. record {
        shift = rw (c, odd0, odd1, even0);
        shown = λ is. rw (c, odd0, odd1, even0, ← c);
        sampled = λ is. rw (c, odd0, even0, ← c);
        presented = λ _ q. clash c q;
      })
      (λ c. record {
        shift = shift_kept m (edge_of m r (k + 1) a) (k + 1 + 1) b (rw (c, even1)) ∙ rw (c, odd1);
        shown = λ is. rw (c, odd1, even1, p c, ← c);
        sampled = λ is. rw (c, odd1, even1, ← c);
        presented = λ l q. edge-puts m (edge_of m r (k + 1) a) (k + 1 + 1) b (rw (c, even1)) l;
      })

rest-length : (dord : Bool) (x : ℕ) → length (rest (bits_of dord x)) ≡ 7
unfolding bits_of
rest-length true x = refl
rest-length false x = refl

eight-bits : (dord : Bool) (x : ℕ) → (take 8 (bits_of dord x) ≡ bits_of dord x) × (drop 8 (bits_of dord x) ≡ [])
unfolding bits_of
eight-bits true x = (refl, refl)
eight-bits false x = (refl, refl)

-- n pairs of edges after k
record Exchanged (m : Mode) (r : Shifter) (k n : ℕ) (is : List Bool) : Type 0 where
  bits : bits_of m.dord (after_edges m r k is).shift ≡ drop n (bits_of m.dord r.shift) ++ sampled_at m.cpha k is
  shown : shown_at m r k is ≡ take n (bits_of m.dord r.shift)
  byte : (after_edges m r k is).shift < 256

exchanged : (m : Mode) (r : Shifter) (k n : ℕ) (is : List Bool) → length is ≡ 2 * n → k + 2 * n ≤ 16 → r.shift < 256 → k % 2 ≡ 0
    → (0 < n → Presented m r) → Exchanged m r k n is
exchanged m r k zero [] l hk hb e p = record { bits = sym (append-nil (bits_of m.dord r.shift)); shown = refl; byte = hb }
exchanged m r k zero (a ∷ is) l hk hb e p = absurd (omega arith)
exchanged m r k (suc n) [] l hk hb e p = absurd (omega arith)
exchanged m r k (suc n) (a ∷ []) l hk hb e p = absurd (omega arith)
exchanged m r k (suc n) (a ∷ b ∷ is) l hk hb e p =
    let y : Bool = sample m r k a b in
    let bs : List Bool = bits_of m.dord r.shift in
    let w : Paired m r k a b = paired m r k a b e (p (omega arith)) in
    let byte : (after m r k a b).shift < 256 = rw w.shift (shifted-lt m.dord r.shift y hb) in
    let bits : bits_of m.dord (after m r k a b).shift ≡ rest bs ++ (y ∷ []) = ap (bits_of m.dord) w.shift ∙ shifted-last m.dord r.shift y hb in
    let x : Exchanged m (after m r k a b) (k + 1 + 1) n is =
    exchanged m (after m r k a b) (k + 1 + 1) n is (omega arith) (omega arith) byte (omega arith) (λ n0. w.presented (omega arith)) in
    let rl : n ≤ length (rest bs) = omega (arith, rest-length m.dord r.shift) in
    let first : bs ≡ out_bit m.dord r.shift ∷ rest bs = out_first m.dord r.shift in
    record {
      bits =
          x.bits ∙ ap (λ (z : List Bool). drop n z ++ sampled_at m.cpha (k + 1 + 1) is) bits
          ∙ ap (λ (z : List Bool). z ++ sampled_at m.cpha (k + 1 + 1) is) (drop-append-le n (rest bs) (y ∷ []) rl)
          ∙ append_assoc (drop n (rest bs)) (y ∷ []) (sampled_at m.cpha (k + 1 + 1) is)
          ∙ ap₂ (λ (z v : List Bool). z ++ v) (sym (ap (drop (suc n)) first)) (sym (w.sampled is));
      shown =
          w.shown is ∙ ap (λ (z : List Bool). out_bit m.dord r.shift ∷ z) (x.shown ∙ ap (take n) bits ∙ take-append-le n (rest bs) (y ∷ []) rl)
          ∙ sym (ap (take (suc n)) first);
      byte = x.byte;
    }

-- with CPHA 0 the first bit must be out before edge 1
pub whole-byte : (m : Mode) (r : Shifter) (is : List Bool) → length is ≡ 16 → r.shift < 256 → Presented m r → WholeByte m r is
whole-byte m r is l h p =
    let x = exchanged m r 0 8 is l (omega arith) h refl (λ _. p) in
    let e = eight-bits m.dord r.shift in
    record { shown = x.shown ∙ e.0; taken = x.bits ∙ ap (λ (z : List Bool). z ++ sampled_at m.cpha 0 is) e.1; byte = x.byte }
