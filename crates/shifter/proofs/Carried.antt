-- The whole byte of whoever carries it, and the clocks of a master's edges: the induction over events, once.
use Prim.Native.Nat.{ℕ, zero, suc, ◌+◌, ◌-◌, ◌*◌, ◌≤◌, ◌<◌}
use mathlib.Core.Bool.{true}
use mathlib.Core.List.{List, [], ◌∷◌, ◌++◌}
use mathlib.Core.Path.{◌≡◌, refl, sym, subst, ◌∙◌}
use native.Mathlib.Omega.{arith}
use lib.ListN.{length}
use borrow.Author.Tests.{eqb-true}
use Rattle.choice.proofs.Picks.{split, both, clash}
use Rattle.shifter.specs.Edge.{edge_of}
use Rattle.shifter.specs.Byte.{after_edges, sampled_at, shown_at, Presented}
use Rattle.shifter.specs.Carrier.{Carrier, final_of, clocks_in, is_undisturbed, inputs_at, outs_at, is_up_to, Carries, Edges, Paces}
use Rattle.shifter.specs.declared.Mode.{Mode}
use Rattle.shifter.specs.declared.Shifter.{Shifter}
use Rattle.shifter.proofs.Byte.{whole-byte, shown-before}

module _ {S E : Type 0} (c : Carrier S E) where
  -- what follows is not the last edge
  more_edges : (n : ℕ) (s : S) (xs : List E) (y : E) (ys : List E) → is_up_to c n s (xs ++ (y ∷ ys)) ≡ true → 0 < n
  more_edges zero s [] y ys u = clash u refl
  more_edges zero s (x ∷ xs) y ys u = clash u refl
  more_edges (suc n) s xs y ys u = omega arith

  module _ (m : Mode) (At : S → ℕ → Shifter → Type 0) (Ended : S → Shifter → Type 0) (w : Edges c m At Ended) where
    -- from k edges on to edge 16, which is the last event
    record Whole (s : S) (k : ℕ) (r : Shifter) (es : List E) : Type 0 where
      sent : sampled_at m.cpha k (outs_at c s es) ≡ shown_at m r k (inputs_at c s es)
      count : length (inputs_at c s es) + k ≡ 16
      ended : Ended (final_of c s es) (after_edges m r k (inputs_at c s es))

    closes : (es : List E) (s : S) (e : E) (r : Shifter) → At s 15 r → c.is_harmless s e ≡ true → c.is_edge s e ≡ true
        → is_up_to c zero (c.next s e) es ≡ true → Whole s 15 r (e ∷ es)
    closes [] s e r a kp i u =
        let x = w.ends s e r a kp i in
        record {
          sent = rw i (shown-before m r 16 (c.input s e) (c.out (c.next s e)) [] [] x.1 refl);
          count = rw i refl;
          ended = rw i x.0;
        }
    closes (y ∷ ys) s e r a kp i u = clash u refl

    turns : (es : List E) (s : S) (e : E) (k : ℕ) (r : Shifter) → c.is_edge s e ≡ true
        → c.out (c.next s e) ≡ (edge_of m r (k + 1) (c.input s e)).out
        → Whole (c.next s e) (k + 1) (edge_of m r (k + 1) (c.input s e)) es → Whole s k r (e ∷ es)
    turns es s e k r i o x = record {
      sent = rw i (shown-before m r (k + 1) (c.input s e) (c.out (c.next s e)) _ _ (λ _. o) x.sent);
      count = rw i (omega (arith, x.count));
      ended = rw i x.ended;
    }

    whole : (es : List E) (s : S) (k n : ℕ) (r : Shifter) → At s k r → is_undisturbed c s es ≡ true → k + suc n ≡ 16
        → is_up_to c (suc n) s es ≡ true → Whole s k r es
    whole [] s k n r a kp h u = absurd (omega (arith, eqb-true (suc n) 0 u))
    whole (e ∷ es) s k n r a kp h u =
        let p = both (c.is_harmless s e) (is_undisturbed c (c.next s e) es) kp in
        split (c.is_edge s e)
        (λ i. edge n p.0 i h (rw i at u) (λ j q g l v. whole es (c.next s e) (k + 1) j q g p.1 l v))
        (λ i. let x = whole es (c.next s e) k n r (w.waits s e k r a p.0 i) p.1 h (rw i at u) in
        record { sent = rw i x.sent; count = rw i x.count; ended = rw i x.ended })
      where
        edge : (n : ℕ) → c.is_harmless s e ≡ true → c.is_edge s e ≡ true → k + suc n ≡ 16 → is_up_to c n (c.next s e) es ≡ true
            → ((j : ℕ) (q : Shifter) → At (c.next s e) (k + 1) q → k + 1 + suc j ≡ 16 → is_up_to c (suc j) (c.next s e) es ≡ true
            → Whole (c.next s e) (k + 1) q es) → Whole s k r (e ∷ es)
        edge zero p i h v go =
            let k15 : k ≡ 15 = omega arith in
            subst (λ (j : ℕ). Whole s j r (e ∷ es)) (sym k15) (closes es s e r (subst (λ (j : ℕ). At s j r) k15 a) p i v)
        edge (suc j) p i h v go =
            let g = w.goes s e k r a p i (omega arith) in turns es s e k r i g.1 (go j _ g.0 (omega arith) v)

    -- until the last event the byte is under way
    pub record Within (s : S) : Type 0 where
      pub edges : ℕ
      pub register : Shifter
      pub at : At s edges register

    before : (xs : List E) (y : E) (ys : List E) (s : S) (k n : ℕ) (r : Shifter) → At s k r → is_undisturbed c s (xs ++ (y ∷ ys)) ≡ true → k + n ≡ 16
        → is_up_to c n s (xs ++ (y ∷ ys)) ≡ true → Within (final_of c s xs)
    before [] y ys s k n r a kp h u = record { edges = k; register = r; at = a }
    before (e ∷ xs) y ys s k zero r a kp h u = clash u refl
    before (e ∷ xs) y ys s k (suc n) r a kp h u =
        let p = both (c.is_harmless s e) (is_undisturbed c (c.next s e) (xs ++ (y ∷ ys))) kp in
        split (c.is_edge s e)
        (λ i. let v : is_up_to c n (c.next s e) (xs ++ (y ∷ ys)) ≡ true = rw i at u in
        let n0 : 0 < n = more_edges n (c.next s e) xs y ys v in
        before xs y ys (c.next s e) (k + 1) n _ (w.goes s e k r a p.0 i (omega arith)).0 p.1 (omega arith) v)
        (λ i. before xs y ys (c.next s e) k (suc n) r (w.waits s e k r a p.0 i) p.1 h (rw i at u))

    -- a whole byte, from no edge seen to edge 16, with its first bit out before edge 1 where CPHA is 0
    pub record Carried (s : S) (r : Shifter) (es : List E) : Type 0 where
      pub register : Shifter
      pub ended : Ended (final_of c s es) register
      pub carries : Carries c m s r.shift register.shift es
      pub before : (xs : List E) (y : E) (ys : List E) → es ≡ xs ++ (y ∷ ys) → Within (final_of c s xs)

    pub carried : (s : S) (r : Shifter) (es : List E) → At s 0 r → r.shift < 256 → Presented m r → is_undisturbed c s es ≡ true → is_up_to c 16 s es ≡ true
        → Carried s r es
    carried s r es a b pr kp u =
        let x : Whole s 0 r es = whole es s 0 15 r a kp refl u in
        let y = whole-byte m r (inputs_at c s es) (omega (arith, x.count)) b pr in
        record {
          register = after_edges m r 0 (inputs_at c s es);
          ended = x.ended;
          carries = record { sent = x.sent ∙ y.shown; taken = y.taken; byte = y.byte };
          before = λ xs z zs q.
              before xs z zs s 0 16 r a (subst (λ (l : List E). is_undisturbed c s l ≡ true) q kp) refl
              (subst (λ (l : List E). is_up_to c 16 s l ≡ true) q u);
        }

  module _ (h : ℕ) (Due : S → ℕ → ℕ → Type 0) (w : Paces c h Due) (h1 : 1 ≤ h) where
    -- after j clocks and n times h more, the next clock is that of the (n + 1)-th edge
    pub edge-after : (es : List E) (l : E) (s : S) (k n j : ℕ) → c.is_clock l ≡ true → Due s k j → is_undisturbed c s (es ++ (l ∷ [])) ≡ true
        → k + suc n ≤ 16 → clocks_in c es ≡ j + n * h → is_up_to c (suc n) s (es ++ (l ∷ [])) ≡ true
    edge-after [] l s k zero zero cl d kp b e = rw (w.goes s l k d (both (c.is_harmless s l) true kp).0 cl).0 refl
    edge-after [] l s k zero (suc j) cl d kp b e = absurd (omega arith)
    edge-after [] l s k (suc n) j cl d kp b e = absurd (omega arith)
    edge-after (x ∷ es) l s k n j cl d kp b e =
        let p = both (c.is_harmless s x) (is_undisturbed c (c.next s x) (es ++ (l ∷ []))) kp in
        split (c.is_clock x)
        (λ q. clocked n j d p.0 q b (rw q at e) (λ k n j d b e. edge-after es l (c.next s x) k n j cl d p.1 b e))
        (λ q. let r = w.rests s x k j d p.0 q in
        let f : clocks_in c es ≡ j + n * h = rw q at e in
        rw r.0 (edge-after es l (c.next s x) k n j cl r.1 p.1 b f))
      where
        clocked : (n j : ℕ) → Due s k j → c.is_harmless s x ≡ true → c.is_clock x ≡ true → k + suc n ≤ 16 → suc (clocks_in c es) ≡ j + n * h
            → ((k n j : ℕ) → Due (c.next s x) k j → k + suc n ≤ 16 → clocks_in c es ≡ j + n * h
            → is_up_to c (suc n) (c.next s x) (es ++ (l ∷ [])) ≡ true) → is_up_to c (suc n) s (x ∷ (es ++ (l ∷ []))) ≡ true
        clocked n (suc j) d p q b e go = let r = w.waits s x k j d p q in rw r.0 (go k n j r.1 b (omega arith))
        clocked zero zero d p q b e go = absurd (omega arith)
        clocked (suc n) zero d p q b e go =
            let r = w.goes s x k d p q in
            rw r.0 (go (k + 1) n (h - 1) (r.1 (omega arith)) (omega arith) (omega (arith, h1)))
