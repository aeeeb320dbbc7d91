-- The clocks by which noise is named are the receiver's own (document 02, M-112), both ways: each vote that it takes
-- comes at its clock, and each clock that noise turns over is one at which it takes that vote.
use Prim.Native.Nat.{ℕ, zero, suc, ◌+◌, ◌≤◌, ◌<◌}
use mathlib.Core.Bool.{Bool, true}
use mathlib.Core.List.{List, [], ◌∷◌, ◌++◌}
use mathlib.Core.Logic.{inl, inr, ⊎_elim}
use mathlib.Core.Path.{◌≡◌, refl, sym, ap, subst}
use native.Mathlib.Decide.{dec_lt}
use native.Mathlib.Omega.{arith}
use lib.Dec.{eqb}
use borrow.Author.Tests.{eq-eqb, eqb-true, eqb-false}
use Rattle.choice.proofs.Picks.{split, clash}
use Rattle.frame.specs.Format.{word_bits}
use Rattle.frame.specs.declared.format.Format.{Format}
use Rattle.usart.specs.Event.{Event}
use Rattle.usart.specs.Line.{Sent}
use Rattle.usart.specs.Noise.{Noise, Allowed, vote_clock, is_hit, is_hit_below, is_turned, turn}
use Rattle.usart.specs.Votes.{Cast, bit_of, vote_on, votes_of, votes_from, votes_on, Each, Some, VotesTimed, HitAt, HitsTaken}
use Rattle.usart.specs.NoisyReceiving.{HearsNoisy}
use Rattle.usart.specs.declared.baud.Baud.{Baud}
use Rattle.usart.specs.declared.unit.Usart.{Usart}
use Rattle.usart.proofs.NoisyLine.{takes-votes}

each_append : {A : Type 0} (F : A → Type 0) (xs ys : List A) → Each F xs → Each F ys → Each F (xs ++ ys)
each_append F [] ys h k = k
each_append F (x ∷ xs) ys h k = (h.0, each_append F xs ys h.1 k)

each_map : {A : Type 0} (F G : A → Type 0) (xs : List A) → ((x : A) → F x → G x) → Each F xs → Each G xs
each_map F G [] t h = tt
each_map F G (x ∷ xs) t h = (t x h.0, each_map F G xs t h.1)

some_left : {A : Type 0} (F : A → Type 0) (xs ys : List A) → Some F xs → Some F (xs ++ ys)
some_left F [] ys h = absurd h
some_left F (x ∷ xs) ys h = ⊎_elim inl (λ t. inr (some_left F xs ys t)) h

some_right : {A : Type 0} (F : A → Type 0) (xs ys : List A) → Some F ys → Some F (xs ++ ys)
some_right F [] ys h = h
some_right F (x ∷ xs) ys h = inr (some_right F xs ys h)

some-map : {A : Type 0} (F G : A → Type 0) (xs : List A) → ((x : A) → F x → G x) → Some F xs → Some G xs
some-map F G [] t h = absurd h
some-map F G (x ∷ xs) t h = ⊎_elim (λ y. inl (t x y)) (λ y. inr (some-map F G xs t y)) h

module _ (f : Format) (c : Baud) (noise : Noise) where
  -- a vote of the frame s
  abbrev Of : Sent → Cast → Type 0
  Of s v = v ≡ vote_on f c noise s v.bit v.vote

  from-timed : (s : Sent) (b n : ℕ) → Each (Of s) (votes_from f c noise s b n)
  unfolding votes_from
  from-timed s b zero = tt
  from-timed s b (suc n) = (refl, (refl, (refl, from-timed s (suc b) n)))

  pub votes-timed : (fs : List Sent) → VotesTimed f c noise fs (votes_on f c noise fs)
  unfolding votes_on
  votes-timed [] = tt
  votes-timed (s ∷ ss) =
      each_append _ (votes_from f c noise s 0 (word_bits f + 2)) (votes_on f c noise ss)
      (each_map (Of s) _ (votes_from f c noise s 0 (word_bits f + 2)) (λ v e. inl e) (from-timed s 0 (word_bits f + 2)))
      (each_map _ _ (votes_on f c noise ss) (λ v e. inr e) (votes-timed ss))

  -- each of the three votes of a bit is there
  vote-there : (F : Cast → Type 0) (s : Sent) (a n b v : ℕ) → a ≤ b → b < a + n → 1 ≤ v → v ≤ 3 → F (vote_on f c noise s b v)
      → Some F (votes_from f c noise s a n)
  unfolding votes_from
  vote-there F s a zero b v lo hi v1 v3 t = absurd (omega arith)
  vote-there F s a (suc n) b v lo hi v1 v3 t = elim (dec_lt a b) [
    | yes l ↦ inr (inr (inr (vote-there F s (suc a) n b v (omega arith) (omega arith) v1 v3 t)))
    | no l ↦ by v v1 v3 (subst (λ (k : ℕ). F (vote_on f c noise s k v)) (omega arith) t)
  ]
    where
      by : (v : ℕ) → 1 ≤ v → v ≤ 3 → F (vote_on f c noise s a v) → Some F (votes_from f c noise s a (suc n))
      by zero v1 v3 t = absurd (omega arith)
      by (suc zero) v1 v3 t = inl t
      by (suc (suc zero)) v1 v3 t = inr (inl t)
      by (suc (suc (suc zero))) v1 v3 t = inr (inr (inl t))
      by (suc (suc (suc (suc v)))) v1 v3 t = absurd (omega arith)

  module _ (allowed : Allowed (word_bits f) noise) where
    -- the hit vote of a bit
    hit-there : (s : Sent) (j b : ℕ) → b ≤ word_bits f + 1 → is_hit f c noise s.start b j ≡ true
        → Some (HitAt f noise s j) (votes_from f c noise s 0 (word_bits f + 2))
    hit-there s j b l e =
        let v : ℕ = noise s.start b in
        split (eqb v 0) (λ z. clash e (rw z))
        (λ z.
        let at : j ≡ vote_clock f c s.start b v = eqb-true j (vote_clock f c s.start b v) (rw z at e) in
        vote-there (HitAt f noise s j) s 0 (word_bits f + 2) b v (omega arith) (omega arith) (omega (arith, eqb-false v 0 z))
        (allowed.votes s.start b)
        (record {
          at = sym at;
          bit = l;
          vote = refl;
          level = ap (λ (t : Bool). turn t (bit_of f s b)) (eq-eqb v v refl);
        }))

    below-there : (s : Sent) (j k : ℕ) → k ≤ word_bits f + 2 → is_hit_below f c noise s.start k j ≡ true
        → Some (HitAt f noise s j) (votes_from f c noise s 0 (word_bits f + 2))
    unfolding is_hit_below
    below-there s j zero l e = clash e refl
    below-there s j (suc b) l e =
        split (is_hit f c noise s.start b j) (λ t. hit-there s j b (omega arith) t)
        (λ t. below-there s j b (omega arith) (rw t at e))

    pub hits-taken : (fs : List Sent) → HitsTaken f c noise fs (votes_on f c noise fs)
    unfolding is_turned votes_on
    hits-taken [] j e = clash e refl
    hits-taken (s ∷ ss) j e =
        let own : List Cast = votes_from f c noise s 0 (word_bits f + 2) in
        split (is_hit_below f c noise s.start (word_bits f + 2) j)
        (λ t. inl (some_left (HitAt f noise s j) own (votes_on f c noise ss) (below-there s j (word_bits f + 2) (omega arith) t)))
        (λ t. inr (some-map _ _ ss (λ x y. some_right (HitAt f noise x j) own (votes_on f c noise ss) y) (hits-taken ss j (rw t at e))))

module _ (noise : Noise) (P Q : ℕ) (fs : List Sent) (u : Usart) (es : List Event) (h : HearsNoisy noise P Q fs u es) where
  pub takes-timed : VotesTimed u.format u.baud noise fs (votes_of 0 u es)
  takes-timed =
      subst (VotesTimed u.format u.baud noise fs) (sym (takes-votes noise P Q fs u es h)) (votes-timed u.format u.baud noise fs)

  pub takes-hits : HitsTaken u.format u.baud noise fs (votes_of 0 u es)
  takes-hits =
      subst (HitsTaken u.format u.baud noise fs) (sym (takes-votes noise P Q fs u es h))
      (hits-taken u.format u.baud noise h.allowed fs)
