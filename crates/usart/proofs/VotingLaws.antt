-- Each voting sample that the receiver takes is the line's next, at its clock and with its level (document 02, M-112):
-- one tick.
use mathlib.Core.Path.{◌≡◌, refl, ◌∙◌, sym, ap, ap₂}
use mathlib.Core.Bool.{Bool}
use mathlib.Core.List.{List, [], ◌∷◌, ◌++◌, append_assoc}
use Prim.Native.Nat.{ℕ, zero, suc, ◌+◌, ◌-◌, ◌*◌, ◌≤◌, ◌<◌}
use native.Mathlib.Decide.{dec_lt}
use native.Mathlib.Nat.{mul-le-mul_right}
use native.Mathlib.Omega.{arith}
use borrow.Author.Tests.{le-leb, lt-leb}
use Rattle.choice.specs.Pick.{pick}
use Rattle.frame.specs.Format.{first_vote, word_bits}
use Rattle.frame.specs.declared.format.Format.{Format}
use Rattle.frame.proofs.FormatLaws.{first-vote-range}
use Rattle.usart.specs.Sending.{tick_from}
use Rattle.usart.specs.Line.{Sent}
use Rattle.usart.specs.Noise.{Noise, Allowed, vote_clock, noisy_level}
use Rattle.usart.specs.Votes.{Cast, is_vote, cast_in, vote_on, votes_from, votes_on}
use Rattle.usart.specs.declared.baud.Baud.{Baud}
use Rattle.usart.specs.declared.sampler.Reception.{Reception}
use Rattle.usart.specs.declared.sampler.Sampler.{Sampler}
use Rattle.usart.specs.declared.sampler.Sampler.TheVariants.{Idle, Receiving}
use Rattle.usart.specs.declared.sampler.Outcome.{Outcome}
use Rattle.usart.specs.declared.sampler.Outcome.TheVariants.{Nothing, Started, Complete}
use Rattle.usart.proofs.Rates.{Rates}
use Rattle.usart.proofs.LineLaws.{From}
use Rattle.usart.proofs.NoiseLaws.{vote-clock-half}
use Rattle.usart.proofs.NoisyTick.{InStep, Inv, GoodFor, vote-level}
use Rattle.usart.proofs.PositionLaws.{place-unique, same-ticks}
use Rattle.usart.proofs.TickLaws.{tick-from}

module _ (f : Format) (c : Baud) (noise : Noise) where
  abbrev D : ℕ
  D = word_bits f

  abbrev h : ℕ
  h = first_vote f

  abbrev M : ℕ
  M = c.ubrr + 1

  -- the last m votes of bit b, where m is below three, else all three, then those of the bits after it
  abbrev left : Sent → ℕ → ℕ → List Cast
  left s b zero = votes_from f c noise s (suc b) (D + 1 - b)
  left s b (suc zero) = vote_on f c noise s b 3 ∷ votes_from f c noise s (suc b) (D + 1 - b)
  left s b (suc (suc zero)) =
      vote_on f c noise s b 2 ∷ vote_on f c noise s b 3 ∷ votes_from f c noise s (suc b) (D + 1 - b)
  left s b (suc (suc (suc m))) =
      vote_on f c noise s b 1 ∷ vote_on f c noise s b 2 ∷ vote_on f c noise s b 3 ∷ votes_from f c noise s (suc b) (D + 1 - b)

  -- the votes still to be taken
  abbrev pub ahead : Sampler → List Sent → List Cast
  ahead (Idle last) fs = votes_on f c noise fs
  ahead (Receiving r) [] = []
  ahead (Receiving r) (s ∷ ss) = left s r.bit (h + 2 - r.sample.0) ++ votes_on f c noise ss

  -- .. after a tick that leads to the sampler p with this outcome
  abbrev pub ahead_by : Outcome → Sampler → List Sent → List Cast
  ahead_by Nothing p fs = ahead p fs
  ahead_by Started p fs = ahead p fs
  ahead_by (Complete word stop splits) p [] = []
  ahead_by (Complete word stop splits) p (s ∷ ss) = ahead p ss

  -- what sample n + 1 of bit b casts at clock j
  abbrev cast : ℕ → ℕ → ℕ → Bool → List Cast
  cast j b n l = pick (is_vote f (n + 1)) (record { at = j; bit = b; vote = n + 1 + 1 - h; level = l } ∷ []) []

  no-vote-yet : (j b n : ℕ) (l : Bool) → n + 1 < h → cast j b n l ≡ []
  no-vote-yet j b n l t = rw (lt-leb h (n + 1) t)

  no-vote-more : (j b n : ℕ) (l : Bool) → h + 2 ≤ n → cast j b n l ≡ []
  no-vote-more j b n l t = rw (le-leb h (n + 1) (omega arith), lt-leb (n + 1) (h + 2) (omega arith))

  one-vote : (j b n : ℕ) (l : Bool) → h ≤ n + 1 → n ≤ h + 1 → cast j b n l ≡ record { at = j; bit = b; vote = n + 1 + 1 - h; level = l } ∷ []
  one-vote j b n l p q = rw (le-leb h (n + 1) p, le-leb (n + 1) (h + 2) (omega arith))

  -- where that is the line's vote, it is the next one
  sampled : (s : Sent) (j b n : ℕ) (l : Bool)
      → ((v : ℕ) → n + 2 ≡ v + h → 1 ≤ v → v ≤ 3 → ◌≡◌ {A = Cast} (record { at = j; bit = b; vote = n + 1 + 1 - h; level = l }) (vote_on f c noise s b v))
      → cast j b n l ++ left s b (h + 2 - (n + 1)) ≡ left s b (h + 2 - n)
  sampled s j b n l is = by (h + 2 - n) refl
    where
      by : (m : ℕ) → h + 2 - n ≡ m → cast j b n l ++ left s b (h + 2 - (n + 1)) ≡ left s b m
      by zero e =
          let o : h + 2 - (n + 1) ≡ 0 = omega arith in
          rw (no-vote-more j b n l (omega arith), o)
      by (suc zero) e =
          let o : h + 2 - (n + 1) ≡ 0 = omega arith in
          rw (one-vote j b n l (omega arith) (omega arith), o, is 3 (omega arith) (omega arith) (omega arith))
      by (suc (suc zero)) e =
          let o : h + 2 - (n + 1) ≡ 1 = omega arith in
          rw (one-vote j b n l (omega arith) (omega arith), o, is 2 (omega arith) (omega arith) (omega arith))
      by (suc (suc (suc zero))) e =
          let o : h + 2 - (n + 1) ≡ 2 = omega arith in
          rw (one-vote j b n l (omega arith) (omega arith), o, is 1 (omega arith) (omega arith) (omega arith))
      by (suc (suc (suc (suc m)))) e =
          let o : h + 2 - (n + 1) ≡ suc (suc (suc m)) = omega arith in
          rw (no-vote-yet j b n l (omega arith), o)

  -- the first sample of the start bit is no vote
  first-left : (s : Sent) (ss : List Sent) (b n : ℕ) → b ≡ 0 → n ≤ 1 → left s b (h + 2 - n) ++ votes_on f c noise ss ≡ votes_on f c noise (s ∷ ss)
  unfolding votes_on votes_from
  first-left s ss b n eb en =
      let four : 4 ≤ h = (first-vote-range f).0 in
      let m : h + 2 - n ≡ suc (suc (suc (h - 1 - n))) = omega arith in
      let e : D + 2 ≡ suc (D + 1) = omega arith in
      let z : D + 1 - 0 ≡ D + 1 = omega arith in
      rw (eb, m, e, z)

  -- the last sample of a bit is none, and then come the votes of the next bit
  next-left : (s : Sent) (b : ℕ) → b ≤ D → left s (suc b) (h + 2 - 0) ≡ left s b 0
  unfolding votes_from
  next-left s b l =
      let m : h + 2 - 0 ≡ suc (suc (suc (h - 1))) = omega (arith, (first-vote-range f).0) in
      let e : D + 1 - b ≡ suc (D + 1 - suc b) = omega arith in
      rw (m, e)

  some : (a b x : ℕ) → 1 ≤ x → 1 ≤ a * b + x
  some a b x l = omega arith

  none : (b n : ℕ) → b * (2 * h) + n < 2 → b ≡ 0
  none zero n l = refl
  none (suc b) n l = absurd (omega (arith, (first-vote-range f).0))

  module _ (P Q : ℕ) (R : Rates (first_vote f) (c.ubrr + 1) P Q (word_bits f)) (allowed : Allowed (word_bits f) noise) where
    -- a voting sample is the line's
    is-vote : (s : Sent) (ss : List Sent) (lo j : ℕ) (r : Reception) (l : Bool) → From D P Q lo (s ∷ ss) → l ≡ noisy_level f c P Q noise (s ∷ ss) j
        → (i : InStep f c noise j 0 r s) (v : ℕ) → r.sample.0 + 2 ≡ v + h → 1 ≤ v → v ≤ 3
        → ◌≡◌ {A = Cast} (record { at = j; bit = r.bit; vote = r.sample.0 + 1 + 1 - h; level = l }) (vote_on f c noise s r.bit v)
    is-vote s ss lo j r l fr el i v e v1 v3 =
        let at : j ≡ tick_from c s.start + (r.bit * (2 * h) + r.sample.0) * M = omega (arith, i.next) in
        let number : r.sample.0 + 1 + 1 - h ≡ v = omega arith in
        ap (λ (x : ℕ). record { at = x; bit = r.bit; vote = r.sample.0 + 1 + 1 - h; level = l })
        (at ∙ sym (vote-clock-half f c s.start r.bit v r.sample.0 v1 e))
        ∙ ap₂ (λ (x : ℕ) (y : Bool). record { at = vote_clock f c s.start r.bit v; bit = r.bit; vote = x; level = y }) number
        (vote-level f c noise P Q R allowed s ss lo j r l v fr el i e v1 v3)

    -- a tick of a frame under way that does not complete it
    onward : (s : Sent) (ss : List Sent) (lo j : ℕ) (r q : Reception) (l : Bool) → From D P Q lo (s ∷ ss) → l ≡ noisy_level f c P Q noise (s ∷ ss) j
        → (i : InStep f c noise j 0 r s) → (k : InStep f c noise (suc j) c.ubrr q s)
        → cast j r.bit r.sample.0 l ++ left s q.bit (h + 2 - q.sample.0) ≡ left s r.bit (h + 2 - r.sample.0)
    onward s ss lo j r q l fr el i k =
        let step : r.bit * (2 * h) + (r.sample.0 + 1) ≡ q.bit * (2 * h) + q.sample.0 =
        same-ticks c (tick_from c s.start) _ _ (omega (arith, i.next, k.next)) in
        elim (dec_lt (r.sample.0 + 1) (2 * h)) [
          | yes t ↦
              let same = place-unique (2 * h) r.bit (r.sample.0 + 1) q.bit q.sample.0 t k.s_s step in
              rw (← same.0, ← same.1) (sampled s j r.bit r.sample.0 l (is-vote s ss lo j r l fr el i))
          | no t ↦
              let all : r.sample.0 + 1 ≡ 2 * h = omega (arith, i.s_s) in
              let four : 4 ≤ h = (first-vote-range f).0 in
              let same = place-unique (2 * h) (suc r.bit) 0 q.bit q.sample.0 (omega arith) k.s_s (omega arith) in
              let over : h + 2 - r.sample.0 ≡ 0 = omega arith in
              rw (no-vote-more j r.bit r.sample.0 l (omega arith), ← same.0, ← same.1, over)
              (next-left s r.bit (omega (arith, same.0, k.b_d)))
        ]

    -- .. which is its last vote, and completes it
    final : (s : Sent) (ss : List Sent) (lo j : ℕ) (r : Reception) (l : Bool) → From D P Q lo (s ∷ ss) → l ≡ noisy_level f c P Q noise (s ∷ ss) j
        → (i : InStep f c noise j 0 r s) → j ≡ tick_from c s.start + ((D + 1) * (2 * h) + (h + 1)) * M
        → cast j r.bit r.sample.0 l ≡ left s r.bit (h + 2 - r.sample.0)
    unfolding votes_from
    final s ss lo j r l fr el i e =
        let four : 4 ≤ h = (first-vote-range f).0 in
        let same = place-unique (2 * h) r.bit r.sample.0 (D + 1) (h + 1) i.s_s (omega arith)
        (same-ticks c (tick_from c s.start) _ _ (omega (arith, i.next, e))) in
        let one : h + 2 - r.sample.0 ≡ 1 = omega (arith, same.1) in
        let none : D + 1 - r.bit ≡ 0 = omega (arith, same.0) in
        rw (one, none, one-vote j r.bit r.sample.0 l (omega (arith, same.1)) (omega (arith, same.1)))
        (ap (λ (v : Cast). v ∷ []) (is-vote s ss lo j r l fr el i 3 (omega (arith, same.1)) (omega arith) (omega arith)))

    -- a tick that completes no frame
    goes : (fs : List Sent) (lo j : ℕ) (p q : Sampler) (l : Bool) → From D P Q lo fs → l ≡ noisy_level f c P Q noise fs j → Inv f c noise j 0 p fs
        → Inv f c noise (suc j) c.ubrr q fs → cast_in f j p l ++ ahead q fs ≡ ahead p fs
    goes [] lo j (Idle a) (Idle b) l fr el i g = refl
    goes [] lo j (Idle a) (Receiving q) l fr el i g = absurd g
    goes [] lo j (Receiving r) q l fr el i g = absurd i
    goes (s ∷ ss) lo j (Idle a) (Idle b) l fr el i g = refl
    goes (s ∷ ss) lo j (Idle a) (Receiving q) l fr el i g =
        let few : q.bit * (2 * h) + q.sample.0 < 2 = elim (dec_lt (q.bit * (2 * h) + q.sample.0) 2) [
          | yes t ↦ t
          | no t ↦
              let two : 2 ≤ q.bit * (2 * h) + q.sample.0 = omega arith in
              absurd (omega (arith, i.1, g.next, tick-from c s.start, mul-le-mul_right M two))
        ] in
        first-left s ss q.bit q.sample.0 (none q.bit q.sample.0 few) (omega (arith, few))
    goes (s ∷ ss) lo j (Receiving r) (Idle b) l fr el i g = absurd (omega (arith, i.next, g.1, tick-from c s.start))
    goes (s ∷ ss) lo j (Receiving r) (Receiving q) l fr el i g =
        sym (append_assoc (cast j r.bit r.sample.0 l) (left s q.bit (h + 2 - q.sample.0)) (votes_on f c noise ss))
        ∙ ap (λ (vs : List Cast). vs ++ votes_on f c noise ss) (onward s ss lo j r q l fr el i g)

    -- what a tick takes, then what is still to be taken, is what was
    pub votes-tick : (fs : List Sent) (lo j : ℕ) (p q : Sampler) (o : Outcome) (l : Bool) → From D P Q lo fs → l ≡ noisy_level f c P Q noise fs j
        → Inv f c noise j 0 p fs → GoodFor f c noise P Q j q fs o → cast_in f j p l ++ ahead_by o q fs ≡ ahead p fs
    votes-tick fs lo j p q Nothing l fr el i g = goes fs lo j p q l fr el i g
    votes-tick fs lo j p q Started l fr el i g = goes fs lo j p q l fr el i g
    votes-tick [] lo j p q (Complete word stop splits) l fr el i g = absurd g
    votes-tick (s ∷ ss) lo j (Idle a) q (Complete word stop splits) l fr el i g =
        absurd (omega (arith, i.1, g.0.last, tick-from c s.start, mul-le-mul_right M (some (D + 1) (2 * h) (h + 1) (omega arith))))
    votes-tick (s ∷ ss) lo j (Receiving r) q (Complete word stop splits) l fr el i g =
        rw g.0.idle (ap (λ (vs : List Cast). vs ++ votes_on f c noise ss) (final s ss lo j r l fr el i g.0.last))
