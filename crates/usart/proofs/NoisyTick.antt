-- One tick of the sampler keeps the invariant of demand 3: it is idle between frames, or in step with the frame on the
-- line, on which noise turns over votes.
use mathlib.Core.Path.{◌≡◌, refl, ◌∙◌, sym, ap, subst}
use mathlib.Core.Bool.{Bool, true, false, not}
use mathlib.Core.List.{List, [], ◌∷◌}
use mathlib.Core.Logic.{⊎_elim}
use Prim.Native.Nat.{ℕ, suc, ◌+◌, ◌-◌, ◌*◌, ◌/◌, ◌%◌, ◌^◌, ◌≤◌, ◌<◌}
use native.Mathlib.Nat.{mul-le-mul_right, lt_of_mul-lt-mul_right, eq-or-lt_of_le, mod-one, div-eq_of_lt}
use native.Mathlib.Decide.{dec_lt}
use native.Mathlib.Omega.{arith}
use lib.Dec.{leb, ltb, eqb}
use borrow.Author.Tests.{le-leb, ltb-true, ltb-false, leb-true, leb-false, eqb-true, eqb-false, ne_eqb}
use Rattle.choice.specs.Pick.{digit}
use Rattle.choice.proofs.Picks.{pick_ind}
use Rattle.frame.specs.Format.{samples, first_vote, word_bits}
use Rattle.frame.specs.Vote.{vote_of}
use Rattle.frame.specs.Word.{word_of}
use Rattle.frame.specs.declared.format.Format.{Format}
use Rattle.frame.specs.declared.vote.Vote.{Vote}
use Rattle.frame.proofs.FormatLaws.{samples-half}
use Rattle.frame.proofs.VoteLaws.{vote-hit}
use Rattle.frame.proofs.WordLaws.{start-bit, word-bit, stop-bit, word_lt}
use Rattle.usart.specs.Sending.{tick_from}
use Rattle.usart.specs.Sampler.{first_low, idle_of, cast_of, next_bit_of, tally_of, decided_of, voted_of, sampled_of}
use Rattle.usart.specs.Sampler.{sampler_of}
use Rattle.usart.specs.Valid.{voted_bits}
use Rattle.usart.specs.Line.{Sent, line_level}
use Rattle.usart.specs.Noise.{Noise, Allowed, is_turned, turn, noisy_level, bits_hit}
use Rattle.usart.specs.Votes.{bit_of, shown_at}
use Rattle.usart.specs.declared.baud.Baud.{Baud}
use Rattle.usart.specs.declared.sampler.Reception.{Reception}
use Rattle.usart.specs.declared.sampler.Sampler.{Sampler}
use Rattle.usart.specs.declared.sampler.Sampler.TheVariants.{Idle, Receiving}
use Rattle.usart.specs.declared.sampler.Outcome.{Outcome}
use Rattle.usart.specs.declared.sampler.Outcome.TheVariants.{Nothing, Started, Complete}
use Rattle.usart.specs.declared.sampler.Sampled.{Sampled}
use Rattle.usart.proofs.ShiftLaws.{shift-digit}
use Rattle.usart.proofs.Rates.{Rates, tick-short, vote-low, vote-high, vote-bit}
use Rattle.usart.proofs.LineLaws.{From, before, within, quiet}
use Rattle.usart.proofs.OneTick.{part_of, part-more, part-all}
use Rattle.usart.proofs.NoiseLaws.{bits-hit-le, bits-hit-more, eqb-alike, turned-idle, turned-vote}
use Rattle.usart.proofs.TallyLaws.{tally-digit, voted-before, voted-after, voted-on, below-most}
use Rattle.usart.proofs.TickLaws.{Phase, tick_is, tick-from}

-- in step with the frame s, whose first low sample was at its first tick, before clock j and k clocks before the next
-- tick; the votes cast and counted are as noise leaves them
pub record InStep (f : Format) (c : Baud) (noise : Noise) (j k : ℕ) (r : Reception) (s : Sent) : Type 0 where
  pub hi : tick_from c s.start < s.start + (c.ubrr + 1)
  pub next : j + k ≡ tick_from c s.start + (r.bit * (2 * first_vote f) + r.sample.0) * (c.ubrr + 1)
  pub b_d : r.bit ≤ word_bits f + 1
  pub s_s : r.sample.0 < 2 * first_vote f
  pub end : r.bit ≡ word_bits f + 1 → r.sample.0 ≤ first_vote f + 1
  pub first : first_vote f ≤ r.sample.0 → r.sample.0 ≤ first_vote f + 1 → r.first ≡ shown_at f noise s r.bit 1
  pub second : r.sample.0 ≡ first_vote f + 1 → r.second ≡ shown_at f noise s r.bit 2
  pub word : r.word ≡ part_of (word_bits f) (word_of f s.«data») (voted_bits f r - 1)
  pub splits : r.splits ≡ bits_hit (noise s.start) (voted_bits f r)

-- idle between frames: the next tick comes within a tick of the next start
abbrev pub Inv : Format → Baud → Noise → ℕ → ℕ → Sampler → List Sent → Type 0
Inv f c noise j k (Idle last) [] = last ≡ true
Inv f c noise j k (Idle last) (s ∷ ss) = (last ≡ true) × (j + k < s.start + (c.ubrr + 1))
Inv f c noise j k (Receiving r) [] = ⊥
Inv f c noise j k (Receiving r) (s ∷ ss) = InStep f c noise j k r s

-- the frame s completes at clock j, that of its last vote, in its stop bit, with its word, a high stop bit and a split
-- vote for each bit hit; the sampler p is then idle
pub record Completes (f : Format) (c : Baud) (noise : Noise) (P Q j : ℕ) (p : Sampler) (s : Sent) (word : ℕ) (stop : Bool) (splits : ℕ) : Type 0 where
  pub bits : word ≡ word_of f s.«data»
  pub high : stop ≡ true
  pub count : splits ≡ bits_hit (noise s.start) (word_bits f + 2)
  pub idle : p ≡ Idle true
  pub last : j ≡ tick_from c s.start + ((word_bits f + 1) * (2 * first_vote f) + (first_vote f + 1)) * (c.ubrr + 1)
  pub began : s.start ≤ j
  pub over : (word_bits f + 1) * P ≤ (j - s.start) * Q
  pub in_time : (j - s.start) * Q < (word_bits f + 2) * P

-- what a tick at clock j may lead to: the sampler p, by its outcome
abbrev pub GoodFor : Format → Baud → Noise → ℕ → ℕ → ℕ → Sampler → List Sent → Outcome → Type 0
GoodFor f c noise P Q j p ss Nothing = Inv f c noise (suc j) c.ubrr p ss
GoodFor f c noise P Q j p ss Started = Inv f c noise (suc j) c.ubrr p ss
GoodFor f c noise P Q j p [] (Complete word stop splits) = ⊥
GoodFor f c noise P Q j p (s ∷ ss) (Complete word stop splits) =
    Completes f c noise P Q j p s word stop splits × Inv f c noise (suc j) c.ubrr p ss

abbrev pub Good : Format → Baud → Noise → ℕ → ℕ → ℕ → List Sent → Sampled → Type 0
Good f c noise P Q j ss o = GoodFor f c noise P Q j o.sampler ss o.outcome

-- no tick: the counter falls
pub keep : (f : Format) (c : Baud) (noise : Noise) (j k : ℕ) (p : Sampler) (ss : List Sent) → Inv f c noise j (suc k) p ss → Inv f c noise (suc j) k p ss
keep f c noise j k (Idle last) [] i = i
keep f c noise j k (Idle last) (s ∷ ss) i = (i.0, omega (arith, i.1))
keep f c noise j k (Receiving r) [] i = i
keep f c noise j k (Receiving r) (s ∷ ss) i =
    record {
      hi = i.hi;
      next = omega (arith, i.next);
      b_d = i.b_d;
      s_s = i.s_s;
      end = i.end;
      first = i.first;
      second = i.second;
      word = i.word;
      splits = i.splits;
    }

module _ (f : Format) (c : Baud) (noise : Noise) (P Q : ℕ) (R : Rates (first_vote f) (c.ubrr + 1) P Q (word_bits f)) (allowed : Allowed (word_bits f) noise) where
  abbrev D : ℕ
  D = word_bits f

  abbrev h : ℕ
  h = first_vote f

  abbrev M : ℕ
  M = c.ubrr + 1

  abbrev Next : ℕ → Reception → Sent → Type 0
  Next j r s = InStep f c noise (suc j) c.ubrr r s

  -- a tick of the idle sampler
  idle-tick : (s : Sent) (ss : List Sent) (lo j : ℕ) (last l : Bool) → From D P Q lo (s ∷ ss) → l ≡ noisy_level f c P Q noise (s ∷ ss) j
      → Phase c j 0 → Inv f c noise j 0 (Idle last) (s ∷ ss) → Good f c noise P Q j (s ∷ ss) (idle_of last l)
  unfolding idle_of
  idle-tick s ss lo j last l fr en ph i =
      let el : l ≡ line_level f P Q (s ∷ ss) j =
      en ∙ ap (λ (t : Bool). turn t (line_level f P Q (s ∷ ss) j)) (turned-idle f c noise P Q s ss j fr.1 (omega (arith, i.1)) (tick-short R)) in
      elim (dec_lt j s.start) [
        | yes b ↦
            let z : suc j * Q ≤ s.start * Q = mul-le-mul_right Q (omega arith) in
            let up : l ≡ true = el ∙ before f P Q s ss j b ∙ quiet f P Q (s.start * Q + (D + 2) * P) ss j fr.1 (omega (arith, R.q1)) in
            rw (i.0, up) (refl, omega (arith, i.1))
        | no b ↦
            let x : (j - s.start) * Q ≤ c.ubrr * Q = mul-le-mul_right Q (omega (arith, i.1)) in
            let y : M * Q < P = tick-short R in
            let zero_bit : (j - s.start) * Q / P ≡ 0 = div-eq_of_lt (omega arith) in
            let down : l ≡ false = el ∙ within f P Q s ss j (omega arith) (omega arith) ∙ ap (bit_of f s) zero_bit ∙ start-bit D (word_of f s.«data») in
            let first : tick_from c s.start ≡ c.left.0 + ph.given * M =
            tick_is c ph.given s.start (omega (arith, ph.next)) (λ _. omega (arith, ph.next, i.1)) in
            rw (i.0, down) (started j s (omega (arith, first, ph.next)) (omega (arith, first, ph.next, i.1)))
      ]
    where
      -- sample 1 of the start bit
      started : (j : ℕ) (s : Sent) → j ≡ tick_from c s.start → j < s.start + M → Next j first_low s
      started j s e t = record {
        hi = omega arith;
        next = omega arith;
        b_d = omega arith;
        s_s = omega (arith, R.h4);
        end = λ e. omega (arith, R.h4);
        first = λ t _. absurd (omega (arith, R.h4));
        second = λ t. absurd (omega (arith, R.h4));
        word = rw (voted-before f first_low (omega (arith, R.h4)), mod-one (word_of f s.«data»)) (omega arith);
        splits = rw (voted-before f first_low (omega (arith, R.h4))) (omega (arith, bits-hit-le (noise s.start) 0));
      }

  -- a sample of a frame under way comes before its first stop bit has ended
  pub under-way : (s : Sent) (j k : ℕ) (r : Reception) (i : InStep f c noise j k r s) → (j + k - s.start) * Q < (D + 2) * P
  under-way s j k r i =
      let a : ℕ = tick_from c s.start in
      let w : r.bit * (2 * h) + r.sample.0 ≤ (D + 1) * (2 * h) + (h + 1) = ⊎_elim
      (λ q. omega (arith, i.end q, ap (λ (n : ℕ). n * (2 * h)) q))
      (λ t. omega (arith, i.s_s, mul-le-mul_right (2 * h) t))
      (eq-or-lt_of_le i.b_d) in
      let z : (a - s.start + ((D + 1) * (2 * h) + (h + 1)) * M) * Q < (D + 1 + 1) * P =
      vote-high R (D + 1) (h + 1) (a - s.start) (omega arith) (omega arith) (omega (arith, i.hi, tick-from c s.start)) in
      let x : (j + k - s.start) * Q ≤ (a - s.start + ((D + 1) * (2 * h) + (h + 1)) * M) * Q =
      mul-le-mul_right Q (omega (arith, i.next, tick-from c s.start, mul-le-mul_right M w)) in
      omega arith

  -- the level at vote v
  pub vote-level : (s : Sent) (ss : List Sent) (lo j : ℕ) (r : Reception) (l : Bool) (v : ℕ) → From D P Q lo (s ∷ ss)
      → l ≡ noisy_level f c P Q noise (s ∷ ss) j → (i : InStep f c noise j 0 r s) → r.sample.0 + 2 ≡ v + h → 1 ≤ v → v ≤ 3
      → l ≡ shown_at f noise s r.bit v
  vote-level s ss lo j r l v fr el i e v1 v3 =
      let a : ℕ = tick_from c s.start in
      let lo : s.start ≤ a = tick-from c s.start in
      let ej : j - s.start ≡ (a - s.start) + (r.bit * (2 * h) + r.sample.0) * M = omega (arith, i.next) in
      let floor : (j - s.start) * Q / P ≡ r.bit =
      rw ej (vote-bit R r.bit r.sample.0 (a - s.start) i.b_d (omega arith) (omega arith) (omega (arith, i.hi))) in
      let clock : (j - s.start) * Q < (D + 2) * P = subst (λ (n : ℕ). (n - s.start) * Q < (D + 2) * P) (omega arith) (under-way s j 0 r i) in
      let z : j * Q ≡ (s.start + (j - s.start)) * Q = ap (λ (n : ℕ). n * Q) (omega (arith, i.next)) in
      let level : line_level f P Q (s ∷ ss) j ≡ bit_of f s r.bit = within f P Q s ss j (omega (arith, i.next)) clock ∙ ap (bit_of f s) floor in
      let turned = turned-vote f c noise P Q s ss r.bit r.sample.0 j allowed fr.1 (omega arith) i.b_d (omega arith) i.s_s (omega (arith, i.next)) in
      el ∙ ap (turn (is_turned f c noise (s ∷ ss) j)) level
      ∙ ap (λ (t : Bool). turn t (bit_of f s r.bit))
      (turned ∙ eqb-alike (noise s.start r.bit + h) (r.sample.0 + 2) (noise s.start r.bit) v (λ q. omega arith) (λ q. omega arith))

  -- the reception after one more sample of the same bit
  abbrev onward : Reception → Bool → Bool → ℕ → ℕ → Reception
  onward r a b x n = record { bit = r.bit; sample = record { 0 = r.sample.0 + 1 }; first = a; second = b; word = x; splits = n }

  -- a sample that is not a bit's last vote and not its last
  plain-sample : (s : Sent) (ss : List Sent) (lo j : ℕ) (r : Reception) (l : Bool) → From D P Q lo (s ∷ ss)
      → l ≡ noisy_level f c P Q noise (s ∷ ss) j → (i : InStep f c noise j 0 r s) → r.sample.0 + 1 < 2 * h → (r.sample.0 + 1 ≡ h + 2 → ⊥)
      → Next j (cast_of f r (record { 0 = r.sample.0 + 1 }) l) s
  unfolding cast_of
  plain-sample s ss lo j r l fr el i hs nv =
      pick_ind (λ (q : Reception). Next j q s) (eqb (r.sample.0 + 1) h) _ _
      (λ t.
      let eh : r.sample.0 + 1 ≡ h = eqb-true (r.sample.0 + 1) h t in
      same l r.second (λ _ _. vote-level s ss lo j r l 1 fr el i (omega arith) (omega arith) (omega arith)) (λ q. absurd (omega arith)))
      (λ t.
      let nh : r.sample.0 + 1 ≡ h → ⊥ = eqb-false (r.sample.0 + 1) h t in
      pick_ind (λ (q : Reception). Next j q s) (eqb (r.sample.0 + 1) (h + 1)) _ _
      (λ u.
      let eh : r.sample.0 + 1 ≡ h + 1 = eqb-true (r.sample.0 + 1) (h + 1) u in
      same r.first l (λ _ _. i.first (omega arith) (omega arith))
      (λ _. vote-level s ss lo j r l 2 fr el i (omega arith) (omega arith) (omega arith)))
      (λ u.
      let nh1 : r.sample.0 + 1 ≡ h + 1 → ⊥ = eqb-false (r.sample.0 + 1) (h + 1) u in
      same r.first r.second (λ p q. absurd (neither p q nh nh1)) (λ q. absurd (nh1 q))))
    where
      neither : {n : ℕ} → h ≤ n → n ≤ h + 1 → (n ≡ h → ⊥) → (n ≡ h + 1 → ⊥) → ⊥
      neither {n} p q a b = elim (dec_lt h n) [ yes t ↦ b (omega arith) | no t ↦ a (omega arith) ]

      same : (a b : Bool) → (h ≤ r.sample.0 + 1 → r.sample.0 + 1 ≤ h + 1 → a ≡ shown_at f noise s r.bit 1)
          → (r.sample.0 + 1 ≡ h + 1 → b ≡ shown_at f noise s r.bit 2) → Next j (onward r a b r.word r.splits) s
      same a b ha hb =
          let v : voted_bits f r ≡ voted_bits f (onward r a b r.word r.splits) =
          sym (voted-on f r (onward r a b r.word r.splits) refl refl nv) in
          record {
            hi = i.hi;
            next = omega (arith, i.next);
            b_d = i.b_d;
            s_s = hs;
            end = λ q. omega (arith, i.end q);
            first = ha;
            second = hb;
            word = i.word ∙ ap (λ (n : ℕ). part_of D (word_of f s.«data») (n - 1)) v;
            splits = i.splits ∙ ap (bits_hit (noise s.start)) v;
          }

  -- a bit's last sample
  last-sample : (s : Sent) (j : ℕ) (r : Reception) → (i : InStep f c noise j 0 r s) → r.sample.0 + 1 ≡ 2 * h → Next j (next_bit_of f r) s
  unfolding next_bit_of
  last-sample s j r i e2 =
      let em : (r.sample.0 + 1) * M ≡ 2 * h * M = ap (λ (n : ℕ). n * M) e2 in
      let nb : r.bit ≤ D = ≤-of-not (λ q. omega (arith, i.end q, R.h4)) i.b_d in
      let q : Reception = record { bit = r.bit + 1; sample = record { 0 = 0 }; first = false; second = false; word = r.word; splits = r.splits } in
      let v : voted_bits f r ≡ voted_bits f q = voted-after f r (omega (arith, R.h4)) ∙ sym (voted-before f q (omega arith)) in
      rw (le-leb r.bit D nb)
      (record {
        hi = i.hi;
        next = omega (arith, i.next);
        b_d = omega (arith, nb);
        s_s = omega (arith, R.h4);
        end = λ _. omega arith;
        first = λ t _. absurd (omega (arith, R.h4));
        second = λ t. absurd (omega arith);
        word = i.word ∙ ap (λ (n : ℕ). part_of D (word_of f s.«data») (n - 1)) v;
        splits = i.splits ∙ ap (bits_hit (noise s.start)) v;
      })
    where
      ≤-of-not : {b : ℕ} → (b ≡ D + 1 → ⊥) → b ≤ D + 1 → b ≤ D
      ≤-of-not {b} n h = elim (dec_lt D b) [
        | yes q ↦ absurd (n (omega arith))
        | no q ↦ omega arith
      ]

  -- idle after a frame, at a clock before its end
  idle-after : (ss : List Sent) (lo j : ℕ) (l : Bool) → From D P Q lo ss → j * Q < lo → l ≡ true → Inv f c noise (suc j) c.ubrr (Idle l) ss
  idle-after [] lo j l fr h q = q
  idle-after (t ∷ ts) lo j l fr h q =
      let a : j < t.start = lt_of_mul-lt-mul_right Q (omega (arith, fr.0)) in
      (q, omega arith)

  -- the stop bit's last vote, by the sample l: the frame completes
  completes : (s : Sent) (j : ℕ) (r : Reception) (l m : Bool) (n : ℕ) → (i : InStep f c noise j 0 r s) → r.sample.0 ≡ h + 1
      → r.bit ≡ D + 1 → l ≡ true → m ≡ true → n ≡ bits_hit (noise s.start) (r.bit + 1) → Completes f c noise P Q j (Idle l) s r.word m n
  completes s j r l m n i es eb el em en =
      let a : ℕ = tick_from c s.start in
      let lo : s.start ≤ a = tick-from c s.start in
      let j0 : j ≡ a + (r.bit * (2 * h) + r.sample.0) * M = omega (arith, i.next) in
      let ej : j - s.start ≡ (a - s.start) + (r.bit * (2 * h) + r.sample.0) * M = omega arith in
      let low = vote-low R r.bit r.sample.0 (a - s.start) i.b_d (omega arith) in
      let bp : r.bit * P ≡ (D + 1) * P = ap (λ (n : ℕ). n * P) eb in
      let all : voted_bits f r - 1 ≡ D = omega (arith, voted-before f r (omega arith)) in
      record {
        bits = i.word ∙ ap (part_of D (word_of f s.«data»)) all ∙ part-all D (word_of f s.«data») (word_lt f s.«data»);
        high = em;
        count = en ∙ ap (bits_hit (noise s.start)) (omega arith);
        idle = ap Idle el;
        last = j0 ∙ ap (λ (x : ℕ). a + (x * (2 * h) + r.sample.0) * M) eb ∙ ap (λ (x : ℕ). a + ((D + 1) * (2 * h) + x) * M) es;
        began = omega arith;
        over = rw ej (omega arith);
        in_time = subst (λ (n : ℕ). (n - s.start) * Q < (D + 2) * P) (omega arith) (under-way s j 0 r i);
      }

  -- a bit's last vote, by the level l, with the majority m and n split votes then; what is then kept for votes does not
  -- matter
  last-vote : (s : Sent) (ss : List Sent) (lo j : ℕ) (r : Reception) (a b l m : Bool) (n : ℕ) → From D P Q lo (s ∷ ss)
      → (i : InStep f c noise j 0 r s) → r.sample.0 ≡ h + 1 → (r.bit ≡ D + 1 → l ≡ true) → m ≡ bit_of f s r.bit
      → n ≡ bits_hit (noise s.start) (r.bit + 1) → Good f c noise P Q j (s ∷ ss) (decided_of f (onward r a b r.word n) l m)
  unfolding decided_of
  last-vote s ss lo j r a b l m n fr i es el em en =
      let w : ℕ = word_of f s.«data» in
      let was : voted_bits f r ≡ r.bit = voted-before f r (omega arith) in
      pick_ind (Good f c noise P Q j (s ∷ ss)) (eqb r.bit 0) _ _
      (λ t.
      let e0 : r.bit ≡ 0 = eqb-true r.bit 0 t in
      let down : m ≡ false = em ∙ ap (bit_of f s) e0 ∙ start-bit D w in
      rw down (goes r.word (λ q. omega arith) (i.word ∙ ap (part_of D w) (omega arith))))
      (λ t.
      let n0 : r.bit ≡ 0 → ⊥ = eqb-false r.bit 0 t in
      pick_ind (Good f c noise P Q j (s ∷ ss)) (leb r.bit D) _ _
      (λ u.
      let hb : r.bit ≤ D = leb-true r.bit D u in
      let eb : suc (r.bit - 1) ≡ r.bit = omega arith in
      let bit : m ≡ eqb (w / 2 ^ (r.bit - 1) % 2) 1 = em ∙ ap (bit_of f s) (sym eb) ∙ word-bit D w (r.bit - 1) (omega arith) in
      let so : r.word ≡ part_of D w (r.bit - 1) = i.word ∙ ap (λ (k : ℕ). part_of D w (k - 1)) was in
      rw (shift-digit f (onward r a b r.word n) m)
      (goes (r.word / 2 + digit m * 2 ^ (D - 1)) (λ q. omega arith)
      (ap (λ (x : ℕ). x / 2 + digit m * 2 ^ (D - 1)) so ∙ part-more D w (r.bit - 1) m (omega arith) bit ∙ ap (part_of D w) eb)))
      (λ u.
      let eb : r.bit ≡ D + 1 = omega (arith, leb-false r.bit D u, i.b_d) in
      let up : m ≡ true = em ∙ stop-bit D w r.bit (omega arith) in
      let done = completes s j r l m n i es eb (el eb) up en in
      let z : j * Q ≡ (s.start + (j - s.start)) * Q = ap (λ (n : ℕ). n * Q) (omega (arith, done.began)) in
      (done, idle-after ss (s.start * Q + (D + 2) * P) j l fr.1 (omega (arith, done.in_time)) (el eb))))
    where
      goes : (x : ℕ) → (r.bit ≡ D + 1 → ⊥) → x ≡ part_of D (word_of f s.«data») r.bit → Next j (onward r a b x n) s
      goes x nb q =
          let now : voted_bits f (onward r a b x n) ≡ r.bit + 1 = voted-after f (onward r a b x n) (omega arith) in
          record {
            hi = i.hi;
            next = omega (arith, i.next);
            b_d = i.b_d;
            s_s = omega (arith, R.h4);
            end = λ e. absurd (nb e);
            first = λ _ t. absurd (omega arith);
            second = λ t. absurd (omega arith);
            word = q ∙ ap (part_of D (word_of f s.«data»)) (omega (arith, now));
            splits = en ∙ ap (bits_hit (noise s.start)) (sym now);
          }

  -- a sample that is not its bit's last
  vote-tick : (s : Sent) (ss : List Sent) (lo j : ℕ) (r : Reception) (l : Bool) → From D P Q lo (s ∷ ss)
      → l ≡ noisy_level f c P Q noise (s ∷ ss) j → (i : InStep f c noise j 0 r s) → r.sample.0 + 1 < 2 * h
      → Good f c noise P Q j (s ∷ ss) (voted_of f r (record { 0 = r.sample.0 + 1 }) l)
  unfolding voted_of
  vote-tick s ss lo j r l fr el i hs =
      pick_ind (Good f c noise P Q j (s ∷ ss)) (eqb (r.sample.0 + 1) (h + 2)) _ _
      (λ t.
      let es : r.sample.0 ≡ h + 1 = omega (arith, eqb-true (r.sample.0 + 1) (h + 2) t) in
      let v : ℕ = noise s.start r.bit in
      let third : l ≡ shown_at f noise s r.bit 3 = vote-level s ss lo j r l 3 fr el i (omega arith) (omega arith) (omega arith) in
      let right : vote_of r.first r.second l ≡ record { level = bit_of f s r.bit; unanimous = eqb v 0 } =
      vote-hit (bit_of f s r.bit) r.first r.second l v (allowed.votes s.start r.bit)
      (i.first (omega arith) (omega arith)) (i.second es) third in
      let was : r.splits ≡ bits_hit (noise s.start) r.bit = i.splits ∙ ap (bits_hit (noise s.start)) (voted-before f r (omega arith)) in
      let few : r.splits ≤ voted_bits f r = omega (arith, was, bits-hit-le (noise s.start) r.bit, voted-before f r (omega arith)) in
      let count : tally_of r.splits (vote_of r.first r.second l).unanimous ≡ bits_hit (noise s.start) (r.bit + 1) =
      ap (λ (x : Vote). tally_of r.splits x.unanimous) right
      ∙ tally-digit r.splits (eqb v 0) (below-most f r i.b_d (omega arith) few)
      ∙ ap (λ (n : ℕ). n + digit (not (eqb v 0))) was ∙ bits-hit-more (noise s.start) r.bit
      ∙ ap (bits_hit (noise s.start)) (omega arith) in
      last-vote s ss lo j r _ _ l (vote_of r.first r.second l).level _ fr i es
      (λ q.
      let stop : v ≡ noise s.start (D + 1) = ap (noise s.start) q in
      let unhit : eqb v 3 ≡ false = ne_eqb v 3 (λ z. omega (arith, allowed.stop s.start)) in
      third ∙ ap (λ (t : Bool). turn t (bit_of f s r.bit)) unhit ∙ stop-bit D (word_of f s.«data») r.bit (omega arith))
      (ap (λ (x : Vote). x.level) right) count)
      (λ t. plain-sample s ss lo j r l fr el i hs (eqb-false (r.sample.0 + 1) (h + 2) t))

  busy-tick : (s : Sent) (ss : List Sent) (lo j : ℕ) (r : Reception) (l : Bool) → From D P Q lo (s ∷ ss)
      → l ≡ noisy_level f c P Q noise (s ∷ ss) j → InStep f c noise j 0 r s → Good f c noise P Q j (s ∷ ss) (sampled_of f r l)
  unfolding sampled_of
  busy-tick s ss lo j r l fr el i =
      let es : samples f ≡ 2 * h = samples-half f in
      pick_ind (Good f c noise P Q j (s ∷ ss)) (ltb r.sample.0 (samples f - 1)) _ _
      (λ t. vote-tick s ss lo j r l fr el i (omega (arith, ltb-true r.sample.0 (samples f - 1) t)))
      (λ t. last-sample s j r i (omega (arith, ltb-false r.sample.0 (samples f - 1) t, i.s_s)))

  -- one tick
  pub tick-good : (ss : List Sent) (lo j : ℕ) (p : Sampler) (l : Bool) → From D P Q lo ss → l ≡ noisy_level f c P Q noise ss j
      → Phase c j 0 → Inv f c noise j 0 p ss → Good f c noise P Q j ss (sampler_of f p l)
  unfolding sampler_of idle_of line_level is_turned
  tick-good [] lo j (Idle last) l fr el ph i = rw (i, el)
  tick-good [] lo j (Receiving r) l fr el ph i = absurd i
  tick-good (s ∷ ss) lo j (Idle last) l fr el ph i = idle-tick s ss lo j last l fr el ph i
  tick-good (s ∷ ss) lo j (Receiving r) l fr el ph i = busy-tick s ss lo j r l fr el i
