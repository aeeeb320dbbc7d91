-- One tick of the sampler keeps the invariant of demand 3: it is idle between frames, or in step with the frame on the
-- line.
use mathlib.Core.Path.{◌≡◌, refl, ◌∙◌, sym, ap}
use mathlib.Core.Bool.{Bool, true, false}
use mathlib.Core.List.{List, [], ◌∷◌}
use Prim.Native.Nat.{ℕ, suc, ◌+◌, ◌-◌, ◌*◌, ◌/◌, ◌%◌, ◌^◌, ◌≤◌, ◌<◌}
use native.Mathlib.Nat.{mul-le-mul_right, lt_of_mul-lt-mul_right, mod-one, mod-eq_of_lt, div-eq_of_lt}
use native.Mathlib.Numerals.{one-add}
use native.Mathlib.Decide.{dec_lt}
use native.Mathlib.Omega.{arith}
use lib.Dec.{leb, ltb, eqb}
use lib.Pow.{mod-pow-add, pow-add}
use borrow.Author.Tests.{le-leb, ltb-true, ltb-false, leb-true, leb-false, eqb-true, eqb-false}
use Rattle.choice.specs.Pick.{pick, digit}
use Rattle.choice.proofs.Digits.{digit-odd}
use Rattle.choice.proofs.Picks.{pick_ind, pick-split}
use Rattle.frame.specs.Format.{samples, first_vote, word_bits}
use Rattle.frame.specs.Vote.{vote_of}
use Rattle.frame.specs.Word.{word_of, frame_bit}
use Rattle.frame.specs.declared.format.Format.{Format}
use Rattle.frame.specs.declared.vote.Vote.{Vote}
use Rattle.frame.proofs.FormatLaws.{samples-half}
use Rattle.frame.proofs.WordLaws.{start-bit, word-bit, stop-bit, word_lt}
use Rattle.usart.specs.Sampler.{idle_of, cast_of, next_bit_of, tally_of, decided_of, voted_of, sampled_of}
use Rattle.usart.specs.Sampler.{sampler_of}
use Rattle.usart.specs.Line.{Sent, line_level}
use Rattle.usart.specs.declared.sampler.Reception.{Reception}
use Rattle.usart.specs.declared.sampler.Sampler.{Sampler}
use Rattle.usart.specs.declared.sampler.Sampler.TheVariants.{Idle, Receiving}
use Rattle.usart.specs.declared.sampler.Outcome.{Outcome}
use Rattle.usart.specs.declared.sampler.Outcome.TheVariants.{Nothing, Started, Complete}
use Rattle.usart.specs.declared.sampler.Sampled.{Sampled}
use Rattle.usart.proofs.ShiftLaws.{shift-digit}
use Rattle.usart.proofs.Rates.{Rates, tick-short, vote-low, vote-high, vote-bit}
use Rattle.usart.proofs.LineLaws.{From, before, within, quiet}
use Rattle.usart.proofs.Noise.{turn, Hits, unhit, hit_by, next_bit, hits, Allowed, hit-one, hit-vote, hit-stop, hit-idle}
use Rattle.usart.proofs.Noise.{differs, differs-turn, vote-right}
use Rattle.usart.proofs.CountedHits.{Counts, counts-plain, counts-vote, counts-next}

-- k bits of the word w, of D bits, shifted in at the top
abbrev pub part_of : ℕ → ℕ → ℕ → ℕ
part_of D w k = w % 2 ^ k * 2 ^ (D - k)

-- one more bit
pub part-more : (D w k : ℕ) (m : Bool) → k < D → m ≡ eqb (w / 2 ^ k % 2) 1 → part_of D w k / 2 + digit m * 2 ^ (D - 1) ≡ part_of D w (suc k)
part-more D w k m h em =
    let E : ℕ = D - suc k in
    let p1 : 2 ^ (D - k) ≡ 2 * 2 ^ E = ap (λ (n : ℕ). 2 ^ n) (omega arith) ∙ pow-add 2 1 E in
    let p2 : 2 ^ (D - 1) ≡ 2 ^ k * 2 ^ E = ap (λ (n : ℕ). 2 ^ n) (omega arith) ∙ pow-add 2 k E in
    let q : w % 2 ^ suc k ≡ w / 2 ^ k % 2 * 2 ^ k + w % 2 ^ k = rw (← one-add k) (mod-pow-add w 1 k) in
    let dm : digit m ≡ w / 2 ^ k % 2 = rw em (digit-odd (w / 2 ^ k)) in
    rw (p1, p2, q, dm) (omega arith)

pub part-all : (D w : ℕ) → w < 2 ^ D → part_of D w D ≡ w
part-all D w h =
    let e : D - D ≡ 0 = omega arith in
    rw (e, mod-eq_of_lt h) (omega arith)

-- in step with the frame s, whose first low sample was at clock a, before clock j and k clocks before the next tick; e
-- is what noise has hit of it
pub record InStep (f : Format) (M j k : ℕ) (r : Reception) (e : Hits) (s : Sent) : Type 0 where
  pub a : ℕ
  pub lo : s.start ≤ a
  pub hi : a < s.start + M
  pub next : j + k ≡ a + (r.bit * (2 * first_vote f) + r.sample.0) * M
  pub b_d : r.bit ≤ word_bits f + 1
  pub s_s : r.sample.0 < 2 * first_vote f
  pub end : r.bit ≡ word_bits f + 1 → r.sample.0 ≤ first_vote f + 1
  pub one : e.votes ≤ 1
  pub none : r.sample.0 + 1 ≤ first_vote f → e.votes ≡ 0
  pub first : r.sample.0 ≡ first_vote f → differs (frame_bit (word_bits f) (word_of f s.«data») r.bit) r.first ≡ e.votes
  pub second : r.sample.0 ≡ first_vote f + 1
      → differs (frame_bit (word_bits f) (word_of f s.«data») r.bit) r.first + differs (frame_bit (word_bits f) (word_of f s.«data») r.bit) r.second ≡ e.votes
  pub early : r.sample.0 ≤ first_vote f + 1 → r.word ≡ part_of (word_bits f) (word_of f s.«data») (r.bit - 1)
  pub late : first_vote f + 2 ≤ r.sample.0 → r.word ≡ part_of (word_bits f) (word_of f s.«data») r.bit
  pub counts : Counts f r e

-- idle between frames: the next tick comes within a tick of the next start
abbrev pub Inv : Format → ℕ → ℕ → ℕ → Sampler → Hits → List Sent → Type 0
Inv f M j k (Idle last) e [] = last ≡ true
Inv f M j k (Idle last) e (s ∷ ss) = (last ≡ true) × (j + k < s.start + M)
Inv f M j k (Receiving r) e [] = ⊥
Inv f M j k (Receiving r) e (s ∷ ss) = InStep f M j k r e s

-- the frame s completes at clock j, in its stop bit, with its word, a high stop bit and a split vote for each bit hit
pub record Completes (f : Format) (P Q j : ℕ) (s : Sent) (word : ℕ) (stop : Bool) (splits hit : ℕ) : Type 0 where
  pub bits : word ≡ word_of f s.«data»
  pub high : stop ≡ true
  pub count : splits ≡ hit
  pub began : s.start ≤ j
  pub over : (word_bits f + 1) * P ≤ (j - s.start) * Q
  pub in_time : (j - s.start) * Q < (word_bits f + 2) * P

abbrev pub GoodFor : Format → ℕ → ℕ → ℕ → ℕ → ℕ → Sampler → Hits → List Sent → Outcome → Type 0
GoodFor f M P Q j k p e ss Nothing = Inv f M (suc j) k p e ss
GoodFor f M P Q j k p e ss Started = Inv f M (suc j) k p e ss
GoodFor f M P Q j k p e [] (Complete word stop splits) = ⊥
GoodFor f M P Q j k p e (s ∷ ss) (Complete word stop splits) =
    Completes f P Q j s word stop splits e.bits × Inv f M (suc j) k p e ss

-- what a tick at clock j, with UBRR + 1 ≡ M, may lead to
abbrev pub Good : Format → ℕ → ℕ → ℕ → ℕ → ℕ → List Sent → Hits → Sampled → Type 0
Good f ubrr M P Q j ss e o = GoodFor f M P Q j ubrr o.sampler e ss o.outcome

-- no tick: the counter falls
pub keep : (f : Format) (M j k : ℕ) (p : Sampler) (e : Hits) (ss : List Sent) → Inv f M j (suc k) p e ss → Inv f M (suc j) k p e ss
keep f M j k (Idle last) e [] i = i
keep f M j k (Idle last) e (s ∷ ss) i = (i.0, omega (arith, i.1))
keep f M j k (Receiving r) e [] i = i
keep f M j k (Receiving r) e (s ∷ ss) i =
    record {
      a = i.a;
      lo = i.lo;
      hi = i.hi;
      next = omega (arith, i.next);
      b_d = i.b_d;
      s_s = i.s_s;
      end = i.end;
      one = i.one;
      none = i.none;
      first = i.first;
      second = i.second;
      early = i.early;
      late = i.late;
      counts = i.counts;
    }

module _ (f : Format) (ubrr P Q : ℕ) (R : Rates (first_vote f) (ubrr + 1) P Q (word_bits f)) where
  abbrev D : ℕ
  D = word_bits f

  abbrev h : ℕ
  h = first_vote f

  abbrev M : ℕ
  M = ubrr + 1

  -- the level that the frame s has in its bit b
  abbrev bit_in : Sent → ℕ → Bool
  bit_in s b = frame_bit D (word_of f s.«data») b

  -- a tick of the idle sampler
  idle-tick : (s : Sent) (ss : List Sent) (lo j : ℕ) (last l : Bool) → From D P Q lo (s ∷ ss) → l ≡ line_level f P Q (s ∷ ss) j
      → (e : Hits) → Inv f M j 0 (Idle last) e (s ∷ ss) → Good f ubrr M P Q j (s ∷ ss) unhit (idle_of last l)
  unfolding idle_of
  idle-tick s ss lo j last l fr el e i = elim (dec_lt j s.start) [
    | yes b ↦
        let z : suc j * Q ≤ s.start * Q = mul-le-mul_right Q (omega arith) in
        let up : l ≡ true = el ∙ before f P Q s ss j b ∙ quiet f P Q (s.start * Q + (D + 2) * P) ss j fr.1 (omega (arith, R.q1)) in
        rw (i.0, up) (refl, omega (arith, i.1))
    | no b ↦
        let x : (j - s.start) * Q ≤ ubrr * Q = mul-le-mul_right Q (omega (arith, i.1)) in
        let y : M * Q < P = tick-short R in
        let zero_bit : (j - s.start) * Q / P ≡ 0 = div-eq_of_lt (omega arith) in
        let down : l ≡ false = el ∙ within f P Q s ss j (omega arith) (omega arith) ∙ ap (bit_in s) zero_bit ∙ start-bit D (word_of f s.«data») in
        rw (i.0, down)
        (record {
          a = j;
          lo = omega arith;
          hi = omega (arith, i.1);
          next = omega arith;
          b_d = omega arith;
          s_s = omega (arith, R.h4);
          end = λ e. omega (arith, R.h4);
          one = omega arith;
          none = λ _. refl;
          first = λ t. absurd (omega (arith, R.h4));
          second = λ t. absurd (omega (arith, R.h4));
          early = λ _. rw (mod-one (word_of f s.«data»)) (omega arith);
          late = λ t. absurd (omega (arith, R.h4));
          counts = record { few = omega arith; undecided = λ _. refl; decided = λ t. absurd (omega (arith, R.h4)) };
        })
  ]

  -- the clock of a voting sample lies in its bit
  vote-clock : (s : Sent) (j : ℕ) (r : Reception) (e : Hits) (i : InStep f M j 0 r e s) → r.sample.0 ≤ h + 1 → (j - s.start) * Q < (D + 2) * P
  vote-clock s j r e i hs =
      let t = vote-high R r.bit r.sample.0 (i.a - s.start) i.b_d hs (omega (arith, i.hi, i.lo)) in
      let u = mul-le-mul_right P i.b_d in
      let ej : j - s.start ≡ (i.a - s.start) + (r.bit * (2 * h) + r.sample.0) * M = omega (arith, i.next, i.lo) in
      rw ej (omega arith)

  -- the level at a voting sample
  vote-level : (s : Sent) (ss : List Sent) (j : ℕ) (r : Reception) (e : Hits) (n l : Bool) → l ≡ turn n (line_level f P Q (s ∷ ss) j)
      → (i : InStep f M j 0 r e s) → h ≤ r.sample.0 + 1 → r.sample.0 ≤ h + 1 → l ≡ turn n (bit_in s r.bit)
  vote-level s ss j r e n l el i hs hs' =
      let ej : j - s.start ≡ (i.a - s.start) + (r.bit * (2 * h) + r.sample.0) * M = omega (arith, i.next, i.lo) in
      let floor : (j - s.start) * Q / P ≡ r.bit =
      rw ej (vote-bit R r.bit r.sample.0 (i.a - s.start) i.b_d hs hs' (omega (arith, i.hi, i.lo))) in
      el ∙ ap (turn n) (within f P Q s ss j (omega (arith, i.next, i.lo)) (vote-clock s j r e i hs') ∙ ap (bit_in s) floor)

  -- the reception after one more sample of the same bit
  abbrev onward : Reception → Bool → Bool → ℕ → ℕ → Reception
  onward r a b x c = record { bit = r.bit; sample = record { 0 = r.sample.0 + 1 }; first = a; second = b; word = x; splits = c }

  same_bit : (s : Sent) (j : ℕ) (r : Reception) (e : Hits) (a b : Bool) (x c : ℕ) (e' : Hits) → InStep f M j 0 r e s → r.sample.0 + 1 < 2 * h
      → (r.bit ≡ D + 1 → r.sample.0 + 1 ≤ h + 1) → e'.votes ≤ 1 → (r.sample.0 + 1 + 1 ≤ h → e'.votes ≡ 0)
      → (r.sample.0 + 1 ≡ h → differs (bit_in s r.bit) a ≡ e'.votes)
      → (r.sample.0 + 1 ≡ h + 1 → differs (bit_in s r.bit) a + differs (bit_in s r.bit) b ≡ e'.votes)
      → (r.sample.0 + 1 ≤ h + 1 → x ≡ part_of D (word_of f s.«data») (r.bit - 1))
      → (h + 2 ≤ r.sample.0 + 1 → x ≡ part_of D (word_of f s.«data») r.bit)
      → Counts f (onward r a b x c) e' → InStep f M (suc j) ubrr (onward r a b x c) e' s
  same_bit s j r e a b x c e' i hs he h1 h0 hf hs2 hx hx' hc =
      record {
        a = i.a;
        lo = i.lo;
        hi = i.hi;
        next = omega (arith, i.next);
        b_d = i.b_d;
        s_s = hs;
        end = he;
        one = h1;
        none = h0;
        first = hf;
        second = hs2;
        early = hx;
        late = hx';
        counts = hc;
      }

  -- a sample that is not a bit's last vote and not its last
  plain-sample : (s : Sent) (ss : List Sent) (j : ℕ) (r : Reception) (e : Hits) (n l : Bool) → l ≡ turn n (line_level f P Q (s ∷ ss) j)
      → Allowed f (Receiving r) e n → (i : InStep f M j 0 r e s) → r.sample.0 + 1 < 2 * h → (r.sample.0 + 1 ≡ h + 2 → ⊥)
      → InStep f M (suc j) ubrr (cast_of f r (record { 0 = r.sample.0 + 1 }) l) (hit_by e n) s
  unfolding cast_of
  plain-sample s ss j r e n l el al i hs nv =
      let one : e.votes + digit n ≤ 1 = hit-one f r e n al i.one in
      let count : (a b : Bool) → Counts f (onward r a b r.word r.splits) (hit_by e n) =
      λ a b. counts-plain f r (onward r a b r.word r.splits) e i.counts n al nv refl refl refl in
      let fine : r.bit ≡ D + 1 → r.sample.0 + 1 ≤ h + 1 = λ q. omega (arith, i.end q) in
      let vote : h ≤ r.sample.0 + 1 → r.sample.0 ≤ h + 1 → differs (bit_in s r.bit) l ≡ digit n =
      λ p q. differs-turn (bit_in s r.bit) n l (vote-level s ss j r e n l el i p q) in
      pick_ind (λ (q : Reception). InStep f M (suc j) ubrr q (hit_by e n) s) (eqb (r.sample.0 + 1) h) _ _
      (λ t.
      let eh : r.sample.0 + 1 ≡ h = eqb-true (r.sample.0 + 1) h t in
      same_bit s j r e l r.second r.word r.splits (hit_by e n) i hs fine one (λ q. absurd (omega arith))
      (λ q. omega (arith, vote (omega arith) (omega arith), i.none (omega arith)))
      (λ q. absurd (omega arith))
      (λ q. i.early (omega arith)) (λ q. absurd (omega arith)) (count l r.second))
      (λ t.
      let nh : r.sample.0 + 1 ≡ h → ⊥ = eqb-false (r.sample.0 + 1) h t in
      pick_ind (λ (q : Reception). InStep f M (suc j) ubrr q (hit_by e n) s) (eqb (r.sample.0 + 1) (h + 1)) _ _
      (λ u.
      let eh : r.sample.0 + 1 ≡ h + 1 = eqb-true (r.sample.0 + 1) (h + 1) u in
      same_bit s j r e r.first l r.word r.splits (hit_by e n) i hs fine one (λ q. absurd (omega arith))
      (λ q. absurd (nh q))
      (λ q. omega (arith, vote (omega arith) (omega arith), i.first (omega arith)))
      (λ q. i.early (omega arith)) (λ q. absurd (omega arith)) (count r.first l))
      (λ u.
      let nh1 : r.sample.0 + 1 ≡ h + 1 → ⊥ = eqb-false (r.sample.0 + 1) (h + 1) u in
      same_bit s j r e r.first r.second r.word r.splits (hit_by e n) i hs fine one
      (λ q. omega (arith, i.none (omega arith), hit-vote f r e n al (omega arith)))
      (λ q. absurd (nh q)) (λ q. absurd (nh1 q)) (λ q. i.early (omega arith)) (λ q. i.late (omega arith))
      (count r.first r.second)))

  -- a bit's last sample
  last-sample : (s : Sent) (j : ℕ) (r : Reception) (e : Hits) → (i : InStep f M j 0 r e s) → r.sample.0 + 1 ≡ 2 * h
      → InStep f M (suc j) ubrr (next_bit_of f r) (next_bit e) s
  unfolding next_bit_of
  last-sample s j r e i e2 =
      let em : (r.sample.0 + 1) * M ≡ 2 * h * M = ap (λ (n : ℕ). n * M) e2 in
      let nb : r.bit ≤ D = ≤-of-not (λ q. omega (arith, i.end q, R.h4)) i.b_d in
      rw (le-leb r.bit D nb)
      (record {
        a = i.a;
        lo = i.lo;
        hi = i.hi;
        next = omega (arith, i.next);
        b_d = omega (arith, nb);
        s_s = omega (arith, R.h4);
        end = λ _. omega arith;
        one = omega arith;
        none = λ _. refl;
        first = λ t. absurd (omega (arith, R.h4));
        second = λ t. absurd (omega arith);
        early = λ _. i.late (omega (arith, R.h4)) ∙ ap (part_of D (word_of f s.«data»)) (omega arith);
        late = λ w. absurd (omega arith);
        counts = counts-next f r _ e i.counts (omega (arith, R.h4)) refl refl refl;
      })
    where
      ≤-of-not : {b : ℕ} → (b ≡ D + 1 → ⊥) → b ≤ D + 1 → b ≤ D
      ≤-of-not {b} n h = elim (dec_lt D b) [
        | yes q ↦ absurd (n (omega arith))
        | no q ↦ omega arith
      ]

  -- idle after a frame, at a clock before its end
  idle-after : (ss : List Sent) (lo j : ℕ) (e : Hits) (l : Bool) → From D P Q lo ss → j * Q < lo → l ≡ true → Inv f M (suc j) ubrr (Idle l) e ss
  idle-after [] lo j e l fr h q = q
  idle-after (t ∷ ts) lo j e l fr h q =
      let a : j < t.start = lt_of_mul-lt-mul_right Q (omega (arith, fr.0)) in
      (q, omega arith)

  -- the stop bit's last vote: the frame completes
  completes : (s : Sent) (j : ℕ) (r : Reception) (e : Hits) (m : Bool) (c hit : ℕ) → (i : InStep f M j 0 r e s) → r.sample.0 ≡ h + 1
      → r.bit ≡ D + 1 → m ≡ true → c ≡ hit → Completes f P Q j s r.word m c hit
  completes s j r e m c hit i es eb em ec =
      let ej : j - s.start ≡ (i.a - s.start) + (r.bit * (2 * h) + r.sample.0) * M = omega (arith, i.next, i.lo) in
      let low = vote-low R r.bit r.sample.0 (i.a - s.start) i.b_d (omega arith) in
      let bp : r.bit * P ≡ (D + 1) * P = ap (λ (n : ℕ). n * P) eb in
      record {
        bits = i.early (omega arith) ∙ ap (part_of D (word_of f s.«data»)) (omega arith) ∙ part-all D (word_of f s.«data») (word_lt f s.«data»);
        high = em;
        count = ec;
        began = omega (arith, i.next, i.lo);
        over = rw ej (omega arith);
        in_time = vote-clock s j r e i (omega arith);
      }

  -- a bit's last vote, by the level l, with the majority m and c split votes then; what is then kept for votes does not
  -- matter
  last-vote : (s : Sent) (ss : List Sent) (lo j : ℕ) (r : Reception) (e : Hits) (a b l m : Bool) (c : ℕ) (e' : Hits) → From D P Q lo (s ∷ ss)
      → (i : InStep f M j 0 r e s) → r.sample.0 ≡ h + 1 → e'.votes ≤ 1 → (r.bit ≡ D + 1 → l ≡ true) → m ≡ bit_in s r.bit
      → ((x : ℕ) → Counts f (onward r a b x c) e') → Good f ubrr M P Q j (s ∷ ss) e' (decided_of f (onward r a b r.word c) l m)
  unfolding decided_of
  last-vote s ss lo j r e a b l m c e' fr i es h1 el em ct =
      let w : ℕ = word_of f s.«data» in
      let goes : (x : ℕ) → (r.bit ≡ D + 1 → ⊥) → x ≡ part_of D w r.bit → InStep f M (suc j) ubrr (onward r a b x c) e' s =
      λ x nb q. same_bit s j r e a b x c e' i (omega (arith, R.h4)) (λ eb. absurd (nb eb)) h1 (λ t. absurd (omega arith))
      (λ t. absurd (omega arith)) (λ t. absurd (omega arith)) (λ t. absurd (omega arith)) (λ _. q) (ct x) in
      pick_ind (Good f ubrr M P Q j (s ∷ ss) e') (eqb r.bit 0) _ _
      (λ t.
      let e0 : r.bit ≡ 0 = eqb-true r.bit 0 t in
      let down : m ≡ false = em ∙ ap (bit_in s) e0 ∙ start-bit D w in
      rw down (goes r.word (λ q. omega arith) (i.early (omega arith) ∙ ap (part_of D w) (omega arith))))
      (λ t.
      let n0 : r.bit ≡ 0 → ⊥ = eqb-false r.bit 0 t in
      pick_ind (Good f ubrr M P Q j (s ∷ ss) e') (leb r.bit D) _ _
      (λ u.
      let hb : r.bit ≤ D = leb-true r.bit D u in
      let eb : suc (r.bit - 1) ≡ r.bit = omega arith in
      let bit : m ≡ eqb (w / 2 ^ (r.bit - 1) % 2) 1 = em ∙ ap (bit_in s) (sym eb) ∙ word-bit D w (r.bit - 1) (omega arith) in
      rw (shift-digit f (onward r a b r.word c) m)
      (goes (r.word / 2 + digit m * 2 ^ (D - 1)) (λ q. omega arith)
      (ap (λ (x : ℕ). x / 2 + digit m * 2 ^ (D - 1)) (i.early (omega arith)) ∙ part-more D w (r.bit - 1) m (omega arith) bit ∙ ap (part_of D w) eb)))
      (λ u.
      let eb : r.bit ≡ D + 1 = omega (arith, leb-false r.bit D u, i.b_d) in
      let up : m ≡ true = em ∙ stop-bit D w r.bit (omega arith) in
      let done = completes s j r e m c e'.bits i es eb up ((ct r.word).decided (omega arith)) in
      let z : j * Q ≡ (s.start + (j - s.start)) * Q = ap (λ (n : ℕ). n * Q) (omega (arith, done.began)) in
      (done, idle-after ss (s.start * Q + (D + 2) * P) j e' l fr.1 (omega (arith, done.in_time)) (el eb))))

  -- a sample that is not its bit's last
  vote-tick : (s : Sent) (ss : List Sent) (lo j : ℕ) (r : Reception) (e : Hits) (n l : Bool) → From D P Q lo (s ∷ ss)
      → l ≡ turn n (line_level f P Q (s ∷ ss) j) → Allowed f (Receiving r) e n → (i : InStep f M j 0 r e s) → r.sample.0 + 1 < 2 * h
      → Good f ubrr M P Q j (s ∷ ss) (hit_by e n) (voted_of f r (record { 0 = r.sample.0 + 1 }) l)
  unfolding voted_of
  vote-tick s ss lo j r e n l fr el al i hs =
      pick_ind (Good f ubrr M P Q j (s ∷ ss) (hit_by e n)) (eqb (r.sample.0 + 1) (h + 2)) _ _
      (λ t.
      let es : r.sample.0 ≡ h + 1 = omega (arith, eqb-true (r.sample.0 + 1) (h + 2) t) in
      let eb : l ≡ turn n (bit_in s r.bit) = vote-level s ss j r e n l el i (omega arith) (omega arith) in
      let h1 : e.votes + digit n ≤ 1 = hit-one f r e n al i.one in
      let B : Bool = bit_in s r.bit in
      let hit : differs B r.first + differs B r.second + differs B l ≡ e.votes + digit n =
      omega (arith, i.second es, differs-turn B n l eb) in
      let vote : Vote = vote_of r.first r.second l in
      let right : vote ≡ record { level = B; unanimous = eqb (e.votes + digit n) 0 } =
      vote-right B r.first r.second l (omega arith) ∙ ap (λ (k : ℕ). record { level = B; unanimous = eqb k 0 }) hit in
      last-vote s ss lo j r e _ _ l vote.level _ (hit_by e n) fr i es h1
      (λ q. eb ∙ ap (λ (z : Bool). turn z (bit_in s r.bit)) (hit-stop f r e n al q es) ∙ stop-bit D (word_of f s.«data») r.bit (omega arith))
      (ap (λ (v : Vote). v.level) right)
      (λ x. counts-vote f r _ e i.counts n i.b_d es h1 refl refl (ap (λ (v : Vote). tally_of r.splits v.unanimous) right)))
      (λ t. plain-sample s ss j r e n l el al i hs (eqb-false (r.sample.0 + 1) (h + 2) t))

  busy-tick : (s : Sent) (ss : List Sent) (lo j : ℕ) (r : Reception) (e : Hits) (n l : Bool) → From D P Q lo (s ∷ ss)
      → l ≡ turn n (line_level f P Q (s ∷ ss) j) → Allowed f (Receiving r) e n → InStep f M j 0 r e s
      → Good f ubrr M P Q j (s ∷ ss) (hits f (Receiving r) e n) (sampled_of f r l)
  unfolding sampled_of
  busy-tick s ss lo j r e n l fr el al i =
      let es : samples f ≡ 2 * h = samples-half f in
      pick-split (λ (t : Bool) (o : Sampled). Good f ubrr M P Q j (s ∷ ss) (pick t (hit_by e n) (next_bit e)) o) (ltb r.sample.0 (samples f - 1)) _ _
      (λ t. vote-tick s ss lo j r e n l fr el al i (omega (arith, ltb-true r.sample.0 (samples f - 1) t)))
      (λ t. last-sample s j r e i (omega (arith, ltb-false r.sample.0 (samples f - 1) t, i.s_s)))

  -- one tick
  pub tick-good : (ss : List Sent) (lo j : ℕ) (p : Sampler) (e : Hits) (n l : Bool) → From D P Q lo ss → l ≡ turn n (line_level f P Q ss j)
      → Allowed f p e n → Inv f M j 0 p e ss → Good f ubrr M P Q j ss (hits f p e n) (sampler_of f p l)
  unfolding sampler_of idle_of line_level
  tick-good [] lo j (Idle last) e n l fr el al i = rw (i, el ∙ hit-idle f last e n true al)
  tick-good [] lo j (Receiving r) e n l fr el al i = absurd i
  tick-good (s ∷ ss) lo j (Idle last) e n l fr el al i =
      idle-tick s ss lo j last l fr (el ∙ hit-idle f last e n (line_level f P Q (s ∷ ss) j) al) e i
  tick-good (s ∷ ss) lo j (Receiving r) e n l fr el al i = busy-tick s ss lo j r e n l fr el al i
