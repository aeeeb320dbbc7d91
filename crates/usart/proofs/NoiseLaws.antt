-- Laws of the noise: which clocks it turns over, and how many bits it hits.
use mathlib.Core.Path.{◌≡◌, refl, ◌∙◌, sym, ap}
use mathlib.Core.Bool.{Bool, false, not}
use mathlib.Core.List.{List, [], ◌∷◌}
use mathlib.Core.Logic.{⊎_elim}
use Prim.Native.Nat.{ℕ, zero, suc, ◌+◌, ◌-◌, ◌*◌, ◌≤◌, ◌<◌}
use native.Mathlib.Nat.{mul-le-mul_right, lt_of_mul-lt-mul_right, eq-or-lt_of_le}
use native.Mathlib.Omega.{arith}
use lib.Dec.{eqb}
use borrow.Author.Tests.{eq-eqb, ne_eqb, eqb-true, eqb-false}
use Rattle.choice.specs.Pick.{digit}
use Rattle.choice.proofs.Picks.{pick_ind, pick-self, split}
use Rattle.choice.proofs.Digits.{digit-le}
use Rattle.frame.specs.Format.{first_vote, word_bits}
use Rattle.frame.specs.declared.format.Format.{Format}
use Rattle.frame.proofs.FormatLaws.{samples-half, first-vote-range}
use Rattle.usart.specs.Sending.{tick_from}
use Rattle.usart.specs.Line.{Sent}
use Rattle.usart.specs.Noise.{Noise, Allowed, vote_clock, is_hit, is_hit_below, is_turned, bits_hit, no_noise}
use Rattle.usart.specs.declared.baud.Baud.{Baud}
use Rattle.usart.proofs.LineLaws.{From}
use Rattle.usart.proofs.PositionLaws.{place-unique, same-ticks}
use Rattle.usart.proofs.TickLaws.{tick-from}

-- a bit is hit once at most
pub bits-hit-le : (hit : ℕ → ℕ) (k : ℕ) → bits_hit hit k ≤ k
unfolding bits_hit
bits-hit-le hit zero = omega arith
bits-hit-le hit (suc b) = omega (arith, bits-hit-le hit b, digit-le (not (eqb (hit b) 0)))

pub bits-hit-more : (hit : ℕ → ℕ) (b : ℕ) → bits_hit hit b + digit (not (eqb (hit b) 0)) ≡ bits_hit hit (suc b)
unfolding bits_hit
bits-hit-more hit b = refl

pub eqb-alike : (a b c d : ℕ) → (a ≡ b → c ≡ d) → (c ≡ d → a ≡ b) → eqb a b ≡ eqb c d
eqb-alike a b c d to from = split (eqb a b)
    (λ e. e ∙ sym (eq-eqb c d (to (eqb-true a b e))))
    (λ e. e ∙ sym (ne_eqb c d (λ q. eqb-false a b e (from q))))

-- vote v comes x samples after the first of its bit
pub vote-clock-half : (f : Format) (c : Baud) (n b v x : ℕ) → 1 ≤ v → x + 2 ≡ v + first_vote f
    → vote_clock f c n b v ≡ tick_from c n + (b * (2 * first_vote f) + x) * (c.ubrr + 1)
vote-clock-half f c n b v x v1 ex =
    let e : first_vote f + v - 1 - 1 ≡ x = omega arith in
    ap (λ (S : ℕ). tick_from c n + (b * S + (first_vote f + v - 1 - 1)) * (c.ubrr + 1)) (samples-half f)
    ∙ ap (λ (k : ℕ). tick_from c n + (b * (2 * first_vote f) + k) * (c.ubrr + 1)) e

module _ (f : Format) (c : Baud) (noise : Noise) where
  abbrev h : ℕ
  h = first_vote f

  abbrev M : ℕ
  M = c.ubrr + 1

  h4 : 4 ≤ h
  h4 = (first-vote-range f).0

  -- not hit where the clock of its hit vote, if it has one, is another; that vote comes x samples after the bit's first
  hit-not : (n b j : ℕ) → ((x : ℕ) → x + 2 ≡ noise n b + h → 1 ≤ noise n b → j ≡ tick_from c n + (b * (2 * h) + x) * M → ⊥) → is_hit f c noise n b j ≡ false
  hit-not n b j k =
      let v : ℕ = noise n b in
      pick_ind (λ (t : Bool). t ≡ false) (eqb v 0) _ _ (λ _. refl)
      (λ e.
      let v1 : 1 ≤ v = omega (arith, eqb-false v 0 e) in
      let ex : v + h - 2 + 2 ≡ v + h = omega (arith, h4) in
      ne_eqb j (vote_clock f c n b v) (λ q. k (v + h - 2) ex v1 (q ∙ vote-clock-half f c n b v (v + h - 2) v1 ex)))

  -- no vote comes within a tick of its frame's start
  hit-early : (n b j : ℕ) → j < n + M → is_hit f c noise n b j ≡ false
  hit-early n b j l = hit-not n b j (λ x ex v1 q. omega (arith, mul-le-mul_right M (more x b (omega (arith, h4))), tick-from c n))
    where
      more : (x b : ℕ) → 1 ≤ x → 1 ≤ b * (2 * h) + x
      more x b l = omega arith

  -- nor after the last vote of the stop bit
  hit-over : (D n b j : ℕ) → Allowed D noise → b < D + 2 → tick_from c n + ((D + 1) * (2 * h) + (h + 1)) * M < j → is_hit f c noise n b j ≡ false
  hit-over D n b j t b_d l = hit-not n b j (λ x ex v1 q.
      let y : b * (2 * h) ≤ (D + 1) * (2 * h) = mul-le-mul_right (2 * h) (omega arith) in
      omega (arith, mul-le-mul_right M (last x b (omega (arith, t.votes n b)) y)))
    where
      last : (x b : ℕ) → x ≤ h + 1 → b * (2 * h) ≤ (D + 1) * (2 * h) → b * (2 * h) + x ≤ (D + 1) * (2 * h) + (h + 1)
      last x b l m = omega arith

  -- at sample s + 1 of bit b no other bit is hit
  hit_other : (D n b s a j : ℕ) → Allowed D noise → s < 2 * h → j ≡ tick_from c n + (b * (2 * h) + s) * M → (a ≡ b → ⊥) → is_hit f c noise n a j ≡ false
  hit_other D n b s a j t s_s e ne = hit-not n a j (λ x ex v1 q.
      let x2 : x < 2 * h = omega (arith, h4, t.votes n a) in
      ne (place-unique (2 * h) a x b s x2 s_s (same-ticks c (tick_from c n) _ _ (sym q ∙ e))).0)

  -- and bit b is where the sample is the vote that is turned over
  hit-vote : (n b s j : ℕ) → h ≤ s + 1 → j ≡ tick_from c n + (b * (2 * h) + s) * M → is_hit f c noise n b j ≡ eqb (noise n b + h) (s + 2)
  hit-vote n b s j hs e =
      let v : ℕ = noise n b in
      pick_ind (λ (t : Bool). t ≡ eqb (v + h) (s + 2)) (eqb v 0) _ _
      (λ z. sym (ne_eqb (v + h) (s + 2) (λ q. omega (arith, eqb-true v 0 z))))
      (λ z.
      let v1 : 1 ≤ v = omega (arith, eqb-false v 0 z) in
      let ex : v + h - 2 + 2 ≡ v + h = omega (arith, h4) in
      let half = vote-clock-half f c n b v (v + h - 2) v1 ex in
      eqb-alike j (vote_clock f c n b v) (v + h) (s + 2)
      (λ q. omega (arith, ex, same-ticks c (tick_from c n) (b * (2 * h) + s) (b * (2 * h) + (v + h - 2)) (sym e ∙ q ∙ half)))
      (λ q.
      let g : s ≡ v + h - 2 = omega arith in
      e ∙ ap (λ (y : ℕ). tick_from c n + (b * (2 * h) + y) * M) g ∙ sym half))

  below_none : (n k j : ℕ) → ((b : ℕ) → b < k → is_hit f c noise n b j ≡ false) → is_hit_below f c noise n k j ≡ false
  unfolding is_hit_below
  below_none n zero j o = refl
  below_none n (suc k) j o = rw (o k (omega arith)) (below_none n k j (λ b l. o b (omega arith)))

  below_one : (n k b j : ℕ) → b < k → ((a : ℕ) → (a ≡ b → ⊥) → is_hit f c noise n a j ≡ false) → is_hit_below f c noise n k j ≡ is_hit f c noise n b j
  unfolding is_hit_below
  below_one n zero b j l o = absurd (omega arith)
  below_one n (suc k) b j l o =
      let w : b ≤ k = omega arith in
      ⊎_elim
      (λ e. rw (below_none n k j (λ a m. o a (λ q. omega arith)), e) (pick-self (is_hit f c noise n k j)))
      (λ m. rw (o k (λ q. omega arith)) (below_one n k b j m o))
      (eq-or-lt_of_le w)

-- without noise no level is turned over, and no bit is hit
pub turned_none : (f : Format) (c : Baud) (ss : List Sent) (j : ℕ) → is_turned f c no_noise ss j ≡ false
unfolding is_turned
turned_none f c [] j = refl
turned_none f c (s ∷ ss) j = rw (below_none f c no_noise s.start (word_bits f + 2) j (λ b _. refl)) (turned_none f c ss j)

pub none_allowed : (D : ℕ) → Allowed D no_noise
none_allowed D = record { votes = λ n b. omega arith; stop = λ n. omega arith }

pub bits_none : (k : ℕ) → bits_hit (λ b. 0) k ≡ 0
unfolding bits_hit
bits_none zero = refl
bits_none (suc k) = omega (arith, bits_none k)

module _ (f : Format) (c : Baud) (noise : Noise) (P Q : ℕ) where
  abbrev D : ℕ
  D = word_bits f

  abbrev T : ℕ
  T = c.ubrr + 1

  -- no noise before the first start
  pub turned-quiet : (lo : ℕ) (ss : List Sent) (j : ℕ) → From D P Q lo ss → j * Q < lo → is_turned f c noise ss j ≡ false
  unfolding is_turned
  turned-quiet lo [] j fr l = refl
  turned-quiet lo (s ∷ ss) j fr l =
      let a : j < s.start = lt_of_mul-lt-mul_right Q (omega (arith, fr.0)) in
      rw (below_none f c noise s.start (D + 2) j (λ b _. hit-early f c noise s.start b j (omega arith)))
      (turned-quiet (s.start * Q + (D + 2) * P) ss j fr.1 (omega (arith, fr.0)))

  -- and none up to the tick that finds the start bit
  pub turned-idle : (s : Sent) (ss : List Sent) (j : ℕ) → From D P Q (s.start * Q + (D + 2) * P) ss → j < s.start + T → T * Q < P
      → is_turned f c noise (s ∷ ss) j ≡ false
  unfolding is_turned
  turned-idle s ss j fr l m =
      rw (below_none f c noise s.start (D + 2) j (λ b _. hit-early f c noise s.start b j l))
      (turned-quiet (s.start * Q + (D + 2) * P) ss j fr (omega (arith, mul-le-mul_right Q l)))

  -- at sample n + 1 of bit b of the frame s, from the first vote on, the vote that is turned over is
  pub turned-vote : (s : Sent) (ss : List Sent) (b n j : ℕ) → Allowed D noise → From D P Q (s.start * Q + (D + 2) * P) ss → j * Q < s.start * Q + (D + 2) * P
      → b ≤ D + 1 → first_vote f ≤ n + 1 → n < 2 * first_vote f → j ≡ tick_from c s.start + (b * (2 * first_vote f) + n) * T
      → is_turned f c noise (s ∷ ss) j ≡ eqb (noise s.start b + first_vote f) (n + 2)
  unfolding is_turned
  turned-vote s ss b n j t fr l b_d hn n_s e =
      rw (
        turned-quiet (s.start * Q + (D + 2) * P) ss j fr l,
        below_one f c noise s.start (D + 2) b j (omega arith) (λ a o. hit_other f c noise D s.start b n a j t n_s e o),
        hit-vote f c noise s.start b n j hn e,
      )
      (pick-self (eqb (noise s.start b + first_vote f) (n + 2)))

  -- after the last vote of the frame s it has no more noise
  pub turned-past : (s : Sent) (ss : List Sent) (j : ℕ) → Allowed D noise
      → tick_from c s.start + ((D + 1) * (2 * first_vote f) + (first_vote f + 1)) * T < j → is_turned f c noise (s ∷ ss) j ≡ is_turned f c noise ss j
  unfolding is_turned
  turned-past s ss j t l = rw (below_none f c noise s.start (D + 2) j (λ b m. hit-over f c noise D s.start b j t m l))
