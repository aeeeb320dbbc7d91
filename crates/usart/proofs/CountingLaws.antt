-- Clocks that only count: each comes to what `clock_of` says at either level of RxD, and many at once to as many one by
-- one. They hold of every unit, also one out of its ranges.
use mathlib.Core.Path.{◌≡◌, refl, ap, sym, ◌∙◌}
use mathlib.Core.Bool.{Bool, true, false}
use mathlib.Core.Logic.{◌⊎◌, inl, inr, ⊎_elim}
use Prim.Native.Nat.{ℕ, zero, suc, ◌+◌, ◌-◌, ◌*◌, ◌≤◌, ◌<◌}
use native.Mathlib.Omega.{arith}
use lib.Dec.{eqb, ltb}
use borrow.Author.Tests.{eq-eqb, ne_eqb, lt-ltb, le-ltb, eqb-true, ltb-true, ltb-false}
use Rattle.std.proofs.Common.{None, Option, Some}
use Rattle.std.specs.Prelude.{cond}
use Rattle.std.specs.Ordering.{is_lt, nat_cmp, ord_min}
use Rattle.span.specs.declared.Span.{Span}
use Rattle.span.specs.contracts.SpanOrd.TheImpl as of_span
use Rattle.choice.proofs.Picks.{pick_ind, split}
use Rattle.frame.specs.Format.{samples, first_vote}
use Rattle.frame.specs.declared.format.Format.{Format}
use Rattle.frame.proofs.FormatLaws.{samples-half}
use Rattle.usart.specs.Baud.{ticks, left_of, ticks_in}
use Rattle.usart.specs.Sender.{is_resting, stepped_of, sender_of, txd_of}
use Rattle.usart.specs.Sampler.{still, cast_of, voted_of, sampled_of, sampler_of}
use Rattle.usart.specs.Receiver.{put_of, listened_of}
use Rattle.usart.specs.Unit.{clock_of, is_driven, output_of}
use Rattle.usart.specs.Counting.{least, sender_quiet, bit_quiet, sampler_quiet, receiver_quiet, quiet_of}
use Rattle.usart.specs.Counting.{counted_shifter, counted_sender, counted_sampler, counted_receiver, counted_baud}
use Rattle.usart.specs.Counting.{counted_of}
use Rattle.usart.specs.declared.baud.Baud.{Baud}
use Rattle.usart.specs.declared.sender.Transmission.{Transmission}
use Rattle.usart.specs.declared.sender.Sender.{Sender}
use Rattle.usart.specs.declared.sampler.Sampler.{Sampler}
use Rattle.usart.specs.declared.sampler.Sampler.TheVariants.{Idle, Receiving}
use Rattle.usart.specs.declared.sampler.Sampled.{Sampled}
use Rattle.usart.specs.declared.receiver.Receiver.{Receiver}
use Rattle.usart.specs.declared.tick.Ticks.{Ticks}
use Rattle.usart.specs.contracts.tick.TicksOrd.TheImpl as of_ticks
use Rattle.usart.specs.declared.unit.Usart.{Usart}
use Rattle.usart.proofs.ClockLaws.{with, same_parts}

pub least-le : (n a b : ℕ) → n ≤ least a b → (n ≤ a) × (n ≤ b)
unfolding least
least-le n a b =
    pick_ind (λ (m : ℕ). n ≤ m → (n ≤ a) × (n ≤ b)) (ltb a b) a b
    (λ e h. (h, omega (arith, ltb-true a b e)))
    (λ e h. (omega (arith, ltb-false a b e), h))

-- the lesser of two counts, as the code takes it
min-least : {X : Type 0} (count : X → ℕ) (a b : X) → count (cond (is_lt (nat_cmp (count b) (count a))) b a) ≡ least (count a) (count b)
unfolding least
min-least count a b =
    split (ltb (count b) (count a))
    (λ e. rw (e, le-ltb (count a) (count b) (omega (arith, ltb-true (count b) (count a) e))))
    (λ e.
    let rest : count a ≡ least (count a) (count b) = pick_ind (λ (m : ℕ). count a ≡ m) (ltb (count a) (count b)) _ _ (λ _. refl) (λ q. omega (arith, ltb-false (count b) (count a) e, ltb-false (count a) (count b) q)) in
    split (eqb (count b) (count a)) (λ q. rw (e, q) rest) (λ q. rw (e, q) rest))

pub least-ticks : {t : Ticks} (a b : Ticks) → t ≡ ord_min of_ticks.cmp-value.it a b → t.0 ≡ least a.0 b.0
least-ticks a b e = ap (λ (x : Ticks). x.0) e ∙ min-least (λ (x : Ticks). x.0) a b

pub least-span : {t : Span} (a b : Span) → t ≡ ord_min of_span.cmp-value.it a b → t.0 ≡ least a.0 b.0
least-span a b e = ap (λ (x : Span). x.0) e ∙ min-least (λ (x : Span). x.0) a b

le-least : (n a b : ℕ) → n ≤ a → n ≤ b → n ≤ least a b
unfolding least
le-least n a b p q = pick_ind (λ (m : ℕ). n ≤ m) (ltb a b) a b (λ _. p) (λ _. q)

-- at UBRR 0 every clock is a tick
pub every-clock : (n : ℕ) (b : Baud) → b.ubrr ≡ 0 → b.left.0 ≡ 0 → n ≡ ticks_in b n
unfolding ticks_in left_of
every-clock zero b z l = refl
every-clock (suc n) b z l =
    let e = every-clock n (record { ubrr = b.ubrr; left = record { 0 = b.ubrr } }) z z in rw l (omega (arith, e))

pub every-tick : (ubrr : ℕ) {n k : ℕ} → ubrr ≡ 0 → n ≡ k * (ubrr + 1) → n ≡ k
every-tick ubrr z e = e ∙ rw z (omega arith)

module _ (f : Format) where
  pub sender-clock : (s : Sender) → 1 ≤ sender_quiet f s.buffer s.shifter → sender_of f s ≡ counted_sender s 1
  unfolding sender_quiet stepped_of
  sender-clock s h = by s.buffer s.shifter s.txc h
    where
      by : (b : Option ℕ) (x : Option Transmission) (c : Bool) → 1 ≤ sender_quiet f b x
          → sender_of f (record { buffer = b; shifter = x; txc = c }) ≡ counted_sender (record { buffer = b; shifter = x; txc = c }) 1
      by None None c h = refl
      by (Some d) None c h = absurd (omega arith)
      by b (Some t) c h = rw (lt-ltb t.sample.0 (samples f - 1) (omega arith))

  pub sender-after : (b : Option ℕ) (s : Option Transmission) (k : ℕ) → suc k ≤ sender_quiet f b s → k ≤ sender_quiet f b (counted_shifter s 1)
  unfolding sender_quiet
  sender-after b None k h = omega arith
  sender-after b (Some t) k h = omega arith

  -- k more samples of a bit with n taken: they end before its last, and none of them votes
  record Silent (n k : ℕ) : Type 0 where
    pub inner : n + k < samples f
    pub votes : (n + k < first_vote f) ⊎ (first_vote f + 2 ≤ n)

  silent : (n k : ℕ) → suc k ≤ bit_quiet f n → Silent n (suc k)
  unfolding bit_quiet
  silent n k =
      pick_ind (λ (m : ℕ). suc k ≤ m → Silent n (suc k)) (ltb n (first_vote f)) _ _
      (λ e h. record { inner = omega (arith, samples-half f); votes = inl (omega arith) })
      (λ e. pick_ind (λ (m : ℕ). suc k ≤ m → Silent n (suc k)) (ltb n (first_vote f + 2)) _ _
      (λ g h. absurd (omega arith))
      (λ g h. record { inner = omega arith; votes = inr (ltb-false n (first_vote f + 2) g) }))

  bit-after : (n k : ℕ) → suc k ≤ bit_quiet f n → k ≤ bit_quiet f (n + 1)
  unfolding bit_quiet
  bit-after n k h =
      let z = silent n k h in
      ⊎_elim
      (λ a. rw (lt-ltb (n + 1) (first_vote f) (omega arith)) (omega arith))
      (λ a. rw (le-ltb (n + 1) (first_vote f) (omega arith), le-ltb (n + 1) (first_vote f + 2) (omega arith)) (omega (arith, z.inner)))
      z.votes

  sampler-clock : (s : Sampler) (l : Bool) → 1 ≤ sampler_quiet f s → sampler_of f s l ≡ still (counted_sampler s 1)
  unfolding sampler_of sampled_of voted_of cast_of
  sampler-clock (Idle last) l h = absurd (omega arith)
  sampler-clock (Receiving r) l h =
      let z = silent r.sample.0 0 h in
      let no-vote : (m : ℕ) → first_vote f ≤ m → m ≤ first_vote f + 2 → eqb (r.sample.0 + 1) m ≡ false =
      λ m lo hi. ne_eqb (r.sample.0 + 1) m (λ q. ⊎_elim (λ a. omega arith) (λ a. omega arith) z.votes) in
      rw (
        lt-ltb r.sample.0 (samples f - 1) (omega (arith, z.inner)),
        no-vote (first_vote f + 2) (omega arith) (omega arith),
        no-vote (first_vote f) (omega arith) (omega arith),
        no-vote (first_vote f + 1) (omega arith) (omega arith),
      )

  sampler-after : (s : Sampler) (k : ℕ) → suc k ≤ sampler_quiet f s → k ≤ sampler_quiet f (counted_sampler s 1)
  sampler-after (Idle last) k h = absurd (omega arith)
  sampler-after (Receiving r) k h = bit-after r.sample.0 k h

  pub receiver-clock : (rxen : Bool) (r : Receiver) (l : Bool) → 1 ≤ receiver_quiet rxen f r → listened_of rxen f r l ≡ counted_receiver rxen r 1
  unfolding receiver_quiet listened_of counted_receiver
  receiver-clock true r l h =
      let next : Sampled → Receiver = λ o. record { sampler = o.sampler; queue = put_of f r.queue o.outcome } in
      ap next (sampler-clock r.sampler l h)
  receiver-clock false r l h = refl

  pub receiver-after : (rxen : Bool) (r : Receiver) (k : ℕ) → suc k ≤ receiver_quiet rxen f r → k ≤ receiver_quiet rxen f (counted_receiver rxen r 1)
  unfolding receiver_quiet counted_receiver
  receiver-after true r k h = sampler-after r.sampler k h
  receiver-after false r k h = omega arith

-- at a tick: both parts have n ticks that only count and, if there is one, every clock is a tick
pub record Ticking (u : Usart) (n : ℕ) : Type 0 where
  pub every : 1 ≤ n → u.baud.ubrr ≡ 0
  pub sender : n ≤ sender_quiet u.format u.sender.buffer u.sender.shifter
  pub receiver : n ≤ receiver_quiet u.control.rxen u.format u.receiver

pub ticking : (u : Usart) (n : ℕ) → ticks u.baud ≡ true → n ≤ quiet_of u → Ticking u n
unfolding quiet_of
ticking u n e h =
    pick_ind (λ (m : ℕ). n ≤ m → Ticking u n) (eqb u.baud.ubrr 0) _ _
    (λ z q. record { every = λ _. eqb-true u.baud.ubrr 0 z; sender = (least-le n _ _ q).0; receiver = (least-le n _ _ q).1 })
    (λ z q. record { every = λ o. absurd (omega arith); sender = omega arith; receiver = omega arith })
    (rw e at h)

-- and so many of them as there are clocks
pub all-ticks : (u : Usart) {n k : ℕ} → ticks u.baud ≡ true → 1 ≤ n → n ≤ quiet_of u → k ≡ ticks_in u.baud n → k ≡ n
all-ticks u {n} e o h q =
    q ∙ sym (every-clock n u.baud ((ticking u n e h).every o) (eqb-true u.baud.left.0 0 e))

pub waiting : (u : Usart) (n : ℕ) → ticks u.baud ≡ false → n ≤ quiet_of u → n ≤ u.baud.left.0
unfolding quiet_of
waiting u n e h = rw e at h

pub least-low : (a b : ℕ) → least a b ≤ a
least-low a b = (least-le (least a b) a b (omega arith)).0

pub rest-stays : (s : Sender) (n : ℕ) → s.shifter ≡ None → s ≡ counted_sender s n
rest-stays s n e =
    let q : s.shifter ≡ counted_shifter s.shifter n = rw e in
    ap (λ (x : Option Transmission). record { buffer = s.buffer; shifter = x; txc = s.txc }) q

-- the two forms of the unit after n of them
abbrev ticked_by : Usart → ℕ → Usart
ticked_by u n = with u u.baud (counted_sender u.sender n) (counted_receiver u.control.rxen u.receiver n)

abbrev waited_by : Usart → ℕ → Usart
waited_by u n = with u (counted_baud u.baud n) u.sender u.receiver

counted-tick : (u : Usart) (n : ℕ) → ticks u.baud ≡ true → counted_of u n ≡ ticked_by u n
unfolding counted_of
counted-tick u n e = rw e

counted-wait : (u : Usart) (n : ℕ) → ticks u.baud ≡ false → counted_of u n ≡ waited_by u n
unfolding counted_of
counted-wait u n e = rw e

-- the counter that every clock loads with 0 stays
baud-stays : (b : Baud) → b.left.0 ≡ 0 → b.ubrr ≡ 0 → record { ubrr = b.ubrr; left = record { 0 = b.ubrr } } ≡ b
baud-stays b l z = ap (λ (n : ℕ). record { ubrr = b.ubrr; left = record { 0 = n } }) (z ∙ sym l)

pub quiet-clock : (u : Usart) (l : Bool) → 1 ≤ quiet_of u → clock_of u l ≡ counted_of u 1
unfolding clock_of left_of
quiet-clock u l h = split (ticks u.baud)
    (λ e.
    let t = ticking u 1 e h in
    rw (counted-tick u 1 e, e)
    (same_parts u (baud-stays u.baud (eqb-true u.baud.left.0 0 e) (t.every (omega arith)))
    (sender-clock u.format u.sender t.sender)
    (receiver-clock u.format u.control.rxen u.receiver l t.receiver)))
    (λ e. rw (counted-wait u 1 e, e))

-- a unit whose counter has fallen by one; a counter that is then 0 has no more to count
waited-after : (u : Usart) (k : ℕ) → suc k ≤ u.baud.left.0 → k ≤ quiet_of (waited_by u 1)
unfolding quiet_of
waited-after u k h =
    pick_ind (λ (m : ℕ). k ≤ m) (eqb (u.baud.left.0 - 1) 0) _ _ (λ e. omega (arith, eqb-true (u.baud.left.0 - 1) 0 e)) (λ e. omega arith)

ticked-after : (u : Usart) (k : ℕ) → ticks u.baud ≡ true → Ticking u (suc k) → k ≤ quiet_of (ticked_by u 1)
unfolding quiet_of
ticked-after u k e t =
    rw (e, eq-eqb u.baud.ubrr 0 (t.every (omega arith)))
    (le-least k _ _ (sender-after u.format u.sender.buffer u.sender.shifter k t.sender)
    (receiver-after u.format u.control.rxen u.receiver k t.receiver))

pub quiet-after : (u : Usart) (k : ℕ) → suc k ≤ quiet_of u → k ≤ quiet_of (counted_of u 1)
quiet-after u k h = split (ticks u.baud)
    (λ e. rw (counted-tick u 1 e) (ticked-after u k e (ticking u (suc k) e h)))
    (λ e. rw (counted-wait u 1 e) (waited-after u k (waiting u (suc k) e h)))

pub shifter-none : (s : Option Transmission) → counted_shifter s 0 ≡ s
shifter-none None = refl
shifter-none (Some t) =
    let e : t.sample.0 + 0 ≡ t.sample.0 = omega arith in rw e

sampler-none : (s : Sampler) → counted_sampler s 0 ≡ s
sampler-none (Idle last) = refl
sampler-none (Receiving r) =
    let e : r.sample.0 + 0 ≡ r.sample.0 = omega arith in rw e

pub receiver-none : (rxen : Bool) (r : Receiver) → counted_receiver rxen r 0 ≡ r
unfolding counted_receiver
receiver-none true r = rw (sampler-none r.sampler)
receiver-none false r = refl

pub counted_none : (u : Usart) → counted_of u 0 ≡ u
counted_none u = split (ticks u.baud)
    (λ e. rw (counted-tick u 0 e, shifter-none u.sender.shifter, receiver-none u.control.rxen u.receiver))
    (λ e.
    let none : u.baud.left.0 - 0 ≡ u.baud.left.0 = omega arith in
    rw (counted-wait u 0 e, none))

pub shifter-more : (s : Option Transmission) (k : ℕ) → counted_shifter (counted_shifter s 1) k ≡ counted_shifter s (suc k)
shifter-more None k = refl
shifter-more (Some t) k =
    let e : t.sample.0 + 1 + k ≡ t.sample.0 + suc k = omega arith in rw e

sampler-more : (s : Sampler) (k : ℕ) → counted_sampler (counted_sampler s 1) k ≡ counted_sampler s (suc k)
sampler-more (Idle last) k = refl
sampler-more (Receiving r) k =
    let e : r.sample.0 + 1 + k ≡ r.sample.0 + suc k = omega arith in rw e

pub receiver-more : (rxen : Bool) (r : Receiver) (k : ℕ) → counted_receiver rxen (counted_receiver rxen r 1) k ≡ counted_receiver rxen r (suc k)
unfolding counted_receiver
receiver-more true r k = rw (sampler-more r.sampler k)
receiver-more false r k = refl

-- a counter that the first clock brings to 0 had one to count
waited-more : (u : Usart) (k : ℕ) → suc k ≤ u.baud.left.0 → counted_of (waited_by u 1) k ≡ waited_by u (suc k)
waited-more u k h =
    let fall : u.baud.left.0 - 1 - k ≡ u.baud.left.0 - suc k = omega arith in
    split (eqb (u.baud.left.0 - 1) 0)
    (λ e.
    let none : k ≡ 0 = omega (arith, eqb-true (u.baud.left.0 - 1) 0 e) in
    rw none (counted_none (waited_by u 1)))
    (λ e. counted-wait (waited_by u 1) k e ∙ rw fall)

pub counted-more : (u : Usart) (k : ℕ) → suc k ≤ quiet_of u → counted_of (counted_of u 1) k ≡ counted_of u (suc k)
counted-more u k h = split (ticks u.baud)
    (λ e.
    rw (counted-tick u 1 e, counted-tick u (suc k) e)
    (counted-tick (ticked_by u 1) k e
    ∙ same_parts u refl (ap (λ (x : Option Transmission). record { buffer = u.sender.buffer; shifter = x; txc = u.sender.txc }) (shifter-more u.sender.shifter k))
    (receiver-more u.control.rxen u.receiver k)))
    (λ e. rw (counted-wait u 1 e, counted-wait u (suc k) e) (waited-more u k (waiting u (suc k) e h)))

resting-counted : (s : Option Transmission) (n : ℕ) → is_resting (counted_shifter s n) ≡ is_resting s
resting-counted None n = refl
resting-counted (Some t) n = refl

txd-counted : (f : Format) (s : Option Transmission) (n : ℕ) → txd_of f (counted_shifter s n) ≡ txd_of f s
txd-counted f None n = refl
txd-counted f (Some t) n = refl

pub output-counted : (u : Usart) (n : ℕ) → output_of (counted_of u n) ≡ output_of u
unfolding output_of is_driven
output-counted u n = split (ticks u.baud)
    (λ e. rw (counted-tick u n e, resting-counted u.sender.shifter n, txd-counted u.format u.sender.shifter n))
    (λ e. rw (counted-wait u n e))
