-- A level of RxD that is held: the baud counter by a closed form, sender and receiver by the ticks alone. They hold of
-- every unit, also one out of its ranges.
use mathlib.Core.Path.{◌≡◌, refl, ap, sym, ◌∙◌}
use mathlib.Core.Bool.{Bool, true, false}
use Prim.Native.Nat.{ℕ, zero, suc, ◌+◌, ◌-◌, ◌/◌, ◌%◌, ◌≤◌, ◌<◌}
use native.Mathlib.Nat.{mod-eq_of_lt, mod-eq-sub-mod, div-eq_of_lt, div-eq-sub-div}
use native.Mathlib.Omega.{arith}
use lib.Dec.{ltb}
use borrow.Author.Tests.{ne_eqb, ltb-true, ltb-false}
use Rattle.std.proofs.Common.{None, Option, Some}
use Rattle.choice.specs.Pick.{pick}
use Rattle.choice.specs.Times.{times}
use Rattle.choice.proofs.Picks.{split, both, clash}
use Rattle.choice.proofs.TimesLaws.{times-fixed, times-part}
use Rattle.advance.specs.Passing.{PassedOn}
use Rattle.frame.specs.declared.format.Format.{Format}
use Rattle.usart.specs.Baud.{ticks, left_of, baud_of, ticks_in}
use Rattle.usart.specs.Sender.{is_vacant, is_resting, sender_of}
use Rattle.usart.specs.Sampler.{still, idle_of, sampler_of}
use Rattle.usart.specs.Receiver.{put_of, listened_of}
use Rattle.usart.specs.Unit.{ticked_of, clock_of, output_of, is_driven, requests_of}
use Rattle.usart.specs.Counting.{least, sender_quiet, receiver_quiet, counted_sender, counted_receiver}
use Rattle.usart.specs.Holding.{held_of, passed_baud, held_sender, listened_at, held_receiver}
use Rattle.usart.specs.Holding.{sender_rests, sampler_rests, receiver_rests, is_at_rest}
use Rattle.usart.specs.Holding.{with_sending, sending_tick, with_listening, listening_tick}
use Rattle.usart.specs.Write.{with_baud}
use Rattle.usart.specs.declared.baud.Baud.{Baud}
use Rattle.usart.specs.declared.hold.Sending.{Sending}
use Rattle.usart.specs.declared.hold.Listening.{Listening}
use Rattle.usart.specs.declared.sender.Sender.{Sender}
use Rattle.usart.specs.declared.sampler.Sampler.{Sampler}
use Rattle.usart.specs.declared.sampler.Sampler.TheVariants.{Idle, Receiving}
use Rattle.usart.specs.declared.sampler.Sampled.{Sampled}
use Rattle.usart.specs.declared.receiver.Receiver.{Receiver}
use Rattle.usart.specs.declared.unit.Usart.{Usart}
use Rattle.usart.proofs.ClockLaws.{with, same_parts}
use Rattle.usart.proofs.CountingLaws.{least-le, sender-clock, sender-after, shifter-none, shifter-more}
use Rattle.usart.proofs.CountingLaws.{receiver-clock, receiver-after, receiver-none, receiver-more}
use Rattle.usart.specs.declared.sender.Transmission.{Transmission}

abbrev at : ℕ → ℕ → Baud
at left ubrr = record { ubrr = ubrr; left = record { 0 = left } }

-- what n clocks make of the counter: the ticks in them, and what it stands at then
pub record Closed (left ubrr n given rest : ℕ) : Type 0 where
  pub ticks : given ≡ ticks_in (at left ubrr) n
  pub baud : at rest ubrr ≡ passed_baud (at left ubrr) n

closed-as : {left ubrr n t r t₁ r₁ : ℕ} → t₁ ≡ t → r₁ ≡ r → Closed left ubrr n t r → Closed left ubrr n t₁ r₁
closed-as {left} {ubrr} {n} p q c = record { ticks = p ∙ c.ticks; baud = ap (λ (x : ℕ). at x ubrr) q ∙ c.baud }

-- a counter at 0 gives a tick and is loaded ..
loads : (ubrr n : ℕ) {t r : ℕ} → Closed ubrr ubrr n t r → Closed 0 ubrr (suc n) (suc t) r
unfolding ticks_in times left_of
loads ubrr n c = record { ticks = omega (arith, c.ticks); baud = c.baud }

-- .. any other falls by one
falls : (k ubrr n : ℕ) {t r : ℕ} → Closed k ubrr n t r → Closed (suc k) ubrr (suc n) t r
unfolding ticks_in times left_of
falls k ubrr n c =
    let p : suc k - 1 ≡ k = omega arith in
    record { ticks = rw (ne_eqb (suc k) 0 (λ q. omega arith), p) (omega (arith, c.ticks)); baud = rw (ne_eqb (suc k) 0 (λ q. omega arith), p) c.baud }

-- before the first tick, from wherever the counter stands ..
pub closed-early : (n left ubrr : ℕ) → n ≤ left → Closed left ubrr n 0 (left - n)
unfolding ticks_in times
closed-early zero left ubrr h = closed-as {t = 0} {r = left} refl (omega arith) (record { ticks = refl; baud = refl })
closed-early (suc n) zero ubrr h = absurd (omega arith)
closed-early (suc n) (suc k) ubrr h = closed-as refl (omega arith) (falls k ubrr n (closed-early n k ubrr (omega arith)))

-- .. and from it on, where there is one every UBRR + 1 clocks
pub closed-late : (n left ubrr : ℕ) → left < n
    → Closed left ubrr n ((n - left - 1) / (ubrr + 1) + 1) (ubrr - (n - left - 1) % (ubrr + 1))
closed-late zero left ubrr h = absurd (omega arith)
closed-late (suc n) (suc k) ubrr h =
    let e : suc n - suc k - 1 ≡ n - k - 1 = omega arith in rw e (falls k ubrr n (closed-late n k ubrr (omega arith)))
closed-late (suc n) zero ubrr h =
    let e : suc n - 0 - 1 ≡ n = omega arith in
    rw e
    (split (ltb ubrr n)
    (λ t.
    let l = ltb-true ubrr n t in
    let d = div-eq-sub-div {m = ubrr + 1} {n = n} (omega arith) (omega (arith, l)) in
    let m = mod-eq-sub-mod {n = n} {m = ubrr + 1} (omega (arith, l)) in
    let s : n - ubrr - 1 ≡ n - (ubrr + 1) = omega arith in
    closed-as (rw s (omega (arith, d))) (rw (s, m)) (loads ubrr n (closed-late n ubrr ubrr l)))
    (λ t.
    let l = ltb-false ubrr n t in
    let d = div-eq_of_lt {n = n} {m = ubrr + 1} (omega (arith, l)) in
    let m = mod-eq_of_lt {n = n} {m = ubrr + 1} (omega (arith, l)) in
    closed-as (omega (arith, d)) (omega (arith, m)) (loads ubrr n (closed-early n ubrr ubrr l))))

-- n clocks at one level: sender and receiver by the ticks in them alone
pub held-parts : (n : ℕ) (u : Usart) (l : Bool)
    → held_of u l n
    ≡ with u (passed_baud u.baud n) (held_sender u.format u.sender (ticks_in u.baud n))
    (held_receiver u.control.rxen u.format u.receiver l (ticks_in u.baud n))
unfolding times ticks_in clock_of
held-parts zero u l = refl
held-parts (suc n) u l = split (ticks u.baud)
    (λ e.
    let one : 1 + ticks_in (baud_of u.baud) n ≡ suc (ticks_in (baud_of u.baud) n) = omega arith in
    rw (e, one) (held-parts n (ticked_of u l) l))
    (λ e.
    let none : 0 + ticks_in (baud_of u.baud) n ≡ ticks_in (baud_of u.baud) n = omega arith in
    rw (e, none) (held-parts n (with_baud u (baud_of u.baud)) l))

-- ticks that only count, of either part
pub sender-counts : (f : Format) (k : ℕ) (s : Sender) → k ≤ sender_quiet f s.buffer s.shifter
    → held_sender f s k ≡ counted_sender s k
unfolding times
sender-counts f zero s h =
    ap (λ (x : Option Transmission). record { buffer = s.buffer; shifter = x; txc = s.txc }) (sym (shifter-none s.shifter))
sender-counts f (suc k) s h =
    ap (times (sender_of f) k) (sender-clock f s (omega arith))
    ∙ sender-counts f k (counted_sender s 1) (sender-after f s.buffer s.shifter k h)
    ∙ ap (λ (x : Option Transmission). record { buffer = s.buffer; shifter = x; txc = s.txc }) (shifter-more s.shifter k)

pub receiver-counts : (rxen : Bool) (f : Format) (l : Bool) (k : ℕ) (r : Receiver) → k ≤ receiver_quiet rxen f r
    → held_receiver rxen f r l k ≡ counted_receiver rxen r k
unfolding times
receiver-counts rxen f l zero r h = sym (receiver-none rxen r)
receiver-counts rxen f l (suc k) r h =
    ap (times (listened_at rxen f l) k) (receiver-clock f rxen r l (omega arith))
    ∙ receiver-counts rxen f l k (counted_receiver rxen r 1) (receiver-after f rxen r k h)
    ∙ receiver-more rxen r k

-- what `counted` makes of it: as many as only count
counted-many : {A : Type 0} (step : A → A) (x : A) (quiet : ℕ) {n k : ℕ} {y : A} → k ≡ least quiet n → (k ≡ 0 → ⊥)
    → (k ≤ quiet → y ≡ times step k x) → PassedOn step x n k y
counted-many step x quiet {n} {k} q z e =
    let b = least-le k quiet n (omega (arith, q)) in record { some = omega (arith, z); few = b.1; steps = e b.0 }

-- a tick leaves a part at rest as it is
pub sender-rests : (f : Format) (s : Sender) → sender_rests s ≡ true → sender_of f s ≡ s
unfolding sender_rests
sender-rests f s h = by s.buffer s.shifter s.txc h
  where
    by : (b : Option ℕ) (x : Option Transmission) (c : Bool) → pick (is_vacant b) (is_resting x) false ≡ true
        → sender_of f (record { buffer = b; shifter = x; txc = c }) ≡ record { buffer = b; shifter = x; txc = c }
    by None None c h = refl
    by None (Some t) c h = clash h refl
    by (Some d) x c h = clash h refl

sampler-rests : (f : Format) (s : Sampler) (l : Bool) → sampler_rests s l ≡ true → sampler_of f s l ≡ still s
unfolding sampler_of idle_of
sampler-rests f (Idle true) true h = refl
sampler-rests f (Idle false) false h = refl
sampler-rests f (Idle true) false h = clash h refl
sampler-rests f (Idle false) true h = clash h refl
sampler-rests f (Receiving r) l h = clash h refl

pub receiver-rests : (rxen : Bool) (f : Format) (r : Receiver) (l : Bool) → receiver_rests rxen r l ≡ true → listened_of rxen f r l ≡ r
unfolding receiver_rests listened_of
receiver-rests true f r l h =
    let next : Sampled → Receiver = λ o. record { sampler = o.sampler; queue = put_of f r.queue o.outcome } in
    ap next (sampler-rests f r.sampler l h)
receiver-rests false f r l h = refl

pub sender-stays : (f : Format) (s : Sender) (n : ℕ) → sender_rests s ≡ true → held_sender f s n ≡ s
sender-stays f s n h = times-fixed (sender_of f) n s (sender-rests f s h)

pub receiver-stays : (rxen : Bool) (f : Format) (r : Receiver) (l : Bool) (n : ℕ) → receiver_rests rxen r l ≡ true
    → held_receiver rxen f r l n ≡ r
receiver-stays rxen f r l n h = times-fixed (listened_at rxen f l) n r (receiver-rests rxen f r l h)

-- the steps of a part with its settings are the part's ticks
sending-steps : (x : Sending) (n : ℕ) → times sending_tick n x ≡ with_sending x (held_sender x.format x.sender n)
sending-steps x n = times-part (sender_of x.format) sending_tick (with_sending x) (λ s. refl) n x.sender

listening-steps : (x : Listening) (n : ℕ) → times listening_tick n x ≡ with_listening x (held_receiver x.rxen x.format x.receiver x.rxd n)
listening-steps x n =
    times-part (listened_at x.rxen x.format x.rxd) listening_tick (with_listening x) (λ r. refl) n x.receiver

-- what `rests` and `counted` make of it, and `hold`
module _ (x : Sending) where
  pub sending-rests : {b : Bool} → b ≡ sender_rests x.sender → b ≡ true → sending_tick x ≡ x
  sending-rests e r = ap (with_sending x) (sender-rests x.format x.sender (sym e ∙ r))

  pub sending-counted : {n k : ℕ} {s : Sender} → k ≡ least (sender_quiet x.format x.sender.buffer x.sender.shifter) n
      → (k ≡ 0 → ⊥) → s ≡ counted_sender x.sender k → PassedOn sending_tick x n k (with_sending x s)
  sending-counted {n} {k} q z e =
      counted-many sending_tick x _ q z
      (λ h. ap (with_sending x) (e ∙ sym (sender-counts x.format k x.sender h)) ∙ sym (sending-steps x k))

  pub sending-held : (n : ℕ) {y : Sending} → y ≡ times sending_tick n x → y.sender ≡ held_sender x.format x.sender n
  sending-held n e = ap (λ (s : Sending). s.sender) (e ∙ sending-steps x n)

module _ (x : Listening) where
  pub listening-rests : {b : Bool} → b ≡ receiver_rests x.rxen x.receiver x.rxd → b ≡ true → listening_tick x ≡ x
  listening-rests e r = ap (with_listening x) (receiver-rests x.rxen x.format x.receiver x.rxd (sym e ∙ r))

  pub listening-counted : {n k : ℕ} {r : Receiver} → k ≡ least (receiver_quiet x.rxen x.format x.receiver) n
      → (k ≡ 0 → ⊥) → r ≡ counted_receiver x.rxen x.receiver k → PassedOn listening_tick x n k (with_listening x r)
  listening-counted {n} {k} q z e =
      counted-many listening_tick x _ q z
      (λ h. ap (with_listening x) (e ∙ sym (receiver-counts x.rxen x.format x.rxd k x.receiver h)) ∙ sym (listening-steps x k))

  pub listening-held : (n : ℕ) {y : Listening} → y ≡ times listening_tick n x
      → y.receiver ≡ held_receiver x.rxen x.format x.receiver x.rxd n
  listening-held n e = ap (λ (r : Listening). r.receiver) (e ∙ listening-steps x n)

-- at rest n clocks change nothing but the baud counter ..
pub rest-held : (u : Usart) (l : Bool) (n : ℕ) → is_at_rest u l ≡ true → held_of u l n ≡ with_baud u (passed_baud u.baud n)
unfolding is_at_rest
rest-held u l n h =
    let b = both (sender_rests u.sender) (receiver_rests u.control.rxen u.receiver l) h in
    let k = ticks_in u.baud n in
    held-parts n u l
    ∙ same_parts u refl (sender-stays u.format u.sender k b.0) (receiver-stays u.control.rxen u.format u.receiver l k b.1)

-- .. so the output and the requests stay
pub rest-output : (u : Usart) (l : Bool) (n : ℕ) → is_at_rest u l ≡ true → output_of (held_of u l n) ≡ output_of u
unfolding output_of is_driven
rest-output u l n h = ap output_of (rest-held u l n h) ∙ refl

pub rest-requests : (u : Usart) (l : Bool) (n : ℕ) → is_at_rest u l ≡ true → requests_of (held_of u l n) ≡ requests_of u
rest-requests u l n h = ap requests_of (rest-held u l n h) ∙ refl
