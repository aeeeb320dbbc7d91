-- A valid unit comes to rest at a held level of RxD: at the latest with tick 416, where two of the longest frames have
-- been sent, the one in the shifter and the one in the buffer.
use Prim.Native.Nat.{ℕ, ◌+◌, ◌-◌, ◌*◌, ◌/◌, ◌≤◌, ◌<◌}
use mathlib.Core.Bool.{Bool, true, false}
use mathlib.Core.Path.{◌≡◌, refl, ap, ◌∙◌}
use native.Mathlib.Nat.{le-div_iff_mul-le}
use native.Mathlib.Omega.{arith}
use lib.Dec.{eqb, ltb, leb}
use borrow.Author.Tests.{ltb-true, ltb-false, leb-true, leb-false}
use Rattle.std.proofs.Common.{None, Option, Some}
use Rattle.choice.specs.Pick.{pick}
use Rattle.choice.specs.Times.{times}
use Rattle.choice.proofs.Picks.{pick_ind, clash}
use Rattle.choice.proofs.Settling.{Settling, settles}
use Rattle.frame.specs.Format.{samples, first_vote, word_bits, last_bit}
use Rattle.frame.specs.Vote.{vote_of}
use Rattle.frame.specs.declared.format.Format.{Format}
use Rattle.frame.specs.declared.format.Size.TheVariants.{Nine}
use Rattle.frame.specs.declared.format.Parity.TheVariants.{Even}
use Rattle.frame.proofs.FormatLaws.{samples-half, samples-range, first-vote-range, word-bits-range, stop-bits-range}
use Rattle.usart.specs.Baud.{ticks_in}
use Rattle.usart.specs.Sender.{is_vacant, is_resting, begun, moved_from, stepped_of, sender_of}
use Rattle.usart.specs.Sampler.{idle_of, cast_of, next_bit_of, shifted_of, spent_of, decided_of, voted_of, sampled_of, sampler_of}
use Rattle.usart.specs.Receiver.{listened_of}
use Rattle.usart.specs.Holding.{held_of, held_sender, listened_at, held_receiver}
use Rattle.usart.specs.Holding.{sender_rests, sampler_rests, receiver_rests, is_at_rest, resting_from}
use Rattle.usart.specs.Valid.{ValidBaud, ValidTransmission, ValidShifter, ValidSender, ValidReception, ValidSampler, ValidReceiver, Valid}
use Rattle.usart.specs.declared.baud.Baud.{Baud}
use Rattle.usart.specs.declared.sender.Transmission.{Transmission}
use Rattle.usart.specs.declared.sender.Sender.{Sender}
use Rattle.usart.specs.declared.sample.Sample.{Sample}
use Rattle.usart.specs.declared.sampler.Reception.{Reception}
use Rattle.usart.specs.declared.sampler.Sampler.{Sampler}
use Rattle.usart.specs.declared.sampler.Sampler.TheVariants.{Idle, Receiving}
use Rattle.usart.specs.declared.sampler.Sampled.{Sampled}
use Rattle.usart.specs.declared.receiver.Receiver.{Receiver}
use Rattle.usart.specs.declared.unit.Usart.{Usart}
use Rattle.usart.proofs.HoldingLaws.{closed-late, held-parts, sender-rests, receiver-rests}
use Rattle.usart.proofs.ValidLaws.{valid-sender, valid-listened}

-- ticks to the end of the frame in the shifter, with 16 for each bit that follows, at either speed
abbrev to_end : Format → Transmission → ℕ
to_end f t = (last_bit f - t.bit) * 16 + (samples f - t.sample.0)

-- a frame that waits follows with the tick that ends the one in the shifter, or with the next one
abbrev waiting : Option ℕ → ℕ
waiting None = 0
waiting (Some d) = 208

abbrev shifter_far : Format → Option ℕ → Option Transmission → ℕ
shifter_far f b None = pick (is_vacant b) 0 209
shifter_far f b (Some t) = waiting b + to_end f t

abbrev sender_far : Format → Sender → ℕ
sender_far f s = shifter_far f s.buffer s.shifter

module _ (f : Format) where
  -- a frame from its first tick on
  whole : last_bit f * 16 + samples f ≤ 208
  whole = omega (arith, word-bits-range f, stop-bits-range f, samples-range f)

  moved-nears : (b : Option ℕ) (kept txc : Bool) (n : ℕ) → 1 ≤ n → sender_far f (moved_from f b kept txc) < waiting b + n
  moved-nears None kept txc n h = omega arith
  moved-nears (Some d) kept txc n h = omega (arith, whole)

  stepped-nears : (s : Sender) (t : Transmission) → ValidTransmission f t → sender_far f (stepped_of f s t) < waiting s.buffer + to_end f t
  unfolding stepped_of
  stepped-nears s t v =
      let Nearer : Sender → Type 0 = λ x. sender_far f x < waiting s.buffer + to_end f t in
      pick_ind Nearer (ltb t.sample.0 (samples f - 1)) _ _ (λ e. omega (arith, ltb-true t.sample.0 (samples f - 1) e))
      (λ e. pick_ind Nearer (ltb t.bit (last_bit f)) _ _
      (λ g. omega (arith, ltb-true t.bit (last_bit f) g, v.sample, samples-range f))
      (λ g. moved-nears s.buffer s.txc true (to_end f t) (omega (arith, v.sample))))

  sender-nears : (s : Sender) → ValidSender f s → sender_rests s ≡ false → sender_far f (sender_of f s) < sender_far f s
  unfolding sender_rests
  sender-nears s v h = by s.buffer s.shifter s.txc v.shifter h
    where
      by : (b : Option ℕ) (x : Option Transmission) (c : Bool) → ValidShifter f x → pick (is_vacant b) (is_resting x) false ≡ false
          → sender_far f (sender_of f (record { buffer = b; shifter = x; txc = c })) < shifter_far f b x
      by None None c w q = clash refl q
      by (Some d) None c w q = omega (arith, whole)
      by b (Some t) c w q = stepped-nears (record { buffer = b; shifter = Some t; txc = c }) t w

  sender-far : (s : Sender) → sender_far f s ≤ 416
  sender-far s = by s.buffer s.shifter
    where
      by : (b : Option ℕ) (x : Option Transmission) → shifter_far f b x ≤ 416
      by None None = omega arith
      by (Some d) None = omega arith
      by None (Some t) = omega (arith, whole)
      by (Some d) (Some t) = omega (arith, whole)

  sender-settles : (s : Sender) (n : ℕ) → ValidSender f s → 416 ≤ n → sender_rests (held_sender f s n) ≡ true
  sender-settles s n v h =
      let w : Settling (sender_of f) (ValidSender f) sender_rests (sender_far f) = record { keeps = valid-sender f; stays = sender-rests f; nears = sender-nears } in
      settles (sender_of f) sender_rests w n s v (omega (arith, h, sender-far s))

-- ticks to the first stop bit's last, with 16 for each bit that follows; a start bit is 1 tick away, as is the level
-- that an idle receiver does not remember yet
abbrev sampler_far : Format → Bool → Sampler → ℕ
sampler_far f l (Idle last) = pick last (pick l 0 192) (pick l 1 0)
sampler_far f l (Receiving r) = (word_bits f + 1 - r.bit) * 16 + (samples f - r.sample.0)

module _ (f : Format) (l : Bool) where
  -- idle, remembering the level that is held
  idle-near : sampler_far f l (Idle l) ≡ 0
  idle-near = by l
    where
      by : (t : Bool) → sampler_far f t (Idle t) ≡ 0
      by true = refl
      by false = refl

  -- one of a reception's samples
  module _ (r : Reception) (v : ValidReception f r) where
    abbrev Nearer : Sampled → Type 0
    Nearer o = sampler_far f l o.sampler < sampler_far f l (Receiving r)

    idle-nears : sampler_far f l (Idle l) < sampler_far f l (Receiving r)
    idle-nears = omega (arith, idle-near, v.sample)

    module _ (inner : r.sample.0 < samples f - 1) where
      abbrev next : Sample
      next = record { 0 = r.sample.0 + 1 }

      decided-nears : (c : ℕ) (level : Bool) → Nearer (decided_of f (spent_of r next c) l level)
      unfolding decided_of shifted_of
      decided-nears c level =
          pick_ind Nearer (eqb r.bit 0) _ _ (λ _. pick_ind Nearer level _ _ (λ _. idle-nears) (λ _. omega (arith, inner)))
          (λ _. pick_ind Nearer (leb r.bit (word_bits f)) _ _
          (λ _. pick_ind (λ (x : Reception). sampler_far f l (Receiving x) < sampler_far f l (Receiving r)) level _ _ (λ _. omega (arith, inner)) (λ _. omega (arith, inner)))
          (λ _. idle-nears))

      cast-nears : sampler_far f l (Receiving (cast_of f r next l)) < sampler_far f l (Receiving r)
      unfolding cast_of
      cast-nears =
          let Closer : Reception → Type 0 = λ x. sampler_far f l (Receiving x) < sampler_far f l (Receiving r) in
          pick_ind Closer (eqb (r.sample.0 + 1) (first_vote f)) _ _ (λ _. omega (arith, inner))
          (λ _. pick_ind Closer (eqb (r.sample.0 + 1) (first_vote f + 1)) _ _ (λ _. omega (arith, inner)) (λ _. omega (arith, inner)))

    -- the last sample of a bit is no sample of the stop bit
    next-nears : samples f - 1 ≤ r.sample.0 → sampler_far f l (Receiving (next_bit_of f r)) < sampler_far f l (Receiving r)
    unfolding next_bit_of
    next-nears h =
        pick_ind (λ (x : Reception). sampler_far f l (Receiving x) < sampler_far f l (Receiving r)) (leb r.bit (word_bits f)) _ _
        (λ e. omega (arith, leb-true r.bit (word_bits f) e, h, v.sample, samples-range f))
        (λ e.
        let last : r.bit ≡ word_bits f + 1 = omega (arith, leb-false r.bit (word_bits f) e, v.bit) in
        absurd (omega (arith, v.stop last, h, samples-half f, first-vote-range f)))

    sampled-nears : Nearer (sampled_of f r l)
    unfolding sampled_of voted_of
    sampled-nears =
        pick_ind Nearer (ltb r.sample.0 (samples f - 1)) _ _
        (λ e.
        let inner = ltb-true r.sample.0 (samples f - 1) e in
        pick_ind Nearer (eqb (r.sample.0 + 1) (first_vote f + 2)) _ _ (λ _. decided-nears inner _ (vote_of r.first r.second l).level) (λ _. cast-nears inner))
        (λ e. next-nears (ltb-false r.sample.0 (samples f - 1) e))

  sampler-nears : (p : Sampler) → ValidSampler f p → sampler_rests p l ≡ false → sampler_far f l (sampler_of f p l).sampler < sampler_far f l p
  unfolding sampler_of idle_of
  sampler-nears (Idle last) v h = by last l h
    where
      by : (a t : Bool) → sampler_rests (Idle a) t ≡ false → sampler_far f t (idle_of a t).sampler < sampler_far f t (Idle a)
      by true true q = clash refl q
      by true false q = omega (arith, word-bits-range f, samples-range f)
      by false true q = omega arith
      by false false q = clash refl q
  sampler-nears (Receiving r) v h = sampled-nears r v

  sampler-far : (p : Sampler) → sampler_far f l p ≤ 416
  sampler-far (Idle last) = by last l
    where
      by : (a t : Bool) → sampler_far f t (Idle a) ≤ 416
      by true true = omega arith
      by true false = omega arith
      by false true = omega arith
      by false false = omega arith
  sampler-far (Receiving r) = omega (arith, word-bits-range f, samples-range f)

  abbrev receiver_far : Bool → Receiver → ℕ
  receiver_far rxen r = pick rxen (sampler_far f l r.sampler) 0

  receiver-nears : (rxen : Bool) (r : Receiver) → ValidReceiver f r → receiver_rests rxen r l ≡ false
      → receiver_far rxen (listened_of rxen f r l) < receiver_far rxen r
  unfolding receiver_rests listened_of
  receiver-nears true r v h = sampler-nears r.sampler v.sampler h
  receiver-nears false r v h = clash refl h

  receiver-far : (rxen : Bool) (r : Receiver) → receiver_far rxen r ≤ 416
  receiver-far true r = sampler-far r.sampler
  receiver-far false r = omega arith

  receiver-settles : (rxen : Bool) (r : Receiver) (n : ℕ) → ValidReceiver f r → 416 ≤ n → receiver_rests rxen (held_receiver rxen f r l n) l ≡ true
  receiver-settles rxen r n v h =
      let rests : Receiver → Bool = λ x. receiver_rests rxen x l in
      let w : Settling (listened_at rxen f l) (ValidReceiver f) rests (receiver_far rxen) =
      record { keeps = λ x. valid-listened f rxen x l; stays = λ x. receiver-rests rxen f x l; nears = receiver-nears rxen } in
      settles (listened_at rxen f l) rests w n r v (omega (arith, h, receiver-far rxen r))

-- and no sooner: two frames of nine data bits, parity and two stop bits, one just begun and one in the buffer
abbrev longest : Format
longest = record { size = Nine; parity = Even; usbs = true; u2x = false }

pub not-at-415 : sender_rests (held_sender longest (record { buffer = Some 0; shifter = Some (begun longest 0); txc = false }) 415) ≡ false
unfolding sender_rests times stepped_of
not-at-415 = refl

-- tick 416 comes in time
many-ticks : (b : Baud) (n : ℕ) → resting_from b ≤ n → 416 ≤ ticks_in b n
many-ticks b n h =
    let k = b.ubrr + 1 in
    let c = closed-late n b.left.0 b.ubrr (omega (arith, h)) in
    let d : 415 ≤ (n - b.left.0 - 1) / k = (le-div_iff_mul-le {k = k} (omega arith)).1 (omega (arith, h)) in
    omega (arith, d, c.ticks)

-- a valid unit is at rest from that clock on
pub comes-to-rest : (u : Usart) (l : Bool) (n : ℕ) → Valid u → resting_from u.baud ≤ n → is_at_rest (held_of u l n) l ≡ true
unfolding is_at_rest
comes-to-rest u l n v h =
    let k = ticks_in u.baud n in
    let m = many-ticks u.baud n h in
    ap (λ (w : Usart). is_at_rest w l) (held-parts n u l)
    ∙ rw (sender-settles u.format u.sender k v.sender m) (receiver-settles u.format l u.control.rxen u.receiver k v.receiver m)

-- .. which comes within 416 of the longest turns of the counter
pub resting-range : (b : Baud) → ValidBaud b → resting_from b ≤ 416 * 4096
resting-range b v = omega (arith, v.ubrr, v.left)
