-- Every operation keeps the ranges, and reset has them.
use mathlib.Core.Path.{◌≡◌, refl}
use mathlib.Core.Bool.{Bool, true, false}
use Prim.Native.Nat.{ℕ, ◌+◌, ◌-◌, ◌*◌, ◌/◌, ◌^◌, ◌≤◌, ◌<◌}
use native.Mathlib.Nat.{mod-lt}
use native.Mathlib.Omega.{arith}
use lib.Dec.{eqb, ltb, lit<, lit≤}
use lib.Pow.{pow_pos, pow_mono}
use borrow.Author.Tests.{ltb-true}
use Rattle.std.proofs.Common.{None, Option, Result, Some}
use Rattle.choice.specs.Bit.{is_set}
use Rattle.choice.specs.Pick.{pick, digit}
use Rattle.choice.proofs.Picks.{pick_ind, clash}
use Rattle.frame.specs.Format.{samples, data_bits, last_bit}
use Rattle.frame.specs.Word.{data_of}
use Rattle.frame.specs.declared.format.Format.{Format}
use Rattle.frame.proofs.FormatLaws.{samples-range, data-bits-range}
use Rattle.frame.proofs.WordLaws.{word-again}
use Rattle.usart.specs.Baud.{ticks, left_of, baud_of}
use Rattle.usart.specs.Sender.{is_vacant, is_resting, buffer_of, acknowledged_of, moved_from, stepped_of, shifted_on}
use Rattle.usart.specs.Sender.{sender_of}
use Rattle.usart.specs.Sampler.{is_receiving, sampler_of}
use Rattle.usart.specs.Queue.{marked_of, stored_in, started_from, started_of, taken_from}
use Rattle.usart.specs.Receiver.{frame_of, put_of, listened_of, stopped, enabled_of}
use Rattle.usart.specs.Unit.{reset_usart, is_busy, clock_of, txc_requested}
use Rattle.usart.specs.Settings.{settings_of}
use Rattle.usart.specs.Read.{read_of}
use Rattle.usart.specs.Write.{with_sender, formatted_of, txc_cleared, timed_of, transmitted_of, write_of, vector_of}
use Rattle.usart.specs.Event.{settled}
use Rattle.usart.specs.Valid.{ValidBaud, ValidBuffer, ValidTransmission, ValidShifter, ValidSender}
use Rattle.usart.specs.Valid.{ValidSampler, ValidFrame, ValidPlaces, ValidWaiting, ValidReceiver, is_in_shift, Valid}
use Rattle.usart.specs.declared.baud.Clocks.{Clocks}
use Rattle.usart.specs.declared.baud.Baud.{Baud}
use Rattle.usart.specs.declared.sender.Transmission.{Transmission}
use Rattle.usart.specs.declared.sender.Sender.{Sender}
use Rattle.usart.specs.declared.sampler.Sampler.{Sampler}
use Rattle.usart.specs.declared.sampler.Sampler.TheVariants.{Idle, Receiving}
use Rattle.usart.specs.declared.sampler.Outcome.{Outcome}
use Rattle.usart.specs.declared.sampler.Outcome.TheVariants.{Nothing, Started, Complete}
use Rattle.usart.specs.declared.queue.Frame.{Frame}
use Rattle.usart.specs.declared.queue.Places.{Places}
use Rattle.usart.specs.declared.queue.Places.TheVariants.{Empty, One, Two, Three}
use Rattle.usart.specs.declared.queue.Queue.{Queue}
use Rattle.usart.specs.declared.receiver.Receiver.{Receiver}
use Rattle.usart.specs.declared.unit.Usart.{Usart}
use Rattle.usart.specs.declared.write.Register.{Register}
use Rattle.usart.proofs.ReadLaws.{each_read}
use Rattle.usart.proofs.SamplerLaws.{ValidOutcome, valid-sampler}
use Rattle.usart.proofs.WaitingLaws.{WaitingFor, none-waiting, idle-waiting, started_none, taken_none, waiting-tick}
use Rattle.usart.proofs.WriteLaws.{Before, in_a, in_b, in_c, Timing, in_l, in_h, Writes, each_write}
use Rattle.answer.specs.declared.Refusal.{Refusal}

valid-baud : (b : Baud) → ValidBaud b → ValidBaud (baud_of b)
unfolding left_of
valid-baud b v = record {
  ubrr = v.ubrr;
  left = pick_ind (λ (c : Clocks). c.0 < 4096) (eqb b.left.0 0) _ _ (λ e. v.ubrr) (λ e. omega (arith, v.left));
}

-- a tick loads the counter with UBRR, and any other clock lets it fall
valid-counter : (b : Baud) → (ticks b ≡ false → b.left.0 ≤ b.ubrr) → (baud_of b).left.0 ≤ b.ubrr
unfolding left_of
valid-counter b h = pick_ind (λ (c : Clocks). c.0 ≤ b.ubrr) (ticks b) _ _ (λ e. omega arith) (λ e. omega (arith, h e))

module _ (f : Format) where
  valid-moved : (b : Option ℕ) (kept txc : Bool) → ValidSender f (moved_from f b kept txc)
  valid-moved None kept txc = record { buffer = tt; shifter = tt }
  valid-moved (Some d) kept txc = record { buffer = tt; shifter = record { word = word-again f d; bit = omega arith; sample = omega (arith, samples-range f) } }

  valid-stepped : (s : Sender) (t : Transmission) → ValidBuffer f s.buffer → ValidTransmission f t → ValidSender f (stepped_of f s t)
  unfolding stepped_of
  valid-stepped s t vb vt =
      pick_ind (ValidSender f) (ltb t.sample.0 (samples f - 1)) _ _
      (λ e. record { buffer = vb; shifter = record { word = vt.word; bit = vt.bit; sample = omega (arith, ltb-true t.sample.0 (samples f - 1) e) } })
      (λ e. pick_ind (ValidSender f) (ltb t.bit (last_bit f)) _ _
      (λ g. record { buffer = vb; shifter = record { word = vt.word; bit = omega (arith, ltb-true t.bit (last_bit f) g); sample = omega (arith, samples-range f) } })
      (λ g. valid-moved s.buffer s.txc true))

  pub valid-sender : (s : Sender) → ValidSender f s → ValidSender f (sender_of f s)
  valid-sender s v = by s.shifter v.shifter
    where
      by : (x : Option Transmission) → ValidShifter f x → ValidSender f (shifted_on f s x)
      by None vs = valid-moved s.buffer s.txc s.txc
      by (Some t) vs = valid-stepped s t v.buffer vs

  data-lt : (x : ℕ) → data_of f x < 512
  data-lt x =
      let m : 2 ^ data_bits f.size ≤ 2 ^ 9 = pow_mono (data-bits-range f.size).1 in
      omega (arith, mod-lt x (pow_pos (data_bits f.size)))

  valid-marked : (x : Frame) (lost : Bool) → ValidFrame x → ValidFrame (marked_of x lost)
  valid-marked x lost v = record { «data» = v.«data»; splits = v.splits }

  valid-stored : (p : Places) (lost : Bool) (x : Frame) → ValidPlaces p → ValidFrame x → ValidPlaces (stored_in p lost x).places
  valid-stored Empty lost x v h = valid-marked x lost h
  valid-stored (One a) lost x v h = (v, valid-marked x lost h)
  valid-stored (Two a b) lost x v h = (v.0, (v.1, valid-marked x lost h))
  valid-stored (Three a b c) lost x v h = (v.0, (v.1.0, valid-marked x true h))

  valid-started : (q : Queue) → ValidPlaces q.places → ValidPlaces (started_of q).places
  valid-started q v = by q.places refl
    where
      by : (p : Places) → q.places ≡ p → ValidPlaces (started_from p q).places
      by Empty e = v
      by (One a) e = v
      by (Two a b) e = v
      by (Three a b c) e = let w : ValidPlaces (Three a b c) = rw e at v in (w.0, w.1.0)

  valid-put : (q : Queue) (o : Outcome) → ValidPlaces q.places → ValidOutcome o → ValidPlaces (put_of f q o).places
  valid-put q Nothing v w = v
  valid-put q Started v w = valid-started q v
  valid-put q (Complete word stop splits) v w =
      valid-stored q.places q.lost (frame_of f word stop splits) v (record { «data» = data-lt word; splits = w })

  valid-waiting : (q : Queue) (s : Sampler) (o : Outcome) → WaitingFor f s q.places o → ValidWaiting f s (put_of f q o).places
  valid-waiting q s Nothing w = w
  valid-waiting q s Started w = none-waiting f s (started_of q).places (started_none q)
  valid-waiting q s (Complete word stop splits) w = w.1 _

  pub valid-listened : (rxen : Bool) (r : Receiver) (rxd : Bool) → ValidReceiver f r → ValidReceiver f (listened_of rxen f r rxd)
  unfolding listened_of
  valid-listened rxen r rxd v =
      pick_ind (ValidReceiver f) rxen _ _
      (λ e.
      let s = valid-sampler f r.sampler rxd v.sampler in
      let o : Outcome = (sampler_of f r.sampler rxd).outcome in
      record {
        sampler = s.sampler;
        places = valid-put r.queue o v.places s.outcome;
        waiting = valid-waiting r.queue _ o (waiting-tick f r.queue.places r.sampler rxd v.waiting);
      })
      (λ e. v)

pub valid-clock : (u : Usart) (rxd : Bool) → Valid u → Valid (clock_of u rxd)
unfolding clock_of listened_of
valid-clock u rxd v =
    pick_ind Valid (ticks u.baud) _ _
    (λ e. record {
      baud = valid-baud u.baud v.baud;
      sender = valid-sender u.format u.sender v.sender;
      receiver = valid-listened u.format u.control.rxen u.receiver rxd v.receiver;
      disabled = λ d. rw d (v.disabled d);
      counter = λ _. valid-counter u.baud (clash e);
    })
    (λ e. record {
      baud = valid-baud u.baud v.baud;
      sender = v.sender;
      receiver = v.receiver;
      disabled = v.disabled;
      counter = λ i. valid-counter u.baud (λ _. v.counter i);
    })

valid-taken : (p : Places) → ValidPlaces p → ValidPlaces (taken_from p)
valid-taken Empty v = tt
valid-taken (One a) v = tt
valid-taken (Two a b) v = v.1
valid-taken (Three a b c) v = v.1

pub valid-read : (u : Usart) (r : Register) → Valid u → Valid (read_of u r).after
valid-read u r v = each_read Valid u r (λ _. v)
    (λ _. record {
      baud = v.baud;
      sender = v.sender;
      receiver = record {
        sampler = v.receiver.sampler;
        places = valid-taken u.receiver.queue.places v.receiver.places;
        waiting = none-waiting u.format u.receiver.sampler (taken_from u.receiver.queue.places) (taken_none u.receiver.queue.places);
      };
      disabled = λ d. rw (v.disabled d);
      counter = v.counter;
    })

pub valid-reset : Valid reset_usart
valid-reset = record {
  baud = record { ubrr = lit< tt; left = lit< tt };
  sender = record { buffer = tt; shifter = tt };
  receiver = record { sampler = tt; places = tt; waiting = tt };
  disabled = λ _. refl;
  counter = λ _. lit≤ tt;
}

-- the unit with no frame in shift, buffer or reception: any format will do
record Clear (u : Usart) : Type 0 where
  vacant : is_vacant u.sender.buffer ≡ true
  resting : is_resting u.sender.shifter ≡ true
  idle : is_receiving u.receiver.sampler ≡ false

not-busy : (u : Usart) → is_busy u ≡ false → Clear u
unfolding is_busy
not-busy u e = by (is_vacant u.sender.buffer) (is_resting u.sender.shifter) refl refl e
  where
    by : (a b : Bool) → is_vacant u.sender.buffer ≡ a → is_resting u.sender.shifter ≡ b
        → pick a (pick b (is_receiving u.receiver.sampler) true) true ≡ false → Clear u
    by true true ea eb h = record { vacant = ea; resting = eb; idle = h }
    by true false ea eb h = clash refl h
    by false b ea eb h = clash refl h

clear-still : (u : Usart) → Clear u → is_in_shift u ≡ false
clear-still u c = rw c.resting c.idle

any-buffer : (f : Format) (b : Option ℕ) → is_vacant b ≡ true → ValidBuffer f b
any-buffer f None e = tt
any-buffer f (Some d) e = clash e refl

any-shifter : (f : Format) (s : Option Transmission) → is_resting s ≡ true → ValidShifter f s
any-shifter f None e = tt
any-shifter f (Some t) e = clash e refl

any-sampler : (f : Format) (p : Sampler) → is_receiving p ≡ false → ValidSampler f p
any-sampler f (Idle last) e = tt
any-sampler f (Receiving r) e = clash refl e

-- a format is taken only by a clear unit
valid-formatted : (u v : Usart) (busy : Bool) (g : Format) → Valid u → Valid v → (busy ≡ false → Clear v) → Valid (settled u (formatted_of v busy g))
unfolding formatted_of
valid-formatted u v busy g vu vv c =
    pick_ind (λ (w : Result Usart Refusal). Valid (settled u w)) busy _ _
    (λ e. pick_ind (λ (w : Result Usart Refusal). Valid (settled u w)) (eqb (settings_of g) (settings_of v.format)) _ _ (λ _. vv) (λ _. vu))
    (λ e. record {
      baud = vv.baud;
      sender = record { buffer = any-buffer g v.sender.buffer (c e).vacant; shifter = any-shifter g v.sender.shifter (c e).resting };
      receiver = record {
        sampler = any-sampler g v.receiver.sampler (c e).idle;
        places = vv.receiver.places;
        waiting = idle-waiting g v.receiver.sampler v.receiver.queue.places (c e).idle;
      };
      disabled = vv.disabled;
      counter = vv.counter;
    })

valid-acknowledged : (u : Usart) → Valid u → Valid (with_sender u (acknowledged_of u.sender))
valid-acknowledged u v = record {
  baud = v.baud;
  sender = record { buffer = v.sender.buffer; shifter = v.sender.shifter };
  receiver = v.receiver;
  disabled = v.disabled;
  counter = v.counter;
}

valid-enabled : (f : Format) (before after : Bool) (r : Receiver) → ValidReceiver f r → ValidReceiver f (enabled_of before after r)
unfolding enabled_of
valid-enabled f before after r v =
    let z : ValidReceiver f stopped = record { sampler = tt; places = tt; waiting = tt } in
    pick_ind (ValidReceiver f) before _ _ (λ _. pick_ind (ValidReceiver f) after _ _ (λ _. v) (λ _. z)) (λ _. z)

disabled-stopped : (before after : Bool) (r : Receiver) → after ≡ false → enabled_of before after r ≡ stopped
unfolding enabled_of
disabled-stopped true after r e = rw e
disabled-stopped false after r e = refl

idle-enabled : (before after : Bool) (r : Receiver) → is_receiving r.sampler ≡ false → is_receiving (enabled_of before after r).sampler ≡ false
unfolding enabled_of
idle-enabled before after r e =
    let F : Receiver → Type 0 = λ q. is_receiving q.sampler ≡ false in
    pick_ind F before _ _ (λ _. pick_ind F after _ _ (λ _. e) (λ _. refl)) (λ _. refl)

-- a write of RXEN begins no frame
still-enabled : (s : Option Transmission) (before after : Bool) (r : Receiver) → pick (is_resting s) (is_receiving (enabled_of before after r).sampler) true ≡ true
    → pick (is_resting s) (is_receiving r.sampler) true ≡ true
unfolding enabled_of
still-enabled None before after r =
    let F : Receiver → Type 0 = λ q. is_receiving q.sampler ≡ true → is_receiving r.sampler ≡ true in
    pick_ind F before _ _ (λ _. pick_ind F after _ _ (λ _ e. e) (λ _ e. clash e refl)) (λ _ e. clash e refl)
still-enabled (Some t) before after r = λ _. refl

-- what a write to A, B or C leaves, before the format is set
module _ (u : Usart) (x : ℕ) (v : Valid u) where
  valid-before : {w : Usart} → Before u x w → Valid w
  unfolding txc_cleared
  valid-before in_a = pick_ind Valid (is_set x 64) _ _ (λ _. valid-acknowledged u v) (λ _. v)
  valid-before in_b = record {
    baud = v.baud;
    sender = v.sender;
    receiver = valid-enabled u.format u.control.rxen (is_set x 16) u.receiver v.receiver;
    disabled = disabled-stopped u.control.rxen (is_set x 16) u.receiver;
    counter = λ i. v.counter (still-enabled u.sender.shifter u.control.rxen (is_set x 16) u.receiver i);
  }
  valid-before in_c = v

  clear-before : {w : Usart} → Clear u → Before u x w → Clear w
  unfolding txc_cleared
  clear-before c in_a =
      pick_ind Clear (is_set x 64) _ _ (λ _. record { vacant = c.vacant; resting = c.resting; idle = c.idle }) (λ _. c)
  clear-before c in_b = record {
    vacant = c.vacant;
    resting = c.resting;
    idle = idle-enabled u.control.rxen (is_set x 16) u.receiver c.idle;
  }
  clear-before c in_c = c

valid-timed : (u : Usart) (b : Baud) → Valid u → ValidBaud b → Valid (settled u (timed_of u b))
unfolding timed_of
valid-timed u b v vb =
    pick_ind (λ (w : Result Usart Refusal). Valid (settled u w)) (is_busy u) _ _ (λ _. v)
    (λ e. record {
      baud = vb;
      sender = v.sender;
      receiver = v.receiver;
      disabled = v.disabled;
      counter = λ i. clash i (clear-still u (not-busy u e));
    })

valid-timing : (u : Usart) (x : ℕ) {b : Baud} → x < 256 → ValidBaud u.baud → Timing u x b → ValidBaud b
valid-timing u x h v in_l =
    let n : u.baud.ubrr / 256 * 256 + x < 4096 = omega (arith, v.ubrr) in record { ubrr = n; left = n }
valid-timing u x h v (in_h l) = record { ubrr = omega arith; left = v.left }

valid-d : (u : Usart) (x : ℕ) → Valid u → Valid (transmitted_of u x)
unfolding transmitted_of
valid-d u x v =
    pick_ind Valid u.control.txen _ _
    (λ _. record {
      baud = v.baud;
      sender = record { buffer = by u.sender.buffer v.sender.buffer; shifter = v.sender.shifter };
      receiver = v.receiver;
      disabled = v.disabled;
      counter = v.counter;
    })
    (λ _. v)
  where
    by : (b : Option ℕ) → ValidBuffer u.format b → ValidBuffer u.format (buffer_of b (data_of u.format (digit u.control.txb8 * 256 + x)))
    by None vb = mod-lt _ (pow_pos (data_bits u.format.size))
    by (Some e) vb = vb

-- a written value is a byte
pub valid-write : (u : Usart) (r : Register) (x : ℕ) → x < 256 → Valid u → Valid (settled u (write_of u r x))
valid-write u r x h v = each_write {P = λ w. Valid (settled u w)} u x by r
  where
    by : Writes (λ w. Valid (settled u w)) u x
    by = record {
      refused = λ _. v;
      formatted = λ w f p. valid-formatted u w (is_busy u) f v (valid-before u x v p) (λ e. clear-before u x v (not-busy u e) p);
      timed = λ b p. valid-timed u b v (valid-timing u x h v.baud p);
      sent = valid-d u x v;
    }

pub valid-vector : (u : Usart) → Valid u → Valid (settled u (vector_of u))
unfolding vector_of
valid-vector u v = pick_ind (λ (w : Result Usart Refusal). Valid (settled u w)) (txc_requested u) _ _ (λ _. valid-acknowledged u v) (λ _. v)
