-- A record is refused exactly when its length, a field or an unused byte is not as it must be. Assumes nothing.
use Prim.Native.Nat.{ℕ, zero, suc, ◌<◌, ◌≤◌}
use mathlib.Core.Bool.{Bool, true, false, not, ◌&&◌}
use mathlib.Core.List.{List, [], ◌∷◌}
use mathlib.Core.Path.{◌≡◌, refl, sym, ap, ap₂, ◌∙◌}
use native.Mathlib.Decide.{dec_lt}
use native.Mathlib.Omega.{arith}
use lib.Dec.{eqb, leb}
use lib.ListN.{length, get_or}
use borrow.Author.Tests.{eqb-true, eqb-false, leb-false, eq-eqb, ne_eqb, lt-ltb, le-leb, not-true}
use Rattle.std.proofs.Common.{Err, Ok, Result, Some}
use Rattle.choice.specs.Pick.{pick}
use Rattle.choice.proofs.Picks.{pick_true, pick-false, both, split, clash}
use Rattle.usart.specs.Sender.{is_resting}
use Rattle.usart.specs.Sampler.{is_receiving}
use Rattle.usart.specs.Valid.{voted_bits, ValidBuffer, ValidShifter, ValidSampler, ValidWaiting}
use Rattle.usart.specs.declared.sender.Transmission.{Transmission}
use Rattle.usart.specs.declared.sampler.Reception.{Reception}
use Rattle.usart.specs.declared.sampler.Sampler.TheVariants.{Receiving}
use Rattle.usart.specs.declared.queue.Places.TheVariants.{Three}
use Rattle.usart.proofs.TallyLaws.{voted-before}
use Rattle.device.specs.declared.unit.Device.{Device}
use Rattle.record.specs.Layout.{record_length, layout_number, layout_byte, ucsr0a_byte, ucsr0b_byte, ucsr0c_byte, full_byte, data_byte, sending_byte}
use Rattle.record.specs.Layout.{sent_word_byte, sent_bit_byte, sent_ticks_byte, receiving_byte, last_byte, bit_byte, samples_byte, first_byte, second_byte}
use Rattle.record.specs.Layout.{word_byte, splits_byte, held_byte, waits_byte, lost_byte, oldest_byte, next_byte, third_byte, most, byte_at, word_at, triple_at, set_at}
use Rattle.record.specs.Parts.{buffer_from, shifter_from, sampler_from, places_from, remembered_in}
use Rattle.record.specs.Lift.{baud_at, format_at, control_at, transmission_at, reception_at, sampler_at, frame_at, receiver_at, spi_at, device_at}
use Rattle.record.specs.Accepts.{is_within, settings_fit, counter_fits, buffer_fits, is_no_transmission, shifter_fits, is_no_reception, sampler_fits, places_fit, waiting_fits, enabled_fits, usart_fits, accepts, is_record}
use Rattle.record.specs.Codec.{decode_of}
use Rattle.record.specs.Refusing.{OthersZero, is_unused, FieldsInRange, NoRecord, wrong_length, out_of_range, unused_byte}
use Rattle.record.proofs.ListLaws.{and_both, and-pair}
use Rattle.record.proofs.TestLaws.{three, and-three, counter-fits, shifter-fits, sampler-fits, sampler-shown}
use Rattle.record.proofs.QueueLaws.{none-voted, places_count, enabled-fits}
use Rattle.record.proofs.SpiTestLaws.{spi-fits}
use Rattle.record.proofs.BytesLaws.{within-at, tests, serial, limit, registers, valid-device, refused-record}
use Rattle.answer.specs.declared.Refusal.{Refusal}
use Rattle.answer.specs.declared.Refusal.TheVariants.{Record}

-- bytes within their limits, one by one and all together

all-within : (xs ms : List ℕ) → ((i : ℕ) → i < length ms → get_or xs i 0 ≤ get_or ms i 0) → is_within xs ms ≡ true
unfolding is_within
all-within [] ms h = refl
all-within (x ∷ xs) [] h = refl
all-within (x ∷ xs) (m ∷ ms) h =
    sym (pick_true _ _ _ _ (le-leb x m (h 0 (omega arith))) (sym (all-within xs ms (λ i l. h (suc i) (omega arith)))))

-- or one that is not
record Above (xs ms : List ℕ) : Type 0 where
  at : ℕ
  within : at < length ms
  more : get_or ms at 0 < get_or xs at 0

above : (xs ms : List ℕ) → is_within xs ms ≡ false → Above xs ms
unfolding is_within
above [] ms h = clash refl h
above (x ∷ xs) [] h = clash refl h
above (x ∷ xs) (m ∷ ms) h = split (leb x m)
    (λ e. let a = above xs ms (ap (λ (t : Bool). pick t (is_within xs ms) false) (sym e) ∙ h) in record { at = suc a.at; within = let w = a.within in omega arith; more = a.more })
    (λ e. record { at = 0; within = omega arith; more = leb-false x m e })

-- what is accepted is in its ranges

zero_flag : (x : ℕ) → x ≤ 1 → eqb x 1 ≡ false → x ≡ 0
zero_flag x h e = let n = eqb-false x 1 e in omega arith

module _ (s : List ℕ) (h : accepts s ≡ true) where
  others-zero : OthersZero s
  unfolding buffer_fits shifter_fits sampler_fits places_fit waiting_fits
  others-zero = record {
    buffer = λ e. eqb-true (word_at s data_byte) 0 (no_buffer (set_at s full_byte) (not_set full_byte e) (serial s h).buffer);
    sent = λ e.
        let t = three (eqb (word_at s sent_word_byte) 0) (eqb (byte_at s sent_bit_byte) 0) (eqb (byte_at s sent_ticks_byte) 0)
        (no-shifter (set_at s sending_byte) (not_set sending_byte e) (serial s h).shifter) in
        (eqb-true _ 0 t.0, (eqb-true _ 0 t.1.0, eqb-true _ 0 t.1.1));
    last = λ e. no_last e (serial s h).sampler;
    bit = λ e. let t = idle e in (t.0, t.1.0);
    votes = λ e. let t = idle e in (zero_flag _ (limit s h first_byte (omega arith)) t.1.1.0, zero_flag _ (limit s h second_byte (omega arith)) t.1.1.1.0);
    word = λ e. (idle e).1.1.1.1.0;
    splits = λ e. (idle e).1.1.1.1.1;
    oldest = λ e. no-oldest (byte_at s held_byte) e (serial s h).places;
    second = λ e. no_second (byte_at s held_byte) e (serial s h).places;
    waits = λ e. zero_flag _ (limit s h waits_byte (omega arith)) (not-waiting (set_at s waits_byte) e (serial s h).waiting);
    waiting = λ e. eqb-true _ 0 (no_third (set_at s waits_byte) (not_set waits_byte e) (serial s h).waiting);
  }
    where
      not_set : (i : ℕ) → byte_at s i ≡ 0 → set_at s i ≡ false
      not_set i e = ne_eqb (byte_at s i) 1 (λ k. omega arith)

      no_buffer : (t : Bool) → t ≡ false → buffer_fits (format_at s) t (word_at s data_byte) ≡ true → eqb (word_at s data_byte) 0 ≡ true
      no_buffer true e k = clash refl e
      no_buffer false e k = k

      no-shifter : (t : Bool) → t ≡ false → shifter_fits (format_at s) t (transmission_at s) ≡ true → is_no_transmission (transmission_at s) ≡ true
      no-shifter true e k = clash refl e
      no-shifter false e k = k

      no-sampler : (t l : Bool) → t ≡ false → sampler_fits (format_at s) t l (reception_at s) ≡ true → is_no_reception (reception_at s) ≡ true
      no-sampler true l e k = clash refl e
      no-sampler false l e k = k

      idle : byte_at s receiving_byte ≡ 0 → (byte_at s bit_byte ≡ 0) × ((byte_at s samples_byte ≡ 0) × ((set_at s first_byte ≡ false) × ((set_at s second_byte ≡ false) × ((word_at s word_byte ≡ 0) × (byte_at s splits_byte ≡ 0)))))
      idle e =
          let r = reception_at s in
          let c = and_both (eqb r.bit 0 && eqb r.sample.0 0 && not r.first && not r.second && eqb r.word 0) (eqb r.splits 0)
          (no-sampler (set_at s receiving_byte) (set_at s last_byte) (not_set receiving_byte e) (serial s h).sampler) in
          let a = and_both (eqb r.bit 0 && eqb r.sample.0 0 && not r.first && not r.second) (eqb r.word 0) c.0 in
          let b = and_both (eqb r.bit 0 && eqb r.sample.0 0 && not r.first) (not r.second) a.0 in
          let w = three (eqb r.bit 0) (eqb r.sample.0 0) (not r.first) b.0 in
          (eqb-true _ 0 w.0, (eqb-true _ 0 w.1.0, (not-true _ w.1.1, (not-true _ b.1, (eqb-true _ 0 a.1, eqb-true _ 0 c.1)))))

      last-low : (t l : Bool) → t ≡ true → sampler_fits (format_at s) t l (reception_at s) ≡ true → l ≡ false
      last-low true true e k = clash k refl
      last-low true false e k = refl
      last-low false l e k = clash e refl

      no_last : byte_at s receiving_byte ≡ 1 → sampler_fits (format_at s) (set_at s receiving_byte) (set_at s last_byte) (reception_at s) ≡ true → byte_at s last_byte ≡ 0
      no_last e k =
          zero_flag (byte_at s last_byte) (limit s h last_byte (omega arith)) (last-low (set_at s receiving_byte) (set_at s last_byte) (eq-eqb (byte_at s receiving_byte) 1 e) k)

      no-oldest : (n : ℕ) → n ≡ 0 → places_fit n (triple_at s oldest_byte) (triple_at s next_byte) ≡ true → triple_at s oldest_byte ≡ 0
      no-oldest zero e k = eqb-true (triple_at s oldest_byte) 0 (and_both (eqb (triple_at s next_byte) 0) (eqb (triple_at s oldest_byte) 0) k).1
      no-oldest (suc n) e k = absurd (omega (arith, e))

      no_second : (n : ℕ) → n < 2 → places_fit n (triple_at s oldest_byte) (triple_at s next_byte) ≡ true → triple_at s next_byte ≡ 0
      no_second zero e k = eqb-true (triple_at s next_byte) 0 (and_both (eqb (triple_at s next_byte) 0) (eqb (triple_at s oldest_byte) 0) k).0
      no_second (suc zero) e k = eqb-true (triple_at s next_byte) 0 k
      no_second (suc (suc n)) e k = absurd (omega (arith, e))

      not-waiting : (t : Bool) → byte_at s held_byte < 2 → waiting_fits (format_at s) (reception_at s) (byte_at s held_byte) t (triple_at s third_byte) ≡ true → t ≡ false
      not-waiting true l k =
          absurd (let e = eqb-true (byte_at s held_byte) 2 (and_both (eqb (byte_at s held_byte) 2) (eqb (voted_bits (format_at s) (reception_at s)) 0) k).0 in omega arith)
      not-waiting false l k = refl

      no_third : (t : Bool) → t ≡ false → waiting_fits (format_at s) (reception_at s) (byte_at s held_byte) t (triple_at s third_byte) ≡ true
          → eqb (triple_at s third_byte) 0 ≡ true
      no_third true e k = clash refl e
      no_third false e k = k

  in-range : FieldsInRange s
  in-range = record {
    limits = λ i l _. limit s h i l;
    layout = (tests s h).layout;
    settings = let r = registers s h in record { mpcm = r.mpcm; flags = r.others; rxb8 = r.rxb8; ucpol = r.ucpol; upm = λ e. clash (eq-eqb _ 1 e) r.upm; size = r.size };
    others = others-zero;
    device = valid-device s h;
  }

-- and what is in its ranges, with its unused bytes zero, is accepted

module _ (s : List ℕ) (v : FieldsInRange s) (unused : (i : ℕ) → i < record_length → is_unused i ≡ true → byte_at s i ≡ 0) where
  within : (i : ℕ) → i < record_length → byte_at s i ≤ get_or most i 0
  within i l = split (is_unused i) (λ e. let z = unused i l e in omega arith) (λ e. v.limits i l e)

  flag_off : (i : ℕ) → byte_at s i ≤ 1 → set_at s i ≡ false → byte_at s i ≡ 0
  flag_off i l e = zero_flag (byte_at s i) l e

  settings : settings_fit (byte_at s ucsr0a_byte) (byte_at s ucsr0b_byte) (byte_at s ucsr0c_byte) ≡ true
  settings =
      let r = v.settings in
      and-pair _ _
      (and-pair _ _
      (and-pair _ _
      (and-pair _ _ (and-pair _ _ (eq-eqb _ 0 r.mpcm) (eq-eqb _ 0 r.flags)) (eq-eqb _ 0 r.rxb8))
      (eq-eqb _ 0 r.ucpol))
      (ap not (ne_eqb _ 1 r.upm)))
      r.size

  buffer-test : (full : Bool) → ValidBuffer (format_at s) (buffer_from full (word_at s data_byte)) → (full ≡ false → word_at s data_byte ≡ 0)
      → buffer_fits (format_at s) full (word_at s data_byte) ≡ true
  unfolding buffer_fits buffer_from
  buffer-test true w z = lt-ltb _ _ w
  buffer-test false w z = eq-eqb _ 0 (z refl)

  shifter-test : (sending : Bool) → ValidShifter (format_at s) (shifter_from sending (transmission_at s))
      → (sending ≡ false → (word_at s sent_word_byte ≡ 0) × ((byte_at s sent_bit_byte ≡ 0) × (byte_at s sent_ticks_byte ≡ 0)))
      → shifter_fits (format_at s) sending (transmission_at s) ≡ true
  unfolding shifter_fits shifter_from
  shifter-test true w z = shifter-fits (format_at s) (Some (transmission_at s)) w
  shifter-test false w z =
      let q = z refl in and-three _ _ _ (eq-eqb _ 0 q.0) (eq-eqb _ 0 q.1.0) (eq-eqb _ 0 q.1.1)

  sampler-test : (receiving last : Bool) → ValidSampler (format_at s) (sampler_from receiving last (reception_at s)) → (receiving ≡ true → last ≡ false)
      → (receiving ≡ false → is_no_reception (reception_at s) ≡ true) → sampler_fits (format_at s) receiving last (reception_at s) ≡ true
  unfolding sampler_fits sampler_from
  sampler-test true true w l z = clash refl (l refl)
  sampler-test true false w l z = sampler-fits (format_at s) (Receiving (reception_at s)) w
  sampler-test false last w l z = z refl

  not-one : {x : ℕ} → x ≡ 0 → eqb x 1 ≡ false
  not-one {x} e = ne_eqb x 1 (λ k. omega arith)

  no-reception : byte_at s receiving_byte ≡ 0 → is_no_reception (reception_at s) ≡ true
  no-reception e =
      let b = v.others.bit e in
      let w = v.others.votes e in
      and-pair _ _
      (and-pair _ _
      (and-pair _ _ (and-three _ _ _ (eq-eqb _ 0 b.0) (eq-eqb _ 0 b.1) (ap not (not-one w.0))) (ap not (not-one w.1)))
      (eq-eqb _ 0 (v.others.word e)))
      (eq-eqb _ 0 (v.others.splits e))

  places-test : (n : ℕ) → (n ≡ 0 → triple_at s oldest_byte ≡ 0) → (n < 2 → triple_at s next_byte ≡ 0) → n ≤ 2 → places_fit n (triple_at s oldest_byte) (triple_at s next_byte) ≡ true
  unfolding places_fit
  places-test zero a b l = and-pair _ _ (eq-eqb _ 0 (b (omega arith))) (eq-eqb _ 0 (a refl))
  places-test (suc zero) a b l = eq-eqb _ 0 (b (omega arith))
  places-test (suc (suc zero)) a b l = refl
  places-test (suc (suc (suc n))) a b l = absurd (omega arith)

  -- with no frame under way no bit is decided
  undecided : is_no_reception (reception_at s) ≡ true → voted_bits (format_at s) (reception_at s) ≡ 0
  undecided e =
      let r = reception_at s in
      let a = and_both _ (eqb r.splits 0) e in
      let b = and_both _ (eqb r.word 0) a.0 in
      let c = and_both _ (not r.second) b.0 in
      let w = three (eqb r.bit 0) (eqb r.sample.0 0) (not r.first) c.0 in
      let z = eqb-true r.sample.0 0 w.1.0 in
      voted-before (format_at s) r (omega arith) ∙ eqb-true r.bit 0 w.0

  waiting-test : (receiving last : Bool) (n : ℕ) (waits : Bool) → n ≤ 2 → (waits ≡ true → n ≡ 2) → (waits ≡ false → triple_at s third_byte ≡ 0)
      → (receiving ≡ false → is_no_reception (reception_at s) ≡ true)
      → ValidWaiting (format_at s) (sampler_from receiving last (reception_at s)) (places_from n waits (frame_at s oldest_byte) (frame_at s next_byte) (frame_at s third_byte))
      → waiting_fits (format_at s) (reception_at s) n waits (triple_at s third_byte) ≡ true
  unfolding waiting_fits sampler_from places_from
  waiting-test receiving last n false l t z i v = eq-eqb _ 0 (z refl)
  waiting-test receiving last zero true l t z i v = absurd (let e = t refl in omega arith)
  waiting-test receiving last (suc zero) true l t z i v = absurd (let e = t refl in omega arith)
  waiting-test false last (suc (suc zero)) true l t z i v = and-pair _ _ refl (eq-eqb _ 0 (undecided (i refl)))
  waiting-test true last (suc (suc zero)) true l t z i v =
      and-pair _ _ refl (eq-eqb _ 0 (none-voted (format_at s) (Receiving (reception_at s)) (Three (frame_at s oldest_byte) (frame_at s next_byte) (frame_at s third_byte)) v refl))
  waiting-test receiving last (suc (suc (suc n))) true l t z i v = absurd (omega arith)

  rests : (t : Bool) (x : Transmission) → is_resting (shifter_from t x) ≡ not t
  unfolding shifter_from
  rests true x = refl
  rests false x = refl

  receives : (t l : Bool) (x : Reception) → is_receiving (sampler_from t l x) ≡ t
  unfolding sampler_from
  receives true l x = refl
  receives false l x = refl

  in_shift : (t r : Bool) → pick (not t) r true ≡ pick t true r
  in_shift true r = refl
  in_shift false r = refl

  sampler-holds : sampler_fits (format_at s) (set_at s receiving_byte) (set_at s last_byte) (reception_at s) ≡ true
  sampler-holds =
      sampler-test (set_at s receiving_byte) (set_at s last_byte) v.device.usart.receiver.sampler
      (λ e. not-one (v.others.last (eqb-true _ 1 e)))
      (λ e. no-reception (flag_off receiving_byte (within receiving_byte (omega arith)) e))

  counter_holds : counter_fits (set_at s sending_byte) (set_at s receiving_byte) (baud_at s) ≡ true
  counter_holds =
      counter-fits (set_at s sending_byte) (set_at s receiving_byte) (baud_at s)
      (λ e. v.device.usart.counter
      (ap₂ (λ (x y : Bool). pick x y true) (rests (set_at s sending_byte) (transmission_at s)) (receives (set_at s receiving_byte) (set_at s last_byte) (reception_at s))
      ∙ in_shift (set_at s sending_byte) (set_at s receiving_byte) ∙ e))

  waiting-holds : waiting_fits (format_at s) (reception_at s) (byte_at s held_byte) (set_at s waits_byte) (triple_at s third_byte) ≡ true
  waiting-holds =
      let l = within held_byte (omega arith) in
      waiting-test (set_at s receiving_byte) (set_at s last_byte) (byte_at s held_byte) (set_at s waits_byte) l two
      (λ e. v.others.waiting (flag_off waits_byte (within waits_byte (omega arith)) e))
      (λ e. no-reception (flag_off receiving_byte (within receiving_byte (omega arith)) e))
      v.device.usart.receiver.waiting
    where
      two : set_at s waits_byte ≡ true → byte_at s held_byte ≡ 2
      two e = elim (dec_lt (byte_at s held_byte) 2) [
        | yes k ↦ absurd (let z = v.others.waits k in let o = eqb-true (byte_at s waits_byte) 1 e in omega arith)
        | no k ↦ let l = within held_byte (omega arith) in omega arith
      ]

  enabled-holds : enabled_fits (control_at s).rxen (set_at s receiving_byte) (set_at s last_byte) (byte_at s held_byte) (set_at s lost_byte) ≡ true
  enabled-holds =
      let q = sampler-shown (format_at s) (set_at s receiving_byte) (set_at s last_byte) (reception_at s) sampler-holds in
      let n = places_count (byte_at s held_byte) (set_at s waits_byte) (frame_at s oldest_byte) (frame_at s next_byte) (frame_at s third_byte) (within held_byte (omega arith)) in
      sym (ap₂ (λ (x y : Bool). enabled_fits (control_at s).rxen x y (byte_at s held_byte) (set_at s lost_byte)) q.0 q.1.0)
      ∙ sym (ap (λ (k : ℕ). enabled_fits (control_at s).rxen (is_receiving (sampler_at s)) (remembered_in (sampler_at s)) k (set_at s lost_byte)) n)
      ∙ enabled-fits (control_at s).rxen (receiver_at s) v.device.usart.disabled

  serial-holds : usart_fits s ≡ true
  unfolding usart_fits
  serial-holds =
      rw (
        counter_holds,
        buffer-test (set_at s full_byte) v.device.usart.sender.buffer (λ e. v.others.buffer (flag_off full_byte (within full_byte (omega arith)) e)),
        shifter-test (set_at s sending_byte) v.device.usart.sender.shifter (λ e. v.others.sent (flag_off sending_byte (within sending_byte (omega arith)) e)),
        sampler-holds,
        places-test (byte_at s held_byte) v.others.oldest v.others.second (within held_byte (omega arith)),
        waiting-holds,
      )
      enabled-holds

  accepted : accepts s ≡ true
  unfolding accepts
  accepted =
      rw (all-within s most within, eq-eqb (byte_at s layout_byte) layout_number v.layout, settings, serial-holds)
      (spi-fits (spi_at s) v.device.spi)

-- number 5

refused-test : (s : List ℕ) → decode_of s ≡ (Err Record) → length s ≡ record_length → accepts s ≡ false
unfolding decode_of is_record
refused-test s h n = split (accepts s)
    (λ e. absurd (let a : Ok (device_at s) ≡ decode_of s = pick_true _ _ _ _ (sym (pick_true _ _ _ _ (eq-eqb (length s) record_length n) (sym e))) refl in let z : ◌≡◌ {A = ℕ} 0 1 = cc in omega arith))
    (λ e. e)

no_record : (s : List ℕ) → decode_of s ≡ (Err Record) → NoRecord s
no_record s h = split (eqb (length s) record_length)
    (λ n. by_bytes (refused-test s h (eqb-true _ _ n)))
    (λ n. wrong_length (eqb-false _ _ n))
  where
    by_bytes : accepts s ≡ false → NoRecord s
    by_bytes e = split (is_within s most)
        (λ w. out_of_range (λ v. clash (accepted s v (λ i l u. let m = within-at s most w i l in let z = eqb-true (get_or most i 0) 0 u in omega arith)) e))
        (λ w.
        let a = above s most w in
        split (is_unused a.at)
        (λ u. unused_byte a.at a.within u (λ z. let m = a.more in omega arith))
        (λ u. out_of_range (λ v. let m = a.more in let k = v.limits a.at a.within u in omega arith)))

accepted-tests : (s : List ℕ) (d : Device) → decode_of s ≡ Ok d → (length s ≡ record_length) × (accepts s ≡ true)
unfolding decode_of is_record
accepted-tests s d h = split (is_record s)
    (λ e. let p = both (eqb (length s) record_length) (accepts s) e in (eqb-true _ _ p.0, p.1))
    (λ e. absurd (let a : (Err Record) ≡ decode_of s = pick-false _ _ _ _ e refl in let z : ◌≡◌ {A = ℕ} 0 1 = cc in omega arith))

unfit : (s : List ℕ) (r : Result Device Refusal) → decode_of s ≡ r → NoRecord s → r ≡ (Err Record)
unfit s (Err r) e n = refused-record s r e
unfit s (Ok d) e n = let t = accepted-tests s d e in absurd (against n t.0 t.1)
  where
    against : NoRecord s → length s ≡ record_length → accepts s ≡ true → ⊥
    against (wrong_length f) l a = f l
    against (out_of_range f) l a = f (in-range s a)
    against (unused_byte i b u f) l a = f (let m = limit s a i b in let z = eqb-true (get_or most i 0) 0 u in omega arith)

pub five : (s : List ℕ) → (decode_of s ≡ (Err Record) → NoRecord s) × (NoRecord s → decode_of s ≡ (Err Record))
five s = (no_record s, unfit s (decode_of s) refl)
