-- A clock that only counts, in place: what is looked at says whether it does, and the bytes that are stored make the
-- record of the device after it. Assumes nothing.
use Prim.Native.Nat.{ℕ, ◌+◌, ◌-◌, ◌<◌}
use mathlib.Core.Bool.{Bool, true, false, not}
use mathlib.Core.List.{List}
use mathlib.Core.Path.{◌≡◌, refl, sym, ap, ◌∙◌}
use native.Mathlib.Omega.{arith}
use lib.Dec.{eqb, ltb}
use lib.ListN.{length, get_or}
use borrow.Author.Tests.{ltb-true, ltb-false, lt-ltb, le-ltb}
use Rattle.std.proofs.Common.{None, Option, Some}
use Rattle.choice.proofs.Picks.{pick_true, pick-false, split}
use Rattle.usart.specs.Baud.{ticks, left_of}
use Rattle.usart.specs.Sender.{is_resting}
use Rattle.usart.specs.Sampler.{is_receiving}
use Rattle.usart.specs.Receiver.{stopped}
use Rattle.usart.specs.Counting.{counted_shifter, counted_sampler, counted_receiver}
use Rattle.usart.specs.declared.sender.Transmission.{Transmission}
use Rattle.usart.specs.declared.sampler.Sampler.{Sampler}
use Rattle.usart.specs.declared.sampler.Sampler.TheVariants.{Idle, Receiving}
use Rattle.usart.specs.declared.receiver.Receiver.{Receiver}
use Rattle.device.specs.Valid.{Valid}
use Rattle.device.specs.Counting.{counted_usart, counted_device}
use Rattle.device.specs.declared.unit.Device.{Device}
use Rattle.record.specs.Layout.{record_length, most, left_byte, byte_at, word_at, low, high}
use Rattle.record.specs.Parts.{transmission_in, remembered_in, reception_in}
use Rattle.record.specs.Image.{bit, image_of}
use Rattle.record.specs.Lift.{device_at}
use Rattle.record.specs.Accepts.{accepts}
use Rattle.record.specs.Codec.{record_of}
use Rattle.record.specs.InPlace.{ticked_over, waited_over, advanced_over}
use Rattle.record.proofs.CodeLaws.{word-parts}
use Rattle.record.proofs.BytesLaws.{limit, valid-device, image-again, Same, done, ◌▹◌, same_lists}

-- some are left exactly where the one number is below the other
pub over : (a b : ℕ) → ltb a b ≡ ltb 0 (b - a)
over a b = split (ltb a b) (λ e. e ∙ sym (lt-ltb 0 (b - a) (let h = ltb-true a b e in omega arith)))
    (λ e. e ∙ sym (le-ltb 0 (b - a) (let h = ltb-false a b e in omega arith)))

-- the bytes that are stored

-- one more of a bit that is being sent
sent-ticks : (s : Option Transmission) → (transmission_in s).sample.0 + bit (not (is_resting s)) ≡ (transmission_in (counted_shifter s 1)).sample.0
sent-ticks None = refl
sent-ticks (Some t) = refl

record SentAs (a b : Option Transmission) : Type 0 where
  sending : is_resting a ≡ is_resting b
  word : (transmission_in a).word ≡ (transmission_in b).word
  bit : (transmission_in a).bit ≡ (transmission_in b).bit

sent-as : (s : Option Transmission) → SentAs s (counted_shifter s 1)
sent-as None = record { sending = refl; word = refl; bit = refl }
sent-as (Some t) = record { sending = refl; word = refl; bit = refl }

-- .. or received
received-samples : (s : Sampler) → (reception_in s).sample.0 + bit (is_receiving s) ≡ (reception_in (counted_sampler s 1)).sample.0
received-samples (Idle last) = refl
received-samples (Receiving r) = refl

record ReceivedAs (a b : Sampler) : Type 0 where
  receiving : is_receiving a ≡ is_receiving b
  last : remembered_in a ≡ remembered_in b
  bit : (reception_in a).bit ≡ (reception_in b).bit
  first : (reception_in a).first ≡ (reception_in b).first
  second : (reception_in a).second ≡ (reception_in b).second
  word : (reception_in a).word ≡ (reception_in b).word
  splits : (reception_in a).splits ≡ (reception_in b).splits

received_as : (s : Sampler) → ReceivedAs s (counted_sampler s 1)
received_as (Idle last) = record { receiving = refl; last = refl; bit = refl; first = refl; second = refl; word = refl; splits = refl }
received_as (Receiving r) = record { receiving = refl; last = refl; bit = refl; first = refl; second = refl; word = refl; splits = refl }

-- a disabled receiver is idle, so it has nothing to count
counted-receiver : (rxen : Bool) (r : Receiver) → (rxen ≡ false → r ≡ stopped)
    → counted_receiver rxen r 1 ≡ record { sampler = counted_sampler r.sampler 1; queue = r.queue }
unfolding counted_receiver
counted-receiver true r h = refl
counted-receiver false r h = ap (λ (x : Receiver). record { sampler = x.sampler; queue = r.queue }) (h refl) ∙ ap (λ (x : Receiver). record { sampler = counted_sampler x.sampler 1; queue = r.queue }) (sym (h refl))

module _ (d : Device) (v : Valid d) where
  abbrev shifter : Option Transmission
  shifter = d.usart.sender.shifter

  abbrev sampler : Sampler
  sampler = d.usart.receiver.sampler

  abbrev counted : Device
  counted = record {
    usart = record {
      baud = record { ubrr = d.usart.baud.ubrr; left = record { 0 = d.usart.baud.ubrr } };
      format = d.usart.format;
      control = d.usart.control;
      sender = record { buffer = d.usart.sender.buffer; shifter = counted_shifter shifter 1; txc = d.usart.sender.txc };
      receiver = record { sampler = counted_sampler sampler 1; queue = d.usart.receiver.queue };
    };
    spi = d.spi;
  }

  ticked-same : Same (ticked_over (image_of d)) (image_of counted)
  ticked-same =
      let a = sent-as shifter in
      let b = received_as sampler in
      refl ▹ refl ▹ refl ▹ refl ▹ refl ▹ refl ▹ refl ▹ refl
      ▹ refl ▹ refl ▹ refl
      ▹ ap (λ (x : Bool). bit (not x)) a.sending ▹ ap low a.word ▹ ap high a.word ▹ a.bit ▹ sent-ticks shifter
      ▹ ap bit b.receiving ▹ ap bit b.last ▹ b.bit ▹ received-samples sampler
      ▹ ap bit b.first ▹ ap bit b.second ▹ ap low b.word ▹ ap high b.word
      ▹ b.splits ▹ refl ▹ refl ▹ refl ▹ refl ▹ refl ▹ refl ▹ refl
      ▹ refl ▹ refl ▹ refl ▹ refl ▹ refl ▹ refl ▹ refl ▹ refl
      ▹ refl ▹ refl ▹ refl ▹ refl ▹ refl ▹ refl ▹ refl ▹ refl
      ▹ refl ▹ refl ▹ refl ▹ refl ▹ refl ▹ refl ▹ refl ▹ refl
      ▹ refl ▹ refl ▹ refl ▹ refl ▹ refl ▹ refl ▹ refl ▹ refl
      ▹ done

  counted_is : ticks d.usart.baud ≡ true → counted_device d ≡ counted
  unfolding counted_usart left_of
  counted_is e = rw (e, counted-receiver d.usart.control.rxen d.usart.receiver v.usart.disabled)

  ticked-image : ticks d.usart.baud ≡ true → ticked_over (image_of d) ≡ image_of (counted_device d)
  ticked-image e = same_lists _ _ ticked-same ∙ ap image_of (sym (counted_is e))

  waited-image : ticks d.usart.baud ≡ false → waited_over (image_of d) ≡ image_of (counted_device d)
  unfolding counted_usart left_of
  waited-image e =
      let l : d.usart.baud.left.0 < 4096 = v.usart.baud.left in
      rw (e, word-parts d.usart.baud.left.0 (omega arith))

  advanced-image : advanced_over (image_of d) ≡ image_of (counted_device d)
  unfolding advanced_over
  advanced-image =
      let l : d.usart.baud.left.0 < 4096 = v.usart.baud.left in
      let e : word_at (image_of d) left_byte ≡ d.usart.baud.left.0 = word-parts d.usart.baud.left.0 (omega arith) in
      split (ticks d.usart.baud)
      (λ k. sym (pick_true _ _ _ _ (ap (λ (n : ℕ). eqb n 0) e ∙ k) (sym (ticked-image k))))
      (λ k. sym (pick-false _ _ _ _ (ap (λ (n : ℕ). eqb n 0) e ∙ k) (sym (waited-image k))))

-- of an accepted record it is the record of the device after the clock
pub advanced : (s : List ℕ) → accepts s ≡ true → length s ≡ record_length → advanced_over s ≡ record_of (counted_device (device_at s))
unfolding record_of
advanced s h n = ap advanced_over (sym (image-again s h n)) ∙ advanced-image (device_at s) (valid-device s h)

-- two bytes whose limits are small
pub sum_fits : (s : List ℕ) → accepts s ≡ true → (i j : ℕ) → i < record_length → j < record_length → get_or most i 0 + get_or most j 0 < 256 → byte_at s i + byte_at s j < 256
sum_fits s h i j hi hj k = let a = limit s h i hi in let b = limit s h j hj in omega arith
