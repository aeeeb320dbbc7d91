-- What is true of every accepted record, a line each: no rule of document 01 is broken in it. Assumes nothing.
use Prim.Native.Nat.{ℕ, ◌+◌, ◌≤◌}
use mathlib.Core.Bool.{true, false}
use mathlib.Core.List.{List}
use mathlib.Core.Path.{◌≡◌, refl, sym, ap, subst, ◌∙◌}
use native.Mathlib.Omega.{arith}
use Rattle.std.proofs.Common.{Ok, Some}
use Rattle.choice.proofs.Picks.{split, clash}
use Rattle.frame.specs.Format.{first_vote}
use Rattle.frame.specs.Word.{word_of, parity_error}
use Rattle.frame.proofs.WordLaws.{frame-parity}
use Rattle.usart.specs.Valid.{voted_bits, ValidShifter, ValidSampler, is_in_shift}
use Rattle.usart.specs.declared.sender.Transmission.{Transmission}
use Rattle.usart.specs.declared.sampler.Reception.{Reception}
use Rattle.usart.specs.declared.sampler.Sampler.{Sampler}
use Rattle.usart.specs.declared.sampler.Sampler.TheVariants.{Receiving}
use Rattle.usart.specs.declared.queue.Places.{Places}
use Rattle.usart.specs.declared.queue.Places.TheVariants.{Empty, One, Two, Three}
use Rattle.spi.specs.Control.{is_master, mode_of}
use Rattle.spi.specs.Unit.{sck_of}
use Rattle.spi.specs.Valid.{is_first_out, first_bit}
use Rattle.device.specs.Unit.{split_votes}
use Rattle.device.specs.Valid.{Valid}
use Rattle.device.specs.declared.unit.Device.{Device}
use Rattle.record.specs.Parts.{reception_in, held_count, second_in, is_waiting, third_in}
use Rattle.record.specs.Codec.{decode_of}
use Rattle.record.proofs.LiftLaws.{valid-oldest, valid-second, valid-third}
use Rattle.record.proofs.QueueLaws.{none-voted}
use Rattle.record.proofs.Round.{decode-valid}

module _ (s : List ℕ) (d : Device) (h : decode_of s ≡ Ok d) where
  v : Valid d
  v = decode-valid s d h

  -- a frame in the shifter is the frame of its data
  pub sent-frame : (t : Transmission) → d.usart.sender.shifter ≡ Some t → word_of d.usart.format t.word ≡ t.word
  sent-frame t e = (subst (ValidShifter d.usart.format) e v.usart.sender.shifter).word

  -- .. so whoever receives it finds no parity error
  pub sent-parity : (t : Transmission) → d.usart.sender.shifter ≡ Some t → parity_error d.usart.format t.word ≡ false
  sent-parity t e = frame-parity d.usart.format t.word (sent-frame t e)

  received : (r : Reception) → d.usart.receiver.sampler ≡ Receiving r → ValidSampler d.usart.format (Receiving r)
  received r e = subst (ValidSampler d.usart.format) e v.usart.receiver.sampler

  -- no vote is kept before it is cast, nor once its bit is decided
  pub votes-early : (r : Reception) → d.usart.receiver.sampler ≡ Receiving r → r.sample.0 + 1 ≤ first_vote d.usart.format → (r.first ≡ false) × (r.second ≡ false)
  votes-early r e l = (
    split r.first (λ k. let w = ((received r e).first k).0 in absurd (omega arith)) (λ k. k),
    split r.second (λ k. let w = (received r e).second k in absurd (omega arith)) (λ k. k),
  )

  pub votes-spent : (r : Reception) → d.usart.receiver.sampler ≡ Receiving r → first_vote d.usart.format + 2 ≤ r.sample.0 → (r.first ≡ false) × (r.second ≡ false)
  votes-spent r e l = (
    split r.first (λ k. let w = ((received r e).first k).1 in absurd (omega arith)) (λ k. k),
    split r.second (λ k. let w = (received r e).second k in absurd (omega arith)) (λ k. k),
  )

  -- no more votes of a frame are split than bits of it are decided
  pub splits-few : (r : Reception) → d.usart.receiver.sampler ≡ Receiving r → r.splits ≤ voted_bits d.usart.format r
  splits-few r e = (received r e).splits

  -- .. and the frames that are held, and the one that waits, have 0 to 12
  pub splits-most : (split_votes d ≤ 12) × (((second_in d.usart.receiver.queue.places).splits ≤ 12) × ((third_in d.usart.receiver.queue.places).splits ≤ 12))
  splits-most = (
    (valid-oldest d.usart.receiver.queue.places v.usart.receiver.places).splits,
    (
      (valid-second d.usart.receiver.queue.places v.usart.receiver.places).splits,
      (valid-third d.usart.receiver.queue.places v.usart.receiver.places).splits,
    ),
  )

  -- M-103: no frame waits with a place free ..
  pub waits-full : is_waiting d.usart.receiver.queue.places ≡ true → held_count d.usart.receiver.queue.places ≡ 2
  waits-full = by d.usart.receiver.queue.places
    where
      by : (p : Places) → is_waiting p ≡ true → held_count p ≡ 2
      by Empty e = clash e refl
      by (One a) e = clash e refl
      by (Two a b) e = clash e refl
      by (Three a b c) e = refl

  -- .. nor once the start bit of a frame under way is decided
  pub waits-early : (r : Reception) → d.usart.receiver.sampler ≡ Receiving r → is_waiting d.usart.receiver.queue.places ≡ true
      → voted_bits d.usart.format r ≡ 0
  waits-early r e w =
      ap (λ (s : Sampler). voted_bits d.usart.format (reception_in s)) (sym e)
      ∙ none-voted d.usart.format d.usart.receiver.sampler d.usart.receiver.queue.places v.usart.receiver.waiting w

  -- the ticks of a frame under way are UBRR + 1 clocks apart
  pub counter-low : is_in_shift d.usart ≡ true → d.usart.baud.left.0 ≤ d.usart.baud.ubrr
  counter-low = v.usart.counter

  -- the bit that is out is on its pin
  pub mosi-shown : is_master d.spi.control ≡ true → 1 ≤ d.spi.transfer.left.0 → is_first_out (mode_of d.spi.control) d.spi.transfer.edges ≡ true
      → d.spi.pins.mosi ≡ first_bit d.spi
  mosi-shown = v.spi.pins.mosi

  pub miso-shown : is_master d.spi.control ≡ false → 1 ≤ d.spi.transfer.edges → is_first_out (mode_of d.spi.control) d.spi.transfer.edges ≡ true
      → d.spi.pins.miso ≡ first_bit d.spi
  miso-shown = v.spi.pins.miso

  -- a slave's edges alternate, the first away from CPOL
  pub sck-seen : is_master d.spi.control ≡ false → 1 ≤ d.spi.transfer.edges → d.spi.pins.sck ≡ sck_of d.spi
  sck-seen = v.spi.pins.sck
