-- A valid device is what the bytes of its image say. Assumes nothing.
use Prim.Native.Nat.{ℕ, ◌^◌, ◌<◌}
use mathlib.Core.Bool.{Bool}
use mathlib.Core.Path.{◌≡◌, ap, ap₂, ◌∙◌}
use native.Mathlib.Omega.{arith}
use Rattle.std.proofs.Common.{None, Option, Some}
use Rattle.frame.specs.Format.{data_bits, word_bits}
use Rattle.frame.specs.declared.format.Format.{Format}
use Rattle.frame.proofs.WordLaws.{frame-lt}
use Rattle.usart.specs.Queue.{no_frame, oldest_of}
use Rattle.usart.specs.Valid.{ValidBuffer, ValidShifter, ValidSampler, ValidFrame, ValidPlaces}
use Rattle.usart.specs.declared.sampler.Sampler.{Sampler}
use Rattle.usart.specs.declared.sampler.Sampler.TheVariants.{Idle, Receiving}
use Rattle.usart.specs.declared.queue.Frame.{Frame}
use Rattle.usart.specs.declared.queue.Places.{Places}
use Rattle.usart.specs.declared.queue.Places.TheVariants.{Empty, One, Two, Three}
use Rattle.device.specs.Valid.{Valid}
use Rattle.device.specs.declared.unit.Device.{Device}
use Rattle.record.specs.Layout.{ucsr0a_byte, data_byte, oldest_byte, next_byte, third_byte, byte_at, word_at}
use Rattle.record.specs.Parts.{buffer_data, buffer_from, transmission_in, shifter_from, reception_in, sampler_from, held_count, second_in, is_waiting, third_in, places_from}
use Rattle.record.specs.Image.{image_of}
use Rattle.record.specs.Lift.{baud_at, format_at, control_at, buffer_at, transmission_at, shifter_at, sender_with, sender_at, reception_at, sampler_at, frame_at, places_at, queue_with, queue_at, usart_at, spi_control_at, flags_at, pins_at, spi_at, device_at}
use Rattle.record.proofs.CodeLaws.{data-limit, word-limit, word-parts, flag-bit, flag-again, buffer-again, shifter-again, sampler-again, places-again}
use Rattle.record.proofs.RegisterLaws.{txc-again, format-again, control-again, frame-again}
use Rattle.usart.specs.declared.sender.Transmission.{Transmission}

-- the words of valid parts

pub data-lt : (f : Format) (b : Option ℕ) → ValidBuffer f b → buffer_data b < 512
data-lt f None v = omega arith
data-lt f (Some d) v = let l = data-limit f.size in let w : d < 2 ^ data_bits f.size = v in omega arith

pub sent-lt : (f : Format) (s : Option Transmission) → ValidShifter f s → (transmission_in s).word < 1024
sent-lt f None v = omega arith
sent-lt f (Some t) v = let l = word-limit f in let w = frame-lt f t.word v.word in omega arith

pub received-lt : (f : Format) (s : Sampler) → ValidSampler f s → (reception_in s).word < 1024
received-lt f (Idle last) v = omega arith
received-lt f (Receiving r) v = let l = word-limit f in let w : r.word < 2 ^ word_bits f = v.word in omega arith

valid-none : ValidFrame no_frame
valid-none = record { «data» = omega arith; splits = omega arith }

pub valid-oldest : (p : Places) → ValidPlaces p → ValidFrame (oldest_of p)
valid-oldest Empty v = valid-none
valid-oldest (One a) v = v
valid-oldest (Two a b) v = v.0
valid-oldest (Three a b c) v = v.0

pub valid-second : (p : Places) → ValidPlaces p → ValidFrame (second_in p)
valid-second Empty v = valid-none
valid-second (One a) v = valid-none
valid-second (Two a b) v = v.1
valid-second (Three a b c) v = v.1.0

pub valid-third : (p : Places) → ValidPlaces p → ValidFrame (third_in p)
valid-third Empty v = valid-none
valid-third (One a) v = valid-none
valid-third (Two a b) v = valid-none
valid-third (Three a b c) v = v.1.1

module _ (d : Device) (v : Valid d) where
  pub baud-law : baud_at (image_of d) ≡ d.usart.baud
  baud-law =
      let u : d.usart.baud.ubrr < 4096 = v.usart.baud.ubrr in
      let l : d.usart.baud.left.0 < 4096 = v.usart.baud.left in
      let u' : d.usart.baud.ubrr < 65536 = omega arith in
      let l' : d.usart.baud.left.0 < 65536 = omega arith in
      simp (word-parts)

  pub format-law : format_at (image_of d) ≡ d.usart.format
  format-law = format-again d.usart.format d.usart.control d.usart.sender.txc

  pub control-law : control_at (image_of d) ≡ d.usart.control
  control-law = control-again d.usart.format d.usart.control d.usart.sender.txc

  pub data-law : word_at (image_of d) data_byte ≡ buffer_data d.usart.sender.buffer
  data-law =
      let l : buffer_data d.usart.sender.buffer < 512 = data-lt d.usart.format d.usart.sender.buffer v.usart.sender.buffer in
      word-parts (buffer_data d.usart.sender.buffer) (omega arith)

  buffer-law : buffer_at (image_of d) ≡ d.usart.sender.buffer
  buffer-law = ap₂ buffer_from (flag-bit _) data-law ∙ buffer-again d.usart.sender.buffer

  pub transmission-law : transmission_at (image_of d) ≡ transmission_in d.usart.sender.shifter
  transmission-law =
      let l : (transmission_in d.usart.sender.shifter).word < 1024 =
      sent-lt d.usart.format d.usart.sender.shifter v.usart.sender.shifter in
      let l' : (transmission_in d.usart.sender.shifter).word < 65536 = omega arith in
      simp (word-parts)

  shifter-law : shifter_at (image_of d) ≡ d.usart.sender.shifter
  shifter-law = ap₂ shifter_from (flag-bit _) transmission-law ∙ shifter-again d.usart.sender.shifter

  sender-law : sender_at (image_of d) ≡ d.usart.sender
  sender-law =
      ap₂ (sender_with (byte_at (image_of d) ucsr0a_byte)) buffer-law shifter-law
      ∙ rw (txc-again d.usart.format d.usart.control d.usart.sender.txc)

  pub reception-law : reception_at (image_of d) ≡ reception_in d.usart.receiver.sampler
  reception-law =
      let l : (reception_in d.usart.receiver.sampler).word < 1024 =
      received-lt d.usart.format d.usart.receiver.sampler v.usart.receiver.sampler in
      let l' : (reception_in d.usart.receiver.sampler).word < 65536 = omega arith in
      simp (word-parts, flag-bit)

  sampler-law : sampler_at (image_of d) ≡ d.usart.receiver.sampler
  sampler-law =
      ap₂ (λ (x y : Bool). sampler_from x y (reception_at (image_of d))) (flag-bit _) (flag-bit _)
      ∙ ap (sampler_from _ _) reception-law
      ∙ sampler-again d.usart.receiver.sampler

  abbrev places : Places
  places = d.usart.receiver.queue.places

  oldest-law : frame_at (image_of d) oldest_byte ≡ oldest_of places
  oldest-law = frame-again (oldest_of places) (valid-oldest places v.usart.receiver.places).«data»

  second-law : frame_at (image_of d) next_byte ≡ second_in places
  second-law = frame-again (second_in places) (valid-second places v.usart.receiver.places).«data»

  third-law : frame_at (image_of d) third_byte ≡ third_in places
  third-law = frame-again (third_in places) (valid-third places v.usart.receiver.places).«data»

  places-law : places_at (image_of d) ≡ places
  places-law =
      ap₂ (λ (w : Bool) (a : Frame). places_from (held_count places) w a (frame_at (image_of d) next_byte) (frame_at (image_of d) third_byte)) (flag-bit _) oldest-law
      ∙ ap₂ (places_from (held_count places) (is_waiting places) (oldest_of places)) second-law third-law ∙ places-again places

  queue-law : queue_at (image_of d) ≡ d.usart.receiver.queue
  queue-law = ap (queue_with _) places-law ∙ simp (flag-bit)

  usart-law : usart_at (image_of d) ≡ d.usart
  usart-law = rw (baud-law, format-law, control-law, sender-law, sampler-law, queue-law)

  flags-law : flags_at (image_of d) ≡ d.spi.flags
  flags-law = simp (flag-again)

  spi-control-law : spi_control_at (image_of d) ≡ d.spi.control
  spi-control-law = simp (flag-bit)

  pins-law : pins_at (image_of d) ≡ d.spi.pins
  pins-law = simp (flag-bit)

  pub spi-law : spi_at (image_of d) ≡ d.spi
  spi-law = rw (spi-control-law, flags-law, pins-law)

  pub lifted : device_at (image_of d) ≡ d
  lifted = rw (usart-law, spi-law)
