-- The image of a valid device is accepted. Assumes nothing.
use Prim.Native.Nat.{ℕ, ◌+◌, ◌<◌, ◌≤◌}
use mathlib.Core.Bool.{Bool, true, false, not}
use mathlib.Core.List.{List, [], ◌∷◌}
use mathlib.Core.Path.{◌≡◌, refl, sym, ap, ap₂, ◌∙◌}
use native.Mathlib.Decide.{dec_lt}
use native.Mathlib.Omega.{arith}
use lib.Dec.{eqb, lit≤}
use borrow.Author.Tests.{eq-eqb, le-leb}
use Rattle.std.proofs.Common.{None, Option, Some}
use Rattle.choice.specs.Pick.{pick}
use Rattle.choice.proofs.Digits.{digit-le}
use Rattle.frame.specs.Format.{samples, first_vote, word_bits, stop_bits}
use Rattle.frame.specs.declared.format.Size.{Size}
use Rattle.frame.specs.declared.format.Size.TheVariants.{Five, Six, Seven, Eight, Nine}
use Rattle.frame.specs.declared.format.Parity.{Parity}
use Rattle.frame.specs.declared.format.Parity.TheVariants.{Off, Even, Odd}
use Rattle.frame.specs.declared.format.Format.{Format}
use Rattle.frame.proofs.FormatLaws.{word-bits-range, stop-bits-range, samples-half, first-vote-range}
use Rattle.usart.specs.Settings.{code_of, size_of, is_known, upm_of}
use Rattle.usart.specs.Sender.{is_resting}
use Rattle.usart.specs.Sampler.{is_receiving}
use Rattle.usart.specs.Valid.{ValidShifter, ValidSampler}
use Rattle.usart.proofs.SettingsLaws.{code_lt, upm-lt}
use Rattle.usart.specs.declared.sampler.Reception.{Reception}
use Rattle.usart.specs.declared.sampler.Sampler.{Sampler}
use Rattle.usart.specs.declared.sampler.Sampler.TheVariants.{Idle, Receiving}
use Rattle.usart.specs.declared.queue.Places.{Places}
use Rattle.usart.specs.declared.queue.Places.TheVariants.{Empty, One, Two, Three}
use Rattle.usart.specs.declared.unit.Control.{Control}
use Rattle.spi.specs.Control.{half, divisor_number}
use Rattle.spi.specs.declared.control.Control.{Control as SpiControl}
use Rattle.spi.specs.declared.flag.Flag.{Flag}
use Rattle.spi.specs.declared.flag.Flag.TheVariants.{Clear, Set, Armed}
use Rattle.spi.proofs.DivisorLaws.{half-of}
use Rattle.device.specs.Valid.{Valid}
use Rattle.device.specs.declared.unit.Device.{Device}
use Rattle.usart.proofs.TallyLaws.{voted-before, voted-after}
use Rattle.record.specs.Layout.{most, byte_at, word_at, triple_at, set_at, low, high}
use Rattle.record.specs.Layout.{sending_byte, receiving_byte, last_byte, full_byte, data_byte, held_byte, waits_byte, lost_byte, third_byte}
use Rattle.record.specs.Codes.{flag_code}
use Rattle.record.specs.Parts.{transmission_in, remembered_in, reception_in, held_count, sender_parts, receiver_parts}
use Rattle.record.specs.Image.{bit, ucsr0a, ucsr0b, ucsr0c, image_of}
use Rattle.record.specs.Lift.{baud_at, format_at, control_at, transmission_at, reception_at}
use Rattle.record.specs.Accepts.{is_within, settings_fit, counter_fits, buffer_fits, shifter_fits, sampler_fits, waiting_fits, enabled_fits, usart_fits, spi_fits, accepts}
use Rattle.record.proofs.ListLaws.{and-pair}
use Rattle.record.proofs.RegisterLaws.{none-else, code-again, marks-lt}
use Rattle.record.proofs.CodeLaws.{flag-bit}
use Rattle.record.proofs.LiftLaws.{data-lt, sent-lt, received-lt, valid-oldest, valid-second, valid-third, baud-law, format-law, control-law, data-law, transmission-law, reception-law, spi-law}
use Rattle.record.proofs.TestLaws.{counter-fits, buffer-fits, shifter-fits, sampler-fits}
use Rattle.record.proofs.QueueLaws.{places-fit, waiting-fits, enabled-fits}
use Rattle.record.proofs.SpiTestLaws.{spi-fits}
use Rattle.usart.specs.declared.sender.Transmission.{Transmission}

-- a list within another, number for number
infixr 20 ◌▹◌
data Within : List ℕ → List ℕ → Type 0 where
  done : Within [] []
  ◌▹◌ : {x m : ℕ} {xs ms : List ℕ} → x ≤ m → Within xs ms → Within (x ∷ xs) (m ∷ ms)

is_within_lem : (xs ms : List ℕ) → Within xs ms → is_within xs ms ≡ true
unfolding is_within
is_within_lem [] [] done = refl
is_within_lem [] (m ∷ ms) w = elim w [ ]
is_within_lem (x ∷ xs) [] w = elim w [ ]
is_within_lem (x ∷ xs) (m ∷ ms) (p ▹ w) = rw (le-leb x m p) (is_within_lem xs ms w)

none : 0 ≤ 0
none = omega arith

low-le : (x : ℕ) → low x ≤ 255
low-le x = omega arith

bit_le : (b : Bool) → bit b ≤ 1
bit_le true = omega arith
bit_le false = omega arith

flag-le : (f : Flag) → flag_code f ≤ 2
flag-le Clear = omega arith
flag-le Set = omega arith
flag-le Armed = omega arith

held-le : (p : Places) → held_count p ≤ 2
held-le Empty = omega arith
held-le (One a) = omega arith
held-le (Two a b) = omega arith
held-le (Three a b c) = omega arith

samples-le : (f : Format) → samples f ≤ 16
samples-le f = let e = samples-half f in let r = first-vote-range f in omega arith

sent-bit : (f : Format) (s : Option Transmission) → ValidShifter f s → (transmission_in s).bit ≤ 12
sent-bit f None v = omega arith
sent-bit f (Some t) v =
    let w = word-bits-range f in let s = stop-bits-range f in let b : t.bit ≤ word_bits f + stop_bits f = v.bit in omega arith

sent-sample : (f : Format) (s : Option Transmission) → ValidShifter f s → (transmission_in s).sample.0 ≤ 15
sent-sample f None v = omega arith
sent-sample f (Some t) v = let l = samples-le f in let b : t.sample.0 < samples f = v.sample in omega arith

received-bit : (f : Format) (s : Sampler) → ValidSampler f s → (reception_in s).bit ≤ 11
received-bit f (Idle last) v = omega arith
received-bit f (Receiving r) v = let w = word-bits-range f in let b : r.bit ≤ word_bits f + 1 = v.bit in omega arith

received-sample : (f : Format) (s : Sampler) → ValidSampler f s → (reception_in s).sample.0 ≤ 15
received-sample f (Idle last) v = omega arith
received-sample f (Receiving r) v = let l = samples-le f in let b : r.sample.0 < samples f = v.sample in omega arith

-- the stop bit is not decided yet
received-splits : (f : Format) (s : Sampler) → ValidSampler f s → (reception_in s).splits ≤ 11
received-splits f (Idle last) v = omega arith
received-splits f (Receiving r) v = elim (dec_lt r.sample.0 (first_vote f + 2)) [
  | yes p ↦ omega (arith, v.splits, voted-before f r p, v.bit, word-bits-range f)
  | no p ↦
      let inner : r.bit ≡ word_bits f + 1 → ⊥ = λ e. omega (arith, v.stop e) in
      omega (arith, v.splits, voted-after f r (omega arith), v.bit, inner, word-bits-range f)
]

left_le : (c : SpiControl) (n : ℕ) → n ≤ half c → n ≤ 64
left_le c n h = let l = (half-of (divisor_number c)).high in omega arith

high-12 : (x : ℕ) → x < 4096 → high x ≤ 15
high-12 x h = omega arith

high-10 : (x : ℕ) → x < 1024 → high x ≤ 3
high-10 x h = omega arith

high-9 : (x : ℕ) → x < 512 → high x ≤ 1
high-9 x h = omega arith

module _ (f : Format) (k : Control) (txc : Bool) where
  a-le : ucsr0a f txc ≤ 66
  a-le = let t = digit-le txc in let u = digit-le f.u2x in omega arith

  b-le : ucsr0b f k ≤ 253
  b-le =
      let r = digit-le k.rxcie in let t = digit-le k.txcie in let u = digit-le k.udrie in let e = digit-le k.rxen in
      let x = digit-le k.txen in let z = code_lt f.size in let n = digit-le k.txb8 in omega arith

  c-le : ucsr0c f ≤ 62
  c-le = let p = upm-lt f.parity in let s = digit-le f.usbs in omega arith

  size-known : (z : Size) → is_known (size_of (code_of z)) ≡ true
  unfolding size_of
  size-known Five = refl
  size-known Six = refl
  size-known Seven = refl
  size-known Eight = refl
  size-known Nine = refl

  upm-known : (p : Parity) → not (eqb (upm_of p) 1) ≡ true
  upm-known Off = refl
  upm-known Even = refl
  upm-known Odd = refl

  settings-fit : settings_fit (ucsr0a f txc) (ucsr0b f k) (ucsr0c f) ≡ true
  settings-fit =
      let n = none-else f k txc in
      and-pair _ _
      (and-pair _ _
      (and-pair _ _
      (and-pair _ _ (and-pair _ _ (eq-eqb _ 0 n.0) (eq-eqb _ 0 n.1.0)) (eq-eqb _ 0 n.1.1.0))
      (eq-eqb _ 0 n.1.1.1.0))
      (ap (λ (x : ℕ). not (eqb x 1)) n.1.1.1.1 ∙ upm-known f.parity))
      (ap (λ (x : ℕ). is_known (size_of x)) (code-again f k txc) ∙ size-known f.size)

module _ (d : Device) (v : Valid d) where
  image-within : Within (image_of d) most
  image-within =
      let f = d.usart.format in
      let c = d.usart.control in
      let o = sender_parts d.usart.sender in
      let r = receiver_parts d.usart.receiver in
      let q = d.usart.receiver.queue.places in
      let n = d.spi.pins in
      let h = v.usart.sender.shifter in
      let s = v.usart.receiver.sampler in
      let t = v.spi.transfer in
      low-le _ ▹ high-12 _ v.usart.baud.ubrr ▹ low-le _ ▹ high-12 _ v.usart.baud.left
      ▹ a-le f c d.usart.sender.txc ▹ b-le f c d.usart.sender.txc ▹ c-le f c d.usart.sender.txc ▹ none
      ▹ bit_le o.full ▹ low-le o.«data» ▹ high-9 o.«data» (data-lt f d.usart.sender.buffer v.usart.sender.buffer)
      ▹ bit_le o.sending ▹ low-le o.transmission.word ▹ high-10 o.transmission.word (sent-lt f d.usart.sender.shifter h)
      ▹ sent-bit f d.usart.sender.shifter h ▹ sent-sample f d.usart.sender.shifter h
      ▹ bit_le r.receiving ▹ bit_le r.last
      ▹ received-bit f d.usart.receiver.sampler s ▹ received-sample f d.usart.receiver.sampler s
      ▹ bit_le r.reception.first ▹ bit_le r.reception.second
      ▹ low-le r.reception.word ▹ high-10 r.reception.word (received-lt f d.usart.receiver.sampler s)
      ▹ received-splits f d.usart.receiver.sampler s ▹ held-le q ▹ bit_le r.frames.waits ▹ bit_le d.usart.receiver.queue.lost
      ▹ low-le r.frames.oldest.«data» ▹ marks-lt r.frames.oldest ▹ (valid-oldest q v.usart.receiver.places).splits
      ▹ low-le r.frames.second.«data» ▹ marks-lt r.frames.second ▹ (valid-second q v.usart.receiver.places).splits
      ▹ low-le r.frames.third.«data» ▹ marks-lt r.frames.third ▹ (valid-third q v.usart.receiver.places).splits
      ▹ none ▹ none ▹ none
      ▹ none ▹ none ▹ none ▹ none ▹ none ▹ none ▹ none ▹ none
      ▹ le-255 _ v.spi.spcr ▹ bit_le d.spi.control.spi2x ▹ le-255 _ v.spi.ddrb
      ▹ le-255 _ t.shift ▹ le-255 _ t.received ▹ le-15 _ t.edges ▹ left_le d.spi.control d.spi.transfer.left.0 t.left
      ▹ flag-le d.spi.flags.spif ▹ flag-le d.spi.flags.wcol ▹ bit_le n.mosi ▹ bit_le n.miso ▹ bit_le n.sck
      ▹ none ▹ none ▹ none ▹ lit≤ tt
      ▹ done
    where
      le-255 : (x : ℕ) → x < 256 → x ≤ 255
      le-255 x h = omega arith

      le-15 : (x : ℕ) → x < 16 → x ≤ 15
      le-15 x h = omega arith

  in_shift : (s : Option Transmission) (r : Bool) → pick (not (is_resting s)) true r ≡ pick (is_resting s) r true
  in_shift None r = refl
  in_shift (Some t) r = refl

  image-fits : usart_fits (image_of d) ≡ true
  unfolding usart_fits
  image-fits =
      let f = d.usart.format in
      let h = d.usart.sender.shifter in
      let p = d.usart.receiver.sampler in
      let q = d.usart.receiver.queue.places in
      rw (
        counter-image,
        buffer-image,
        shifter-image,
        sampler-image,
        places-fit q,
        waiting-image,
      )
      enabled-image
    where
      counter-image : counter_fits (set_at (image_of d) sending_byte) (set_at (image_of d) receiving_byte) (baud_at (image_of d)) ≡ true
      counter-image =
          ap₂ (λ (x y : Bool). counter_fits x y (baud_at (image_of d))) (flag-bit _) (flag-bit _)
          ∙ ap (counter_fits _ _) (baud-law d v)
          ∙ counter-fits (not (is_resting d.usart.sender.shifter)) (is_receiving d.usart.receiver.sampler) d.usart.baud
          (λ e. v.usart.counter (sym (in_shift d.usart.sender.shifter (is_receiving d.usart.receiver.sampler)) ∙ e))

      buffer-image : buffer_fits (format_at (image_of d)) (set_at (image_of d) full_byte) (word_at (image_of d) data_byte) ≡ true
      buffer-image =
          ap₂ (λ (g : Format) (x : Bool). buffer_fits g x (word_at (image_of d) data_byte)) (format-law d v) (flag-bit _)
          ∙ ap (buffer_fits _ _) (data-law d v)
          ∙ buffer-fits d.usart.format d.usart.sender.buffer v.usart.sender.buffer

      shifter-image : shifter_fits (format_at (image_of d)) (set_at (image_of d) sending_byte) (transmission_at (image_of d)) ≡ true
      shifter-image =
          ap₂ (λ (g : Format) (x : Bool). shifter_fits g x (transmission_at (image_of d))) (format-law d v) (flag-bit _)
          ∙ ap (shifter_fits _ _) (transmission-law d v)
          ∙ shifter-fits d.usart.format d.usart.sender.shifter v.usart.sender.shifter

      sampler-image : sampler_fits (format_at (image_of d)) (set_at (image_of d) receiving_byte) (set_at (image_of d) last_byte) (reception_at (image_of d)) ≡ true
      sampler-image =
          ap₂ (λ (x y : Bool). sampler_fits (format_at (image_of d)) x y (reception_at (image_of d))) (flag-bit _) (flag-bit _)
          ∙ ap₂ (λ (g : Format) (r : Reception). sampler_fits g (is_receiving d.usart.receiver.sampler) (remembered_in d.usart.receiver.sampler) r)
          (format-law d v) (reception-law d v)
          ∙ sampler-fits d.usart.format d.usart.receiver.sampler v.usart.receiver.sampler

      waiting-image : waiting_fits (format_at (image_of d)) (reception_at (image_of d)) (byte_at (image_of d) held_byte) (set_at (image_of d) waits_byte) (triple_at (image_of d) third_byte) ≡ true
      waiting-image =
          let p = d.usart.receiver.queue.places in
          let z = triple_at (image_of d) third_byte in
          ap₂ (λ (g : Format) (r : Reception). waiting_fits g r (held_count p) (set_at (image_of d) waits_byte) z) (format-law d v) (reception-law d v)
          ∙ ap (λ (w : Bool). waiting_fits d.usart.format (reception_in d.usart.receiver.sampler) (held_count p) w z) (flag-bit _)
          ∙ waiting-fits d.usart.format d.usart.receiver.sampler p v.usart.receiver.waiting

      enabled-image : enabled_fits (control_at (image_of d)).rxen (set_at (image_of d) receiving_byte) (set_at (image_of d) last_byte) (byte_at (image_of d) held_byte) (set_at (image_of d) lost_byte) ≡ true
      enabled-image =
          ap₂ (λ (x y : Bool). enabled_fits (control_at (image_of d)).rxen x y (held_count d.usart.receiver.queue.places) (set_at (image_of d) lost_byte)) (flag-bit _) (flag-bit _)
          ∙ ap₂ (λ (x : Control) (y : Bool). enabled_fits x.rxen (is_receiving d.usart.receiver.sampler) (remembered_in d.usart.receiver.sampler) (held_count d.usart.receiver.queue.places) y)
          (control-law d v) (flag-bit _)
          ∙ enabled-fits d.usart.control.rxen d.usart.receiver v.usart.disabled

  pub image-accepted : accepts (image_of d) ≡ true
  unfolding accepts
  image-accepted =
      rw (
        is_within_lem (image_of d) most image-within,
        settings-fit d.usart.format d.usart.control d.usart.sender.txc,
        image-fits,
      )
      (ap spi_fits (spi-law d v) ∙ spi-fits d.spi v.spi)
