-- Accepted bytes say a valid device, and they are its image. Assumes nothing.
use Prim.Native.Nat.{ℕ, zero, suc, ◌+◌, ◌*◌, ◌%◌, ◌/◌, ◌<◌, ◌≤◌}
use mathlib.Core.Bool.{Bool, true, false, not, ◌&&◌}
use mathlib.Core.List.{List, [], ◌∷◌}
use mathlib.Core.Path.{◌≡◌, refl, sym, ap, ap₂, ◌∙◌}
use native.Mathlib.Omega.{arith}
use lib.Dec.{eqb, leb}
use lib.ListN.{length, get_or}
use borrow.Author.Tests.{eqb-true, leb-true, not-true}
use Rattle.std.proofs.Common.{Err, Ok, Result}
use Rattle.choice.specs.Pick.{pick}
use Rattle.choice.proofs.Picks.{pick_true, pick-false, split, both}
use Rattle.usart.specs.Settings.{size_of, is_known}
use Rattle.usart.specs.Sender.{is_vacant, is_resting}
use Rattle.usart.specs.Sampler.{is_receiving}
use Rattle.usart.specs.Valid.{Valid as ValidUsart}
use Rattle.usart.specs.declared.sender.Transmission.{Transmission}
use Rattle.usart.specs.declared.sampler.Reception.{Reception}
use Rattle.device.specs.Valid.{Valid}
use Rattle.device.specs.declared.unit.Device.{Device}
use Rattle.record.specs.Layout.{most, record_length, layout_byte, layout_number, ucsr0a_byte, ucsr0b_byte, ucsr0c_byte, byte_at, word_at, triple_at, set_at, low, high}
use Rattle.record.specs.Layout.{sending_byte, receiving_byte, last_byte, full_byte, data_byte, held_byte, waits_byte, lost_byte, oldest_byte, next_byte, third_byte}
use Rattle.record.specs.Codes.{size_code, flag_code, flag_of}
use Rattle.record.specs.Parts.{buffer_data, transmission_in, remembered_in, reception_in}
use Rattle.record.specs.Image.{bit, image_of}
use Rattle.record.specs.Lift.{baud_at, format_at, control_at, buffer_at, transmission_at, shifter_at, reception_at, sampler_at, frame_at, places_at, usart_at, spi_at, device_at}
use Rattle.record.specs.Accepts.{is_within, settings_fit, counter_fits, buffer_fits, shifter_fits, sampler_fits, places_fit, waiting_fits, enabled_fits, usart_fits, spi_fits, accepts, is_record}
use Rattle.record.specs.Codec.{decode_of}
use Rattle.record.proofs.ListLaws.{and_both}
use Rattle.record.proofs.RegisterLaws.{a_again, b-again, c-again}
use Rattle.record.proofs.TestLaws.{counter-valid, buffer-valid, buffer-shown, shifter-valid, shifter-shown, sampler-valid, sampler-shown}
use Rattle.record.proofs.QueueLaws.{FrameBytes, places-valid, PlacesShown, places-shown, waiting-valid, enabled-valid}
use Rattle.record.proofs.SpiTestLaws.{spi-valid}
use Rattle.answer.specs.declared.Refusal.{Refusal}
use Rattle.answer.specs.declared.Refusal.TheVariants.{Record}

-- no byte is above its limit
pub within-at : (xs ms : List ℕ) → is_within xs ms ≡ true → (i : ℕ) → i < length ms → get_or xs i 0 ≤ get_or ms i 0
unfolding is_within
within-at [] ms h i l = omega arith
within-at (x ∷ xs) [] h i l = absurd (omega arith)
within-at (x ∷ xs) (m ∷ ms) h zero l = leb-true x m (both (leb x m) (is_within xs ms) h).0
within-at (x ∷ xs) (m ∷ ms) h (suc i) l = within-at xs ms (both (leb x m) (is_within xs ms) h).1 i (omega arith)

-- the first bytes of a record, written out
abbrev listed : (ℕ → ℕ) → ℕ → List ℕ
listed f zero = []
listed f (suc n) = f 0 ∷ listed (λ i. f (suc i)) n

listed-again : (b : List ℕ) → listed (λ i. get_or b i 0) (length b) ≡ b
listed-again [] = refl
listed-again (x ∷ xs) = ap (λ (l : List ℕ). x ∷ l) (listed-again xs)

-- two lists the same, number for number
infixr 20 ◌▹◌
pub data Same : List ℕ → List ℕ → Type 0 where
  done : Same [] []
  ◌▹◌ : {x y : ℕ} {xs ys : List ℕ} → x ≡ y → Same xs ys → Same (x ∷ xs) (y ∷ ys)

pub same_lists : (xs ys : List ℕ) → Same xs ys → xs ≡ ys
same_lists [] [] done = refl
same_lists [] (y ∷ ys) s = elim s [ ]
same_lists (x ∷ xs) [] s = elim s [ ]
same_lists (x ∷ xs) (y ∷ ys) (e ▹ s) = ap₂ (◌∷◌) e (same_lists xs ys s)

-- the kinds of byte: each is shown again as it was

none : {x : ℕ} → x ≤ 0 → 0 ≡ x
none h = omega arith

low_again : (x y : ℕ) → x ≤ 255 → low (x + 256 * y) ≡ x
low_again x y h = omega arith

high-again : (x y : ℕ) → x ≤ 255 → y ≤ 255 → high (x + 256 * y) ≡ y
high-again x y h k = omega arith

bit-again : (x : ℕ) → x ≤ 1 → bit (eqb x 1) ≡ x
bit-again zero h = refl
bit-again (suc zero) h = refl
bit-again (suc (suc x)) h = absurd (omega arith)

flag-shown : (x : ℕ) → x ≤ 2 → flag_code (flag_of x) ≡ x
unfolding flag_of
flag-shown zero h = refl
flag-shown (suc zero) h = refl
flag-shown (suc (suc zero)) h = refl
flag-shown (suc (suc (suc x))) h = absurd (omega arith)

module _ (s : List ℕ) (h : accepts s ≡ true) where
  abbrev x : ℕ → ℕ
  x i = byte_at s i

  -- what `accepts` tests, one by one
  pub record Tests : Type 0 where
    pub within : is_within s most ≡ true
    pub layout : x layout_byte ≡ layout_number
    pub settings : settings_fit (x ucsr0a_byte) (x ucsr0b_byte) (x ucsr0c_byte) ≡ true
    pub serial : usart_fits s ≡ true
    pub spi : spi_fits (spi_at s) ≡ true

  pub tests : Tests
  unfolding accepts
  tests =
      let a = both (is_within s most) _ h in
      let b = both (eqb (x layout_byte) layout_number) _ a.1 in
      let c = both (settings_fit (x ucsr0a_byte) (x ucsr0b_byte) (x ucsr0c_byte)) _ b.1 in
      let d = both (usart_fits s) (spi_fits (spi_at s)) c.1 in
      record { within = a.0; layout = eqb-true _ _ b.0; settings = c.0; serial = d.0; spi = d.1 }

  pub record SerialTests : Type 0 where
    pub counter : counter_fits (set_at s sending_byte) (set_at s receiving_byte) (baud_at s) ≡ true
    pub buffer : buffer_fits (format_at s) (set_at s full_byte) (word_at s data_byte) ≡ true
    pub shifter : shifter_fits (format_at s) (set_at s sending_byte) (transmission_at s) ≡ true
    pub sampler : sampler_fits (format_at s) (set_at s receiving_byte) (set_at s last_byte) (reception_at s) ≡ true
    pub places : places_fit (x held_byte) (triple_at s oldest_byte) (triple_at s next_byte) ≡ true
    pub waiting : waiting_fits (format_at s) (reception_at s) (x held_byte) (set_at s waits_byte) (triple_at s third_byte) ≡ true
    pub enabled : enabled_fits (control_at s).rxen (set_at s receiving_byte) (set_at s last_byte) (x held_byte) (set_at s lost_byte) ≡ true

  pub serial : SerialTests
  unfolding usart_fits
  serial =
      let a = both (counter_fits (set_at s sending_byte) (set_at s receiving_byte) (baud_at s)) _ tests.serial in
      let b = both (buffer_fits (format_at s) (set_at s full_byte) (word_at s data_byte)) _ a.1 in
      let c = both (shifter_fits (format_at s) (set_at s sending_byte) (transmission_at s)) _ b.1 in
      let d = both (sampler_fits (format_at s) (set_at s receiving_byte) (set_at s last_byte) (reception_at s)) _ c.1 in
      let e = both (places_fit (x held_byte) (triple_at s oldest_byte) (triple_at s next_byte)) _ d.1 in
      let g = both (waiting_fits (format_at s) (reception_at s) (x held_byte) (set_at s waits_byte) (triple_at s third_byte)) _ e.1 in
      record { counter = a.0; buffer = b.0; shifter = c.0; sampler = d.0; places = e.0; waiting = g.0; enabled = g.1 }

  pub limit : (i : ℕ) → i < record_length → x i ≤ get_or most i 0
  limit i l = within-at s most tests.within i l

  pub record Registers : Type 0 where
    pub mpcm : x 4 % 2 ≡ 0
    pub others : x 4 / 4 % 16 ≡ 0
    pub rxb8 : x 5 / 2 % 2 ≡ 0
    pub ucpol : x 6 % 2 ≡ 0
    pub upm : eqb (x 6 / 16 % 4) 1 ≡ false
    pub size : is_known (size_of (size_code (x 5) (x 6))) ≡ true

  pub registers : Registers
  registers =
      let e = and_both (eqb (x 4 % 2) 0 && eqb (x 4 / 4 % 16) 0 && eqb (x 5 / 2 % 2) 0 && eqb (x 6 % 2) 0 && not (eqb (x 6 / 16 % 4) 1)) _ tests.settings in
      let d = and_both (eqb (x 4 % 2) 0 && eqb (x 4 / 4 % 16) 0 && eqb (x 5 / 2 % 2) 0 && eqb (x 6 % 2) 0) _ e.0 in
      let c = and_both (eqb (x 4 % 2) 0 && eqb (x 4 / 4 % 16) 0 && eqb (x 5 / 2 % 2) 0) _ d.0 in
      let b = and_both (eqb (x 4 % 2) 0 && eqb (x 4 / 4 % 16) 0) _ c.0 in
      let a = and_both (eqb (x 4 % 2) 0) _ b.0 in
      record {
        mpcm = eqb-true _ _ a.0;
        others = eqb-true _ _ a.1;
        rxb8 = eqb-true _ _ b.1;
        ucpol = eqb-true _ _ c.1;
        upm = not-true _ d.1;
        size = e.1;
      }

  below : (i : ℕ) → i < record_length → get_or most i 0 < 256 → x i < 256
  below i l k = let m = limit i l in omega arith

  -- the device that they say is valid

  shown-shifter : (not (is_resting (shifter_at s)) ≡ set_at s sending_byte) × (transmission_in (shifter_at s) ≡ transmission_at s)
  shown-shifter = shifter-shown (format_at s) (set_at s sending_byte) (transmission_at s) serial.shifter

  shown-sampler : (is_receiving (sampler_at s) ≡ set_at s receiving_byte) × ((remembered_in (sampler_at s) ≡ set_at s last_byte) × (reception_in (sampler_at s) ≡ reception_at s))
  shown-sampler = sampler-shown (format_at s) (set_at s receiving_byte) (set_at s last_byte) (reception_at s) serial.sampler

  shown-buffer : (not (is_vacant (buffer_at s)) ≡ set_at s full_byte) × (buffer_data (buffer_at s) ≡ word_at s data_byte)
  shown-buffer = buffer-shown (format_at s) (set_at s full_byte) (word_at s data_byte) serial.buffer

  in_shift : (r sending : Bool) (rest : Bool) → not rest ≡ sending → pick rest r true ≡ true → pick sending true r ≡ true
  in_shift r sending true e k = ap (λ (b : Bool). pick b true r) (sym e) ∙ k
  in_shift r sending false e k = ap (λ (b : Bool). pick b true r) (sym e)

  oldest-bytes : FrameBytes (x 28) (x 29) (x 30)
  oldest-bytes = record { low-lt = below 28 (omega arith) (omega arith); marks-le = limit 29 (omega arith); splits-le = limit 30 (omega arith) }

  second-bytes : FrameBytes (x 31) (x 32) (x 33)
  second-bytes = record { low-lt = below 31 (omega arith) (omega arith); marks-le = limit 32 (omega arith); splits-le = limit 33 (omega arith) }

  third-bytes : FrameBytes (x 34) (x 35) (x 36)
  third-bytes = record { low-lt = below 34 (omega arith) (omega arith); marks-le = limit 35 (omega arith); splits-le = limit 36 (omega arith) }

  valid-usart : ValidUsart (usart_at s)
  valid-usart =
      let m0 = limit 0 (omega arith) in let m1 = limit 1 (omega arith) in
      let m2 = limit 2 (omega arith) in let m3 = limit 3 (omega arith) in
      record {
        baud = record { ubrr = omega arith; left = omega arith };
        sender = record {
          buffer = buffer-valid (format_at s) (set_at s full_byte) (word_at s data_byte) serial.buffer;
          shifter = shifter-valid (format_at s) (set_at s sending_byte) (transmission_at s) serial.shifter;
        };
        receiver = record {
          sampler = sampler-valid (format_at s) (set_at s receiving_byte) (set_at s last_byte) (reception_at s) serial.sampler;
          places =
              places-valid (x 28) (x 29) (x 30) (x 31) (x 32) (x 33) (x 34) (x 35) (x 36) oldest-bytes second-bytes third-bytes (x held_byte) (set_at s waits_byte)
              (limit 25 (omega arith));
          waiting =
              waiting-valid (format_at s) (set_at s receiving_byte) (set_at s last_byte) (reception_at s) (x held_byte) (set_at s waits_byte) (frame_at s oldest_byte)
              (frame_at s next_byte) (frame_at s third_byte) (triple_at s third_byte) serial.waiting;
        };
        disabled =
            enabled-valid (control_at s).rxen (set_at s receiving_byte) (set_at s last_byte) (reception_at s) (x held_byte) (set_at s waits_byte) (frame_at s oldest_byte)
            (frame_at s next_byte) (frame_at s third_byte) (set_at s lost_byte) serial.enabled;
        counter = λ e.
            counter-valid (set_at s sending_byte) (set_at s receiving_byte) (baud_at s) serial.counter
            (in_shift (set_at s receiving_byte) (set_at s sending_byte) (is_resting (shifter_at s)) shown-shifter.0
            (ap (λ (r : Bool). pick (is_resting (shifter_at s)) r true) (sym shown-sampler.0) ∙ e));
      }

  pub valid-device : Valid (device_at s)
  valid-device = record {
    usart = valid-usart;
    spi =
        spi-valid (spi_at s) tests.spi (below 48 (omega arith) (omega arith)) (below 50 (omega arith) (omega arith)) (below 51 (omega arith) (omega arith))
        (below 52 (omega arith) (omega arith)) (let m = limit 53 (omega arith) in omega arith);
  }

  -- and they are its image

  places : PlacesShown (x 28) (x 29) (x 30) (x 31) (x 32) (x 33) (x 34) (x 35) (x 36) oldest-bytes second-bytes third-bytes (x held_byte) (set_at s waits_byte) (places_at s)
  places =
      places-shown (x 28) (x 29) (x 30) (x 31) (x 32) (x 33) (x 34) (x 35) (x 36) oldest-bytes second-bytes third-bytes (format_at s) (reception_at s) (x held_byte)
      (set_at s waits_byte) (limit 25 (omega arith)) serial.places serial.waiting

  bit-of : {b : Bool} (i : ℕ) → x i ≤ 1 → b ≡ set_at s i → bit b ≡ x i
  bit-of i l e = ap bit e ∙ bit-again (x i) l

  low_of : {w : ℕ} (i : ℕ) → x i ≤ 255 → w ≡ word_at s i → low w ≡ x i
  low_of i l e = ap low e ∙ low_again (x i) (x (i + 1)) l

  high-of : {w : ℕ} (i : ℕ) → x i ≤ 255 → x (i + 1) ≤ 255 → w ≡ word_at s i → high w ≡ x (i + 1)
  high-of i l k e = ap high e ∙ high-again (x i) (x (i + 1)) l k

  le-255 : (i : ℕ) → i < record_length → get_or most i 0 < 256 → x i ≤ 255
  le-255 i l k = let m = limit i l in omega arith

  transmission : transmission_in (shifter_at s) ≡ transmission_at s
  transmission = shown-shifter.1

  reception : reception_in (sampler_at s) ≡ reception_at s
  reception = shown-sampler.1.1

  image-same : Same (image_of (device_at s)) (listed x record_length)
  image-same =
      low_of 0 (le-255 0 (omega arith) (omega arith)) refl ▹ high-of 0 (le-255 0 (omega arith) (omega arith)) (le-255 1 (omega arith) (omega arith)) refl
      ▹ low_of 2 (le-255 2 (omega arith) (omega arith)) refl ▹ high-of 2 (le-255 2 (omega arith) (omega arith)) (le-255 3 (omega arith) (omega arith)) refl
      ▹ a_again (x 4) (x 5) (x 6) registers.size (limit 4 (omega arith)) registers.mpcm registers.others
      ▹ b-again (x 4) (x 5) (x 6) registers.size (below 5 (omega arith) (omega arith)) registers.rxb8
      ▹ c-again (x 4) (x 5) (x 6) registers.size (limit 6 (omega arith)) registers.ucpol registers.upm
      ▹ none (limit 7 (omega arith))
      ▹ bit-of 8 (limit 8 (omega arith)) shown-buffer.0
      ▹ low_of 9 (le-255 9 (omega arith) (omega arith)) shown-buffer.1
      ▹ high-of 9 (le-255 9 (omega arith) (omega arith)) (le-255 10 (omega arith) (omega arith)) shown-buffer.1
      ▹ bit-of 11 (limit 11 (omega arith)) shown-shifter.0
      ▹ low_of 12 (le-255 12 (omega arith) (omega arith)) (ap (λ (t : Transmission). t.word) transmission)
      ▹ high-of 12 (le-255 12 (omega arith) (omega arith)) (le-255 13 (omega arith) (omega arith)) (ap (λ (t : Transmission). t.word) transmission)
      ▹ ap (λ (t : Transmission). t.bit) transmission ▹ ap (λ (t : Transmission). t.sample.0) transmission
      ▹ bit-of 16 (limit 16 (omega arith)) shown-sampler.0 ▹ bit-of 17 (limit 17 (omega arith)) shown-sampler.1.0
      ▹ ap (λ (r : Reception). r.bit) reception ▹ ap (λ (r : Reception). r.sample.0) reception
      ▹ bit-of 20 (limit 20 (omega arith)) (ap (λ (r : Reception). r.first) reception)
      ▹ bit-of 21 (limit 21 (omega arith)) (ap (λ (r : Reception). r.second) reception)
      ▹ low_of 22 (le-255 22 (omega arith) (omega arith)) (ap (λ (r : Reception). r.word) reception)
      ▹ high-of 22 (le-255 22 (omega arith) (omega arith)) (le-255 23 (omega arith) (omega arith)) (ap (λ (r : Reception). r.word) reception)
      ▹ ap (λ (r : Reception). r.splits) reception ▹ places.count ▹ bit-of 26 (limit 26 (omega arith)) places.flag ▹ bit-of 27 (limit 27 (omega arith)) refl
      ▹ places.oldest.low-is ▹ places.oldest.marks-are ▹ places.oldest.splits-are
      ▹ places.second.low-is ▹ places.second.marks-are ▹ places.second.splits-are
      ▹ places.third.low-is ▹ places.third.marks-are ▹ places.third.splits-are ▹ none (limit 37 (omega arith))
      ▹ none (limit 38 (omega arith)) ▹ none (limit 39 (omega arith)) ▹ none (limit 40 (omega arith)) ▹ none (limit 41 (omega arith))
      ▹ none (limit 42 (omega arith)) ▹ none (limit 43 (omega arith)) ▹ none (limit 44 (omega arith)) ▹ none (limit 45 (omega arith))
      ▹ none (limit 46 (omega arith)) ▹ none (limit 47 (omega arith))
      ▹ refl ▹ bit-of 49 (limit 49 (omega arith)) refl ▹ refl ▹ refl ▹ refl ▹ refl ▹ refl
      ▹ flag-shown (x 55) (limit 55 (omega arith)) ▹ flag-shown (x 56) (limit 56 (omega arith))
      ▹ bit-of 57 (limit 57 (omega arith)) refl ▹ bit-of 58 (limit 58 (omega arith)) refl ▹ bit-of 59 (limit 59 (omega arith)) refl
      ▹ none (limit 60 (omega arith)) ▹ none (limit 61 (omega arith)) ▹ none (limit 62 (omega arith)) ▹ sym tests.layout
      ▹ done

  pub image-again : length s ≡ record_length → image_of (device_at s) ≡ s
  image-again n = same_lists _ _ image-same ∙ sym (ap (listed x) n) ∙ listed-again s

-- whatever is refused is refused for its bytes
pub refused-record : (s : List ℕ) (r : Refusal) → decode_of s ≡ Err r → ◌≡◌ {A = Result Device Refusal} (Err r) (Err Record)
unfolding decode_of
refused-record s r h = split (is_record s)
    (λ e. absurd (let a : Ok (device_at s) ≡ Err r = pick_true _ _ _ _ e refl ∙ h in let z : ◌≡◌ {A = ℕ} 0 1 = cc in omega arith))
    (λ e. sym h ∙ sym (pick-false _ _ _ _ e refl))
