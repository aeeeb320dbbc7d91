-- The table of numbers, document 01's and what document 02 adds: for each number its condition, by itself, and for each
-- exported call its numbers in the order given there, of which the first whose condition holds is the answer, else 0.
-- The record is any bytes; the last four calls take none.
use Rattle.std.specs.Prelude.{ℕ, ◌/◌, ◌<◌, Bool, true, false, not, ◌&&◌, ◌||◌, List, [], ◌∷◌, ◌≡◌, eqb, ltb, length, Err, None, Ok, Option, Result, Some}
use Rattle.std.proofs.Math.Pow.{are_bytes}
use Rattle.choice.specs.Pick.{pick}
use Rattle.usart.specs.Unit.{txc_requested}
use Rattle.usart.specs.Refusing.{is_reserved, is_unmodelled, is_under_way as is_frame_under_way}
use Rattle.spi.specs.Unit.{is_requested}
use Rattle.spi.specs.Refusing.{is_under_way as is_transfer_under_way}
use Rattle.device.specs.Address.{place_of}
use Rattle.device.specs.Unit.{reset_device}
use Rattle.device.specs.declared.unit.Device.{Device}
use Rattle.trace.specs.Contents.{Check, contents_of}
use Rattle.trace.specs.Listing.{list_of, listing_of}
use Rattle.trace.specs.Meaning.{IsText}
use Rattle.trace.specs.Shrinking.{shrunk_text}
use Rattle.trace.specs.Text.{AllInRange, text_of}
use Rattle.trace.specs.declared.item.Item.{Item}
use Rattle.playback.specs.Replay.{step_of}
use Rattle.record.specs.Layout.{record_length}
use Rattle.record.specs.Codec.{decode_of}
use Rattle.record.specs.Refusing.{NoRecord}
use Rattle.warpmagpie.specs.Calls.{reset_answer, write_answer, read_answer, vector_answer, run_answer, requests_answer, split_votes_answer}
use Rattle.holding.specs.Hold.{hold_answer}
use Rattle.tracing.specs.Replay.{replay_answer}
use Rattle.recording.specs.Calls.{trace_write_answer, trace_shrink_answer}
use Rattle.warpmagpie.specs.Baud.{plan_answer, check_answer}
use Rattle.history.specs.Call.{device_of}
use Rattle.answer.specs.declared.Refusal.{Refusal}
use Rattle.device.specs.declared.address.Place.{Place}
use Rattle.device.specs.declared.address.Place.TheVariants.{Serial, Spi}

-- 5: record not 64 bytes, a field out of its range (also against the format), or an unused byte not zero. As a test it
-- is that the record is no device's; `Numbers` has it by itself
abbrev pub is_no_device : Result Device Refusal → Bool
is_no_device (Ok d) = false
is_no_device (Err _) = true

abbrev pub is_no_record : List ℕ → Bool
is_no_record s = is_no_device (decode_of s)

-- 5, of a reset: it refuses only a wrong length
abbrev pub is_wrong_length : List ℕ → Bool
is_wrong_length s = not (eqb (length s) record_length)

-- 1: no such register address
abbrev pub is_no_place : Option Place → Bool
is_no_place (Some (Serial r)) = false
is_no_place (Some (Spi r)) = false
is_no_place None = true

abbrev pub is_nowhere : ℕ → Bool
is_nowhere a = is_no_place (place_of a)

-- .. or vector
abbrev pub is_no_vector : ℕ → Bool
is_no_vector n = not (eqb n 0) && not (eqb n 1)

-- 2: reserved setting, of a serial register alone
abbrev pub reserved_at : Device → Option Place → ℕ → Bool
reserved_at d (Some (Serial r)) v = is_reserved d.usart r v
reserved_at d (Some (Spi r)) v = false
reserved_at d None v = false

-- 3: mode not modelled, of a serial register alone
abbrev pub unmodelled_at : Device → Option Place → ℕ → Bool
unmodelled_at d (Some (Serial r)) v = is_unmodelled d.usart r v
unmodelled_at d (Some (Spi r)) v = false
unmodelled_at d None v = false

-- 4: setting changed while a frame or transfer is under way
abbrev pub under_way_at : Device → Option Place → ℕ → Bool
under_way_at d (Some (Serial r)) v = is_frame_under_way d.usart r v
under_way_at d (Some (Spi r)) v = is_transfer_under_way d.spi r v
under_way_at d None v = false

-- 6: output slice not as long as the level slice
abbrev pub are_uneven : List ℕ → List ℕ → Bool
are_uneven ls os = not (eqb (length os) (length ls))

-- 7: a level byte with bit 5, 6 or 7 set
abbrev pub is_high_level : ℕ → Bool
is_high_level l = not (eqb (l / 32) 0)

unfoldable pub has_high_level : List ℕ → Bool
has_high_level [] = false
has_high_level (l ∷ ls) = is_high_level l || has_high_level ls

-- 8: vector taken without its request, TXC with TXCIE for vector 0 and SPIF with SPIE for vector 1
abbrev pub is_unrequested : Device → ℕ → Bool
is_unrequested d n = eqb n 0 && not (txc_requested d.usart) || eqb n 1 && not (is_requested d.spi)

-- 9: text malformed (document 02, M-100). As a test it is that some line is; `Numbers` has it by itself
abbrev pub is_bad : Check → Bool
is_bad (Ok tt) = false
is_bad (Err bad) = true

abbrev pub is_malformed : List ℕ → Bool
is_malformed text = is_bad (contents_of text).check

-- .. and a list with an item outside the ranges (M-109); `Numbers` has that by itself too
abbrev pub is_no_list : List ℕ → Bool
is_no_list list = not (listing_of list).sound

-- 10: a `W`, `R` or `A` answered otherwise than recorded
unfoldable pub has_different : Device → List Item → Bool
has_different d [] = false
has_different d (i ∷ is) = not (step_of d i).same || has_different (step_of d i).device is

abbrev pub is_different : List ℕ → Bool
is_different text = has_different reset_device (contents_of text).items

-- 11: clock not 1 to 20,000,000 Hz, or rate not 1 to 2,500,000 (document 02, M-104)
abbrev pub is_out_of_range : ℕ → ℕ → Bool
is_out_of_range clock rate = (eqb clock 0 || ltb 20000000 clock) || (eqb rate 0 || ltb 2500000 rate)

-- 12: text longer than the buffer for it (M-109)
abbrev pub is_longer : List ℕ → List ℕ → Bool
is_longer text buffer = ltb (length buffer) (length text)

-- order: 5, 1, 2, 3, 4; for a run 5, 6, 7; for a hold 5, 7; for a vector 5, 1, 8; for a replay 5, 9, 10; for a trace
-- written or shrunk 9, 12
pub record Numbers (s : List ℕ) : Type 0 where
  pub no_record : (is_no_record s ≡ true → NoRecord s) × (NoRecord s → is_no_record s ≡ true)
  pub reset : reset_answer s ≡ pick (is_wrong_length s) 5 0
  pub write : (a v : ℕ) → v < 256
      → write_answer s a v
      ≡ pick (is_no_record s) 5
      (pick (is_nowhere a) 1
      (pick (reserved_at (device_of s) (place_of a) v) 2
      (pick (unmodelled_at (device_of s) (place_of a) v) 3
      (pick (under_way_at (device_of s) (place_of a) v) 4
      0))))
  pub read : (a : ℕ) → read_answer s a ≡ pick (is_no_record s) 5 (pick (is_nowhere a) 1 0)
  pub vector : (n : ℕ) → vector_answer s n ≡ pick (is_no_record s) 5 (pick (is_no_vector n) 1 (pick (is_unrequested (device_of s) n) 8 0))
  pub run : (ls os : List ℕ) → run_answer s ls os ≡ pick (is_no_record s) 5 (pick (are_uneven ls os) 6 (pick (has_high_level ls) 7 0))
  pub hold : (l n : ℕ) → hold_answer s l n ≡ pick (is_no_record s) 5 (pick (is_high_level l) 7 0)
  pub report : requests_answer s ≡ pick (is_no_record s) 5 0
  pub split_votes : split_votes_answer s ≡ pick (is_no_record s) 5 0
  pub malformed : (text : List ℕ)
      → (is_malformed text ≡ true → (is : List Item) → IsText text is → ⊥) × (((is : List Item) → IsText text is → ⊥) → is_malformed text ≡ true)
  pub replay : (text : List ℕ) → replay_answer s text ≡ pick (is_wrong_length s) 5 (pick (is_malformed text) 9 (pick (is_different text) 10 0))
  pub no_list : (list : List ℕ) → are_bytes list ≡ true
      → (is_no_list list ≡ true → (is : List Item) → AllInRange is → list ≡ list_of is → ⊥)
      × (((is : List Item) → AllInRange is → list ≡ list_of is → ⊥) → is_no_list list ≡ true)
  pub trace_write : (list buffer : List ℕ)
      → trace_write_answer list buffer
      ≡ pick (is_no_list list) 9 (pick (is_longer (text_of (listing_of list).items) buffer) 12 0)
  pub trace_shrink : (text buffer : List ℕ)
      → trace_shrink_answer text buffer ≡ pick (is_malformed text) 9 (pick (is_longer (shrunk_text text) buffer) 12 0)
  pub plan : (clock rate u2x : ℕ) → plan_answer clock rate u2x ≡ pick (is_out_of_range clock rate) 11 0
  pub check : (clock rate u2x ubrr : ℕ) → check_answer clock rate u2x ubrr ≡ pick (is_out_of_range clock rate) 11 0
