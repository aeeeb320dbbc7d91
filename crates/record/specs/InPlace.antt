-- A means, no rule: a clock that only counts, by the few bytes that it changes. That it comes to the clock of the
-- device that they say is proved in proofs/InPlaceLaws.antt; which clocks these are is said of the device.
use Rattle.std.specs.Prelude.{ℕ, ◌+◌, ◌-◌, List, set, Err, Ok, Result}
use Rattle.choice.specs.Pick.{pick}
use Rattle.usart.specs.Baud.{ticks}
use Rattle.device.specs.Unit.{output_of}
use Rattle.device.specs.Counting.{is_counting, counted_device}
use Rattle.record.specs.Layout.{ubrr_byte, left_byte, sending_byte, sent_ticks_byte, receiving_byte, samples_byte, byte_at, word_at, low, high}
use Rattle.record.specs.Lift.{baud_at, device_at}
use Rattle.record.specs.Accepts.{is_record}
use Rattle.record.specs.Codec.{record_of}
use Rattle.answer.specs.declared.Refusal.{Refusal}
use Rattle.record.specs.declared.in_place.Stepped.{Stepped}
use Rattle.record.specs.declared.in_place.Stepped.TheVariants.{Counted, Due}
use Rattle.answer.specs.declared.Refusal.TheVariants.{Record}

-- a tick: the baud counter is loaded, and each bit under way has one more
abbrev pub ticked_over : List ℕ → List ℕ
ticked_over s =
    set (set (set (set s left_byte (byte_at s ubrr_byte)) (left_byte + 1) (byte_at s (ubrr_byte + 1))) sent_ticks_byte
    (byte_at s sent_ticks_byte + byte_at s sending_byte)) samples_byte (byte_at s samples_byte + byte_at s receiving_byte)

-- no tick: the counter falls
abbrev pub waited_over : List ℕ → List ℕ
waited_over s = set (set s left_byte (low (word_at s left_byte - 1))) (left_byte + 1) (high (word_at s left_byte - 1))

unfoldable pub advanced_over : List ℕ → List ℕ
advanced_over s = pick (ticks (baud_at s)) (ticked_over s) (waited_over s)

-- one clock: no record; it only counted, and this is its output; or something happens at it, and this is the device,
-- which has not moved
unfoldable pub stepped_of : List ℕ → ℕ → Result Stepped Refusal
stepped_of s level = pick (is_record s) (pick (is_counting (device_at s) level) (Ok (Counted (output_of (device_at s) level))) (Ok (Due (device_at s)))) (Err Record)

-- .. and the bytes after it
unfoldable pub stepped_over : List ℕ → ℕ → List ℕ
stepped_over s level = pick (is_record s) (pick (is_counting (device_at s) level) (record_of (counted_device (device_at s))) s) s
