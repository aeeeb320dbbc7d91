-- The sender (document 01, 'Baud clock, sender').
use Rattle.std.specs.Prelude.{ℕ, ◌+◌, ◌-◌, Bool, true, false, ltb, None, Option, Some}
use Rattle.choice.specs.Pick.{pick}
use Rattle.frame.specs.Format.{samples, word_bits, last_bit}
use Rattle.frame.specs.Word.{word_of, frame_bit}
use Rattle.frame.specs.declared.format.Format.{Format}
use Rattle.usart.specs.declared.sender.Transmission.{Transmission}
use Rattle.usart.specs.declared.sender.Sender.{Sender}

-- UDRE
abbrev pub is_vacant : Option ℕ → Bool
is_vacant None = true
is_vacant (Some d) = false

abbrev pub is_resting : Option Transmission → Bool
is_resting None = true
is_resting (Some t) = false

-- the buffer takes data where UDRE is set; any other is ignored
abbrev pub buffer_of : Option ℕ → ℕ → Option ℕ
buffer_of None d = Some d
buffer_of (Some e) d = Some e

abbrev pub filled_of : Sender → ℕ → Sender
filled_of s d = record { buffer = buffer_of s.buffer d; shifter = s.shifter; txc = s.txc }

-- the first tick of a frame: its start bit begins
abbrev pub begun : Format → ℕ → Transmission
begun f d = record { word = word_of f d; bit = 0; sample = record { 0 = 0 } }

-- a full buffer moves to the shifter, UDRE is set and the start bit begins; from an empty one the shifter is at rest
-- with TXC as given
abbrev pub moved_from : Format → Option ℕ → Bool → Bool → Sender
moved_from f None kept txc = record { buffer = None; shifter = None; txc = txc }
moved_from f (Some d) kept txc = record { buffer = None; shifter = Some (begun f d); txc = kept }

abbrev pub moved_of : Format → Sender → Bool → Sender
moved_of f s txc = moved_from f s.buffer s.txc txc

-- the frame in the shifter at another place
abbrev pub at_of : Sender → Transmission → Sender
at_of s t = record { buffer = s.buffer; shifter = Some t; txc = s.txc }

abbrev pub placed : Transmission → ℕ → ℕ → Transmission
placed t b n = record { word = t.word; bit = b; sample = record { 0 = n } }

-- a bit lasts S ticks; at the end of the last stop bit a full buffer moves to the shifter, with an empty one TXC is set
unfoldable pub stepped_of : Format → Sender → Transmission → Sender
stepped_of f s t =
    pick (ltb t.sample.0 (samples f - 1)) (at_of s (placed t t.bit (t.sample.0 + 1)))
    (pick (ltb t.bit (last_bit f)) (at_of s (placed t (t.bit + 1) 0))
    (moved_of f s true))

-- a tick
abbrev pub shifted_on : Format → Sender → Option Transmission → Sender
shifted_on f s None = moved_of f s s.txc
shifted_on f s (Some t) = stepped_of f s t

abbrev pub sender_of : Format → Sender → Sender
sender_of f s = shifted_on f s s.shifter

-- the level of TxD
abbrev pub txd_of : Format → Option Transmission → Bool
txd_of f None = true
txd_of f (Some t) = frame_bit (word_bits f) t.word t.bit

-- TXC cleared
abbrev pub acknowledged_of : Sender → Sender
acknowledged_of s = record { buffer = s.buffer; shifter = s.shifter; txc = false }
