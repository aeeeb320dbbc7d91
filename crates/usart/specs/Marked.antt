-- M8 and M10 of document 01 at the serial unit.
use Rattle.std.specs.Prelude.{ℕ, zero, suc, ◌-◌, true, List, [], ◌∷◌, ◌++◌, ◌≡◌}
use Rattle.choice.specs.Bit.{bit_at}
use Rattle.usart.specs.Unit.{reset_usart, clock_of, output_of}
use Rattle.usart.specs.Read.{ucsr0a}
use Rattle.usart.specs.Event.{Event, clock, write, read, final_of}
use Rattle.usart.specs.Line.{Sent, line_level}
use Rattle.usart.specs.Receiving.{Seen, reads_of}
use Rattle.usart.specs.declared.unit.Usart.{Usart}
use Rattle.usart.specs.declared.write.Register.TheVariants.{Ucsr0a, Ucsr0b, Udr0}

-- M8: UBRR 0, 8 bits, no parity, 1 stop, one byte written: start bit on clock 1, UDRE back on clock 1, TXC on clock
-- 161. After reset, TXEN is set and the byte v written
unfoldable pub sending : ℕ → Usart
sending v = final_of reset_usart (write Ucsr0b 0x08 ∷ write Udr0 v ∷ [])

-- a bit of UCSR0A after each of n clocks on a high line
unfoldable pub status_bits : ℕ → Usart → ℕ → List ℕ
status_bits k u zero = []
status_bits k u (suc n) = bit_at (ucsr0a (clock_of u true)) k ∷ status_bits k (clock_of u true) n

unfoldable pub zeros : ℕ → List ℕ
zeros zero = []
zeros (suc n) = 0 ∷ zeros n

-- start bit on clock 1 (TxD driven and low), UDRE clear before it and back with it, TXC on clock 161 and not before
pub record M8 (v : ℕ) : Type 0 where
  pub start : output_of (clock_of (sending v) true) ≡ 16
  pub full : bit_at (ucsr0a (sending v)) 5 ≡ 0
  pub udre : status_bits 5 (sending v) 1 ≡ 1 ∷ []
  pub txc : status_bits 6 (sending v) 161 ≡ zeros 160 ++ (1 ∷ [])

-- M10's line: four frames, the data 1 to 4, one after the other. At UBRR 0 and double speed a bit is 8 clocks, and the
-- last vote of a start bit is its sixth
unfoldable pub four_frames : List Sent
four_frames =
    record { start = 8; «data» = 1 } ∷ record { start = 96; «data» = 2 } ∷ record { start = 184; «data» = 3 } ∷ record { start = 272; «data» = 4 } ∷ []

-- after reset, double speed and RXEN
unfoldable pub listening : Usart
listening = final_of reset_usart (write Ucsr0a 0x02 ∷ write Ucsr0b 0x10 ∷ [])

-- n clocks of the line, the first at clock j, and then es
unfoldable pub line : ℕ → ℕ → List Event → List Event
line j zero es = es
line j (suc n) es = clock (line_level listening.format 8 1 four_frames j) ∷ line (suc j) n es

-- what is read: UDR0 twice before clock j, and twice when the line has ended
unfoldable pub read_at : ℕ → List Seen
read_at j = reads_of listening (line 0 j (read Udr0 ∷ read Udr0 ∷ line j (360 - j) (read Udr0 ∷ read Udr0 ∷ [])))

abbrev pub frame_seen : ℕ → ℕ → Seen
frame_seen value dor = record { value = value; rxb8 = 0; fe = 0; dor = dor; upe = 0; splits = 0 }

abbrev pub all_four : List Seen
all_four = frame_seen 1 0 ∷ frame_seen 2 0 ∷ frame_seen 3 0 ∷ frame_seen 4 0 ∷ []

-- the third frame is lost, and the fourth carries DOR
abbrev pub third_lost : List Seen
third_lost = frame_seen 1 0 ∷ frame_seen 2 0 ∷ frame_seen 4 1 ∷ []

-- M10, as M-103 changes it: 'if its two reads come before the fourth frame's start, all four frames come out without
-- DOR', and they still do before that start's last vote, at clock 277. After it, and with all four unread (source 003),
-- the third is gone
pub record M10 : Type 0 where
  pub in_time : read_at 272 ≡ all_four
  pub saved : read_at 277 ≡ all_four
  pub late : read_at 278 ≡ third_lost
  pub unread : read_at 360 ≡ third_lost
