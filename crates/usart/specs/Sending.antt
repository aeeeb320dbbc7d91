-- The sender's line at the serial unit.
use Rattle.std.specs.Prelude.{ℕ, suc, ◌+◌, ◌-◌, ◌*◌, ◌/◌, Bool, true, List, [], ◌∷◌, ◌++◌, map, ◌≡◌, leb, length, None, Option, Some}
use Rattle.choice.specs.Pick.{pick, digit}
use Rattle.frame.specs.Format.{word_bits, last_bit}
use Rattle.frame.specs.Word.{data_of}
use Rattle.usart.specs.Sender.{is_vacant}
use Rattle.usart.specs.Unit.{bit_clocks, clock_of, output_of}
use Rattle.usart.specs.Event.{Event, clock, write, read, vector, next_of, is_udr0, OnlyData}
use Rattle.usart.specs.Line.{Sent, line_level, Fits, Spaced}
use Rattle.usart.specs.Valid.{ValidBuffer}
use Rattle.usart.specs.declared.baud.Baud.{Baud}
use Rattle.usart.specs.declared.unit.Usart.{Usart}

-- enabled, nothing in shift; the buffer may hold a frame; any baud counter
pub record ReadyToSend (u : Usart) : Type 0 where
  pub enabled : u.control.txen ≡ true
  pub resting : u.sender.shifter ≡ None

-- so at first, and no serial register but UDR0 written
pub record MaySend (u : Usart) (es : List Event) : Type 0 where
  pub ready : ReadyToSend u
  pub buffer : ValidBuffer u.format u.sender.buffer
  pub only_data : OnlyData u es

-- the data in the buffer
abbrev pub waiting : Option ℕ → List ℕ
waiting None = []
waiting (Some d) = d ∷ []

-- the data that a write to UDR0 gives the buffer, with TXB8 as it then stands; one that finds UDRE clear is ignored
abbrev pub accepted_by : Usart → Event → List ℕ
accepted_by u (clock rxd) = []
accepted_by u (write r v) =
    pick (is_udr0 r) (pick (is_vacant u.sender.buffer) (data_of u.format (digit u.control.txb8 * 256 + v) ∷ []) []) []
accepted_by u (read r) = []
accepted_by u vector = []

-- data that the buffer holds, and the first clock that finds them there
pub record Taken : Type 0 where
  pub from : ℕ
  pub «data» : ℕ

abbrev pub taken_at : ℕ → ℕ → Taken
taken_at j d = record { from = j; «data» = d }

-- the data that the buffer takes, in order, the first clock of the list being j: what is written before a clock is
-- found by it
abbrev pub taken_of : ℕ → Usart → List Event → List Taken
taken_of j u [] = []
taken_of j u (clock rxd ∷ es) = taken_of (suc j) (clock_of u rxd) es
taken_of j u (write r v ∷ es) = map (taken_at j) (accepted_by u (write r v)) ++ taken_of j (next_of u (write r v)) es
taken_of j u (read r ∷ es) = taken_of j (next_of u (read r)) es
taken_of j u (vector ∷ es) = taken_of j (next_of u vector) es

-- the first tick at clock j or later: ticks are UBRR + 1 clocks apart, the first when the counter, as it is at first,
-- has run down
unfoldable pub tick_from : Baud → ℕ → ℕ
tick_from b j = b.left.0 + (j - b.left.0 + b.ubrr) / (b.ubrr + 1) * (b.ubrr + 1)

-- clocks a frame, with its last stop bit
abbrev pub frame_clocks : Usart → ℕ
frame_clocks u = (last_bit u.format + 1) * bit_clocks u

-- the later of two clocks
abbrev pub later_of : ℕ → ℕ → ℕ
later_of i j = i + (j - i)

-- each frame begins at the first tick that finds it in the buffer and the shifter empty: from clock i on, then from the
-- end of the last stop bit of the frame before
abbrev pub frames_from : Usart → ℕ → List Taken → List Sent
frames_from u i [] = []
frames_from u i (t ∷ ts) =
    let n : ℕ = tick_from u.baud (later_of i t.from) in
    record { start = n; «data» = t.«data» } ∷ frames_from u (n + frame_clocks u) ts

-- the frames of what the buffer held at first, and of ts that it took
abbrev pub frames_of : Usart → List Taken → List Sent
frames_of u ts = frames_from u 0 (map (taken_at 0) (waiting u.sender.buffer) ++ ts)

-- those that begin at clock J or later
abbrev pub not_before : ℕ → List Sent → List Sent
not_before J [] = []
not_before J (s ∷ ss) = pick (leb J s.start) (s ∷ not_before J ss) (not_before J ss)

-- the output byte after each clock
abbrev pub outputs_of : Usart → List Event → List ℕ
outputs_of u [] = []
outputs_of u (clock rxd ∷ es) = output_of (clock_of u rxd) ∷ outputs_of (clock_of u rxd) es
outputs_of u (write r v ∷ es) = outputs_of (next_of u (write r v)) es
outputs_of u (read r ∷ es) = outputs_of (next_of u (read r)) es
outputs_of u (vector ∷ es) = outputs_of (next_of u vector) es

-- TxD is driven, and its level at each clock is that of w
abbrev pub Drives : (ℕ → Bool) → ℕ → List ℕ → Type 0
Drives w j [] = Unit {0}
Drives w j (o ∷ os) = (o ≡ digit (w j) + 16) × Drives w (suc j) os

abbrev pub data_in : Sent → ℕ
data_in s = s.«data»

-- TxD, in the outputs, is a line with Q = 1 and P = S·(UBRR + 1), of exactly the frames that the buffer held at first
-- or took, in order, each begun at its tick. The list's end may cut the last one begun, or leave in the buffer one
-- whose tick has not come, and no other
pub record Sends (u : Usart) (taken : List Taken) (outputs : List ℕ) (left : Option ℕ) : Type 0 where
  pub fits : Fits u.format (frames_of u taken)
  pub spaced : Spaced (word_bits u.format) (bit_clocks u) 1 (frames_of u taken)
  pub drives : Drives (line_level u.format (bit_clocks u) 1 (frames_of u taken)) 0 outputs
  pub remains : map data_in (not_before (length outputs) (frames_of u taken)) ≡ waiting left
