-- A bit on the line (document 01, 'Baud clock, sender': 'A bit lasts S ticks'; 'Marked cases', M1 and M2): for how many
-- clocks it is on TxD. It is said by what is there after each clock, not by the counts that the unit keeps.
use Rattle.std.specs.Prelude.{ℕ, ◌+◌, ◌<◌, Bool, List, ◌≡◌, length, None, Some}
use Rattle.choice.specs.Pick.{digit}
use Rattle.frame.specs.Format.{word_bits, last_bit}
use Rattle.frame.specs.Word.{word_of, frame_bit}
use Rattle.frame.specs.declared.format.Format.{Format}
use Rattle.usart.specs.Unit.{clock_of, output_of}
use Rattle.usart.specs.Event.{Event, final_of, levels_of}
use Rattle.usart.specs.declared.unit.Usart.{Usart}

-- bit b of a frame of the word w is on the line: it is in the shifter, whatever number of its ticks has passed, and TxD
-- is driven with its level
pub record OnLine (f : Format) (w b : ℕ) (u : Usart) : Type 0 where
  pub passed : ℕ
  pub shifter : u.sender.shifter ≡ Some (record { word = w; bit = b; sample = record { 0 = passed } })
  pub txd : output_of u ≡ digit (frame_bit (word_bits f) w b) + 16

-- it begins at a clock: it is on the line after the clock, and was not before
pub record Begins (f : Format) (w b : ℕ) (u : Usart) (rxd : Bool) : Type 0 where
  pub before : OnLine f w b u → ⊥
  pub after : OnLine f w b (clock_of u rxd)

abbrev pub clocks_in : List Event → ℕ
clocks_in es = length (levels_of es)

-- the bit lasts n clocks, the first of which, at which it began, left the unit u: it is on the line while fewer than n
-- more pass, whatever RxD does and whatever is written, read or taken between them, and with the n-th it is not. With
-- that clock the frame's next bit begins, and after the last stop bit the start bit of the frame in the buffer
pub record Lasts (n : ℕ) (f : Format) (w b : ℕ) (u : Usart) : Type 0 where
  pub stays : (es : List Event) → clocks_in es < n → OnLine f w b (final_of u es)
  pub ends : (es : List Event) (rxd : Bool) → clocks_in es + 1 ≡ n → OnLine f w b (clock_of (final_of u es) rxd) → ⊥
  pub next : (es : List Event) (rxd : Bool) → clocks_in es + 1 ≡ n → b < last_bit f
      → Begins f w (b + 1) (final_of u es) rxd
  pub start : (es : List Event) (rxd : Bool) (d : ℕ) → clocks_in es + 1 ≡ n → b ≡ last_bit f
      → (final_of u es).sender.buffer ≡ Some d
      → Begins f (word_of f d) 0 (final_of u es) rxd

-- a bit of the unit u is n clocks: a start bit begins at a tick that finds the shifter empty and the buffer full, and
-- whichever bit of a frame begins lasts n clocks
pub record BitLasts (n : ℕ) (u : Usart) : Type 0 where
  pub first : (rxd : Bool) (d : ℕ) → u.baud.left.0 ≡ 0 → u.sender.shifter ≡ None → u.sender.buffer ≡ Some d
      → Begins u.format (word_of u.format d) 0 u rxd
  pub each : (rxd : Bool) (w b : ℕ) → Begins u.format w b u rxd → Lasts n u.format w b (clock_of u rxd)
