-- The marked cases M1 to M10 of document 01, each of the rules' own definitions, in one list.
use Rattle.std.specs.Prelude.{ℕ, zero, suc, ◌+◌, ◌-◌, ◌*◌, ◌≤◌, true, false, List, [], ◌∷◌, ◌++◌, ◌≡◌, eqb}
use Rattle.choice.specs.Bit.{bit_at}
use Rattle.choice.specs.Pick.{pick, digit}
use Rattle.frame.specs.Format.{last_bit}
use Rattle.frame.specs.Parity.{parity_in}
use Rattle.frame.specs.Vote.{vote_of}
use Rattle.frame.specs.declared.format.Format.{Format}
use Rattle.frame.specs.declared.format.Parity.TheVariants.{Even}
use Rattle.frame.specs.declared.format.Size.TheVariants.{Nine}
use Rattle.usart.specs.Bit.{BitLasts}
use Rattle.usart.specs.Limit.{limit, Within}
use Rattle.usart.specs.Line.{line_level}
use Rattle.usart.specs.Marked.{zeros, four_frames}
use Rattle.usart.specs.declared.unit.Usart.{Usart}
use Rattle.spi.specs.Control.{divisor_number}
use Rattle.spi.specs.Event.{Event, clock, clocks_in, is_undisturbed}
use Rattle.spi.specs.Exchange.{SetsSpif, MayStart}
use Rattle.spi.specs.Register.{write_spdr}
use Rattle.spi.specs.declared.clock.Levels.{Levels}
use Rattle.spi.specs.declared.unit.Spi.{Spi}
use Rattle.device.specs.Outcome.{answer_of, value_of, settled, read_settled}
use Rattle.device.specs.Register.{write_of, read_of}
use Rattle.device.specs.Run.{ran_of}
use Rattle.device.specs.Unit.{reset_device, clock_of, output_of}
use Rattle.device.specs.declared.unit.Device.{Device}

-- a register written, and what one reads
abbrev pub written : Device → ℕ → ℕ → Device
written d a v = settled d (write_of d a v)

abbrev pub reads : Device → ℕ → ℕ
reads d a = value_of (read_of d a)

-- M1: UBRR 51, S = 16: a bit is 832 clocks, of every unit so set, on TxD
abbrev pub M1 : Type 0
M1 = (u : Usart) → u.format.u2x ≡ false → u.baud.ubrr ≡ 51 → BitLasts 832 u

-- M2: UBRR 0, S = 8: 8
abbrev pub M2 : Type 0
M2 = (u : Usart) → u.format.u2x ≡ true → u.baud.ubrr ≡ 0 → BitLasts 8 u

-- M3: even parity of 0x55 is 0, of 0x07 is 1
abbrev pub M3 : Type 0
M3 = (parity_in Even 8 0x55 ≡ 0) × (parity_in Even 8 0x07 ≡ 1)

-- M4: shortest frame 7 bits, longest 13; bits are counted from the start bit, 0
abbrev pub M4 : Type 0
M4 =
    ((f : Format) → (7 ≤ last_bit f + 1) × (last_bit f + 1 ≤ 13))
    × (((f : Format) × (last_bit f + 1 ≡ 7)) × ((f : Format) × (last_bit f + 1 ≡ 13)))

-- M5: votes low, high, low give low
abbrev pub M5 : Type 0
M5 = (vote_of false true false).level ≡ false

-- M6: UCSR0C 0x00 with UCSZ2 set: 2. Nine data bits are the one size that has UCSZ2 set
abbrev pub M6 : Type 0
M6 = (d : Device) → d.usart.format.size ≡ Nine → answer_of (write_of d 0xC2 0x00) ≡ 2

-- SPIF is set on clock n after SPDR is written, and does not rise before, with divisor number i
abbrev pub SpifOn : ℕ → ℕ → Type 0
SpifOn i n =
    (s : Spi) (v : ℕ) (es : List Event) (l : Levels) → MayStart s v → is_undisturbed (write_spdr s v) (es ++ (clock l ∷ [])) ≡ true
    → divisor_number s.control ≡ i → clocks_in es + 1 ≡ n → SetsSpif (write_spdr s v) (es ++ (clock l ∷ []))

-- M7: divisor 2: SPIF on clock 16; divisor 128: clock 1,024
abbrev pub M7 : Type 0
M7 = SpifOn 4 16 × SpifOn 3 1024

-- M8's device: after reset, TXEN set and the byte v written
unfoldable pub sending : ℕ → Device
sending v = written (written reset_device 0xC1 0x08) 0xC6 v

-- a bit of UCSR0A after each of n clocks on a high line
unfoldable pub status_bits : ℕ → Device → ℕ → List ℕ
status_bits k d zero = []
status_bits k d (suc n) = bit_at (reads (clock_of d 1) 0xC0) k ∷ status_bits k (clock_of d 1) n

-- M8: start bit on clock 1 (TxD driven and low), UDRE back on clock 1, TXC on clock 161
abbrev pub M8 : Type 0
M8 =
    (v : ℕ)
    → (output_of (clock_of (sending v) 1) 1 ≡ 16)
    × ((bit_at (reads (sending v) 0xC0) 5 ≡ 0) × ((status_bits 5 (sending v) 1 ≡ 1 ∷ []) × (status_bits 6 (sending v) 161 ≡ zeros 160 ++ (1 ∷ []))))

-- M9: S = 16, UBRR 0, D = 9, Q = 100: P 1,577 and 1,624 within the limit, 1,576 and 1,625 not
abbrev pub WithinAt : ℕ → Type 0
WithinAt P = Within (limit false 9) (16 * (0 + 1) * 100) P

abbrev pub M9 : Type 0
M9 = (WithinAt 1577 × WithinAt 1624) × ((WithinAt 1576 → ⊥) × (WithinAt 1625 → ⊥))

-- M10: the level bytes of n clocks of the line `four_frames` of the serial unit, the first at clock j
unfoldable pub line_from : Format → ℕ → ℕ → List ℕ
line_from f j zero = []
line_from f j (suc n) = digit (line_level f 8 1 four_frames j) ∷ line_from f (suc j) n

-- M10's device: after reset, double speed and RXEN
unfoldable pub listening : Device
listening = written (written reset_device 0xC0 0x02) 0xC1 0x10

unfoldable pub heard : Device → ℕ → ℕ → Device
heard d j n = ran_of d (line_from d.usart.format j n)

-- what a read of UDR0 takes, with RXC set just before it: its value, and DOR just before it
abbrev pub taken_by : Device → List ℕ
taken_by d = pick (eqb (bit_at (reads d 0xC0) 7) 1) (reads d 0xC6 ∷ bit_at (reads d 0xC0) 3 ∷ []) []

abbrev pub after_read : Device → Device
after_read d = read_settled d (read_of d 0xC6)

-- what is read: UDR0 twice before clock j, and twice when the line has ended
unfoldable pub read_at : ℕ → List ℕ
read_at j =
    let one : Device = heard listening 0 j in
    let two : Device = after_read one in
    let three : Device = heard (after_read two) j (360 - j) in
    taken_by one ++ taken_by two ++ taken_by three ++ taken_by (after_read three)

-- 1, 2, 3, 4 without DOR
abbrev pub all_four : List ℕ
all_four = 1 ∷ 0 ∷ 2 ∷ 0 ∷ 3 ∷ 0 ∷ 4 ∷ 0 ∷ []

-- the third frame is gone, and the fourth carries DOR
abbrev pub third_lost : List ℕ
third_lost = 1 ∷ 0 ∷ 2 ∷ 0 ∷ 4 ∷ 1 ∷ []

-- M10, as M-103 changes it: 'if its two reads come before the fourth frame's start, all four frames come out without
-- DOR', and they still do before the last vote of that start, at clock 277. After it, and with all four unread (source
-- 003), the third is gone
abbrev pub M10 : Type 0
M10 = ((read_at 272 ≡ all_four) × (read_at 277 ≡ all_four)) × ((read_at 278 ≡ third_lost) × (read_at 360 ≡ third_lost))

abbrev pub cases : List (Type 0)
cases = M1 ∷ M2 ∷ M3 ∷ M4 ∷ M5 ∷ M6 ∷ M7 ∷ M8 ∷ M9 ∷ M10 ∷ []

-- each of a list of statements
abbrev pub Each : List (Type 0) → Type 0
Each [] = Unit {0}
Each (t ∷ ts) = t × Each ts
