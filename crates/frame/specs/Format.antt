-- The frame's format (document 01, 'Baud clock, sender': 'A frame is ..'; 'A bit lasts S ticks').
use Rattle.std.specs.Prelude.{ℕ, ◌+◌}
use Rattle.choice.specs.Pick.{pick}
use Rattle.frame.specs.declared.format.Size.{Size}
use Rattle.frame.specs.declared.format.Size.TheVariants.{Five, Six, Seven, Eight, Nine}
use Rattle.frame.specs.declared.format.Parity.{Parity}
use Rattle.frame.specs.declared.format.Parity.TheVariants.{Off, Even, Odd}
use Rattle.frame.specs.declared.format.Format.{Format}

-- S: a bit lasts 16 ticks, or 8 with U2X
abbrev pub samples : Format → ℕ
samples f = pick f.u2x 8 16

-- 5 to 9 data bits
abbrev pub data_bits : Size → ℕ
data_bits Five = 5
data_bits Six = 6
data_bits Seven = 7
data_bits Eight = 8
data_bits Nine = 9

-- parity if on
abbrev pub parity_bits : Parity → ℕ
parity_bits Off = 0
parity_bits Even = 1
parity_bits Odd = 1

-- 1 or 2 stop bits
abbrev pub stop_bits : Format → ℕ
stop_bits f = pick f.usbs 2 1

-- D: data bits plus parity bit
abbrev pub word_bits : Format → ℕ
word_bits f = data_bits f.size + parity_bits f.parity

-- a frame's bits are 0, the start bit, to this one
abbrev pub last_bit : Format → ℕ
last_bit f = word_bits f + stop_bits f

-- voting samples are 8, 9, 10 (S = 16) or 4, 5, 6 (S = 8), samples being counted from 1: the number of the first
abbrev pub first_vote : Format → ℕ
first_vote f = pick f.u2x 4 8
