-- What a frame puts on the line (document 01, 'Baud clock, sender': 'A frame is a low start bit, 5 to 9 data bits low
-- bit first, parity if on, 1 or 2 high stop bits'). The word is the data bits and, above them, the parity bit: D bits
-- between start and stop.
use Rattle.std.specs.Prelude.{ℕ, ◌+◌, ◌-◌, ◌*◌, ◌/◌, ◌%◌, ◌^◌, Bool, true, false, not, eqb, leb}
use Rattle.choice.specs.Bit.{is_set}
use Rattle.choice.specs.Pick.{pick}
use Rattle.frame.specs.Format.{data_bits, parity_bits}
use Rattle.frame.specs.Parity.{parity_bit}
use Rattle.frame.specs.declared.format.Format.{Format}

-- the data bits of a word, or of any number
abbrev pub data_of : Format → ℕ → ℕ
data_of f x = x % 2 ^ data_bits f.size

abbrev pub word_of : Format → ℕ → ℕ
word_of f x = data_of f x + parity_bit f x * 2 ^ data_bits f.size

-- bit b of a frame whose word x has D bits: the low start bit, the word's bits, low bit first, then high
unfoldable pub frame_bit : ℕ → ℕ → ℕ → Bool
frame_bit D x b = pick (eqb b 0) false (pick (leb b D) (is_set x (2 ^ (b - 1))) true)

-- UPE: parity on and wrong
unfoldable pub parity_error : Format → ℕ → Bool
parity_error f x = pick (eqb (parity_bits f.parity) 0) false (not (eqb (x / 2 ^ data_bits f.size) (parity_bit f x)))
