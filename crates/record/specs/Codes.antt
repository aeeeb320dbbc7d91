-- The codes of what a device holds as one of a few cases: the size code UCSZ2:0 as in the registers, a frame's marks,
-- and an SPI flag.
use Rattle.std.specs.Prelude.{ℕ, ◌+◌, ◌*◌, ◌/◌, ◌%◌, eqb, None, Option, Some}
use Rattle.choice.specs.Bit.{is_set}
use Rattle.choice.specs.Pick.{pick, digit}
use Rattle.frame.specs.declared.format.Size.{Size}
use Rattle.frame.specs.declared.format.Size.TheVariants.{Eight}
use Rattle.usart.specs.Settings.{size_of}
use Rattle.usart.specs.declared.queue.Frame.{Frame}
use Rattle.spi.specs.declared.flag.Flag.{Flag}
use Rattle.spi.specs.declared.flag.Flag.TheVariants.{Clear, Set, Armed}

-- UCSZ2:0, from UCSR0B and UCSR0C
abbrev pub size_code : ℕ → ℕ → ℕ
size_code b c = b / 4 % 2 * 4 + c / 2 % 4

-- a reserved code gives any size: a record that has one is refused
abbrev pub size_in : Option Size → Size
size_in (Some z) = z
size_in None = Eight

abbrev pub known_size : ℕ → Size
known_size n = size_in (size_of n)

-- a held frame's ninth data bit, UPE, DOR and FE, in bits 0 to 3
abbrev pub marks_of : Frame → ℕ
marks_of f = f.«data» / 256 % 2 + digit f.upe * 2 + digit f.dor * 4 + digit f.fe * 8

-- the frame of its three bytes: the data's low byte, the marks, and the split votes
abbrev pub frame_from : ℕ → ℕ → ℕ → Frame
frame_from l m c = record { «data» = l + 256 * (m % 2); fe = is_set m 8; upe = is_set m 2; dor = is_set m 4; splits = c }

-- 0 clear, 1 set, 2 set and armed
abbrev pub flag_code : Flag → ℕ
flag_code Clear = 0
flag_code Set = 1
flag_code Armed = 2

unfoldable pub flag_of : ℕ → Flag
flag_of n = pick (eqb n 1) Set (pick (eqb n 2) Armed Clear)
