-- What a write of a serial register is refused for: for each number its condition, by itself (document 01, 'Numbers the
-- rig sees' and 'Registers and their writes'). The lowest place in the order 2, 3, 4 wins; a number's condition does
-- not look at the others.
use Rattle.std.specs.Prelude.{ℕ, ◌+◌, ◌*◌, ◌/◌, ◌%◌, Bool, true, false, not, ◌&&◌, ◌||◌, eqb}
use Rattle.choice.specs.Pick.{digit}
use Rattle.usart.specs.Unit.{is_busy}
use Rattle.usart.specs.Settings.{code_of, size_of, is_known, upm_of}
use Rattle.usart.specs.declared.unit.Usart.{Usart}
use Rattle.usart.specs.declared.write.Register.{Register}
use Rattle.usart.specs.declared.write.Register.TheVariants.{Ucsr0a, Ucsr0b, Ucsr0c, Ubrr0l, Ubrr0h, Udr0}

abbrev pub is_size : ℕ → Bool
is_size n = is_known (size_of n)

-- 2, reserved setting. B, C: the size code UCSZ2:0 after the write is of no size; C: UMSEL 10, UPM 01, UCPOL 1; UBRR0H:
-- bits 7 to 4
abbrev pub is_reserved : Usart → Register → ℕ → Bool
is_reserved u Ucsr0a v = false
is_reserved u Ucsr0b v = not (is_size (v / 4 % 2 * 4 + code_of u.format.size % 4))
is_reserved u Ucsr0c v =
    eqb (v / 64) 2 || eqb (v / 16 % 4) 1 || eqb (v % 2) 1 || not (is_size (code_of u.format.size / 4 * 4 + v / 2 % 4))
is_reserved u Ubrr0l v = false
is_reserved u Ubrr0h v = not (eqb (v / 16) 0)
is_reserved u Udr0 v = false

-- 3, mode not modelled. A: MPCM 1; C: UMSEL 01 and 11
abbrev pub is_unmodelled : Usart → Register → ℕ → Bool
is_unmodelled u Ucsr0a v = eqb (v % 2) 1
is_unmodelled u Ucsr0b v = false
is_unmodelled u Ucsr0c v = eqb (v / 64) 1 || eqb (v / 64) 3
is_unmodelled u Ubrr0l v = false
is_unmodelled u Ubrr0h v = false
is_unmodelled u Udr0 v = false

-- a write that changes U2X (in A), UCSZ2 (in B), UPM, USBS or UCSZ1:0 (in C), and any write to UBRR0L or H
abbrev pub changes : Usart → Register → ℕ → Bool
changes u Ucsr0a v = not (eqb (v / 2 % 2) (digit u.format.u2x))
changes u Ucsr0b v = not (eqb (v / 4 % 2) (code_of u.format.size / 4))
changes u Ucsr0c v =
    not (eqb (v / 16 % 4) (upm_of u.format.parity))
    || not (eqb (v / 8 % 2) (digit u.format.usbs))
    || not (eqb (v / 2 % 4) (code_of u.format.size % 4))
changes u Ubrr0l v = true
changes u Ubrr0h v = true
changes u Udr0 v = false

-- 4: a setting changed while the transmitter has a frame in shift or buffer, or the receiver is between first low
-- sample and stop decision, judged on the state before the write
abbrev pub is_under_way : Usart → Register → ℕ → Bool
is_under_way u r v = is_busy u && changes u r v
