-- The format as the registers' bits give it (document 01, 'Registers and their writes'; bit places and size codes by
-- source 004).
use Rattle.std.specs.Prelude.{ℕ, ◌+◌, ◌*◌, Bool, true, false, eqb, None, Option, Some}
use Rattle.choice.specs.Pick.{pick, digit}
use Rattle.frame.specs.declared.format.Size.{Size}
use Rattle.frame.specs.declared.format.Size.TheVariants.{Five, Six, Seven, Eight, Nine}
use Rattle.frame.specs.declared.format.Parity.{Parity}
use Rattle.frame.specs.declared.format.Parity.TheVariants.{Off, Even, Odd}
use Rattle.frame.specs.declared.format.Format.{Format}

-- the size code UCSZ2:0 must be 000, 001, 010, 011 or 111 (5, 6, 7, 8, 9 bits)
abbrev pub code_of : Size → ℕ
code_of Five = 0
code_of Six = 1
code_of Seven = 2
code_of Eight = 3
code_of Nine = 7

unfoldable pub size_of : ℕ → Option Size
size_of n =
    pick (eqb n (code_of Five)) (Some Five)
    (pick (eqb n (code_of Six)) (Some Six)
    (pick (eqb n (code_of Seven)) (Some Seven)
    (pick (eqb n (code_of Eight)) (Some Eight)
    (pick (eqb n (code_of Nine)) (Some Nine)
    None))))

abbrev pub is_known : Option Size → Bool
is_known (Some z) = true
is_known None = false

-- UPM 00 is off, 10 even, 11 odd; 01 is refused
abbrev pub upm_of : Parity → ℕ
upm_of Off = 0
upm_of Even = 2
upm_of Odd = 3

unfoldable pub parity_of : ℕ → Parity
parity_of n = pick (eqb n (upm_of Even)) Even (pick (eqb n (upm_of Odd)) Odd Off)

-- UPM, USBS, the size bits and U2X as one number: two formats that differ give two numbers
abbrev pub settings_of : Format → ℕ
settings_of f = code_of f.size + digit f.usbs * 8 + upm_of f.parity * 16 + digit f.u2x * 64
