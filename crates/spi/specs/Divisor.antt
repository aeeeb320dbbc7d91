-- The clock divisor (document 01, 'SPI').
use Rattle.std.specs.Prelude.{ℕ, ◌/◌, ◌%◌, List, [], ◌∷◌, get_or}

-- by SPI2X, SPR1, SPR0, 000 to 111
abbrev pub divisors : List ℕ
divisors = 4 ∷ 16 ∷ 64 ∷ 128 ∷ 2 ∷ 8 ∷ 32 ∷ 64 ∷ []

-- h is half of it
abbrev pub half_of : ℕ → ℕ
half_of n = get_or divisors (n % 8) 0 / 2
