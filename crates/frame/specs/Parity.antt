-- Parity (document 01, 'Baud clock, sender': 'even: exclusive or of the data bits; odd: the opposite').
use Rattle.std.specs.Prelude.{ℕ, zero, suc, ◌+◌, ◌-◌, ◌/◌, ◌%◌}
use Rattle.frame.specs.Format.{data_bits}
use Rattle.frame.specs.declared.format.Parity.{Parity}
use Rattle.frame.specs.declared.format.Parity.TheVariants.{Off, Even, Odd}
use Rattle.frame.specs.declared.format.Format.{Format}

-- how many of the lowest n bits are set
unfoldable pub sum_of_bits : ℕ → ℕ → ℕ
sum_of_bits zero x = 0
sum_of_bits (suc n) x = x % 2 + sum_of_bits n (x / 2)

-- the parity bit of n data bits: their exclusive or, which is their sum modulo 2; odd, the opposite; 0 where there is
-- none
abbrev pub parity_in : Parity → ℕ → ℕ → ℕ
parity_in Off n x = 0
parity_in Even n x = sum_of_bits n x % 2
parity_in Odd n x = 1 - sum_of_bits n x % 2

abbrev pub parity_bit : Format → ℕ → ℕ
parity_bit f x = parity_in f.parity (data_bits f.size) x
