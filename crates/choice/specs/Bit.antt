-- The bits of a number: bit k counted from 0, or the bit of weight 2^k.
use Rattle.std.specs.Prelude.{ℕ, ◌/◌, ◌%◌, ◌^◌, Bool, eqb}

-- bit k
abbrev pub bit_at : ℕ → ℕ → ℕ
bit_at n k = n / 2 ^ k % 2

-- the bit of this weight is set
abbrev pub is_set : ℕ → ℕ → Bool
is_set n weight = eqb (n / weight % 2) 1
