-- The decimal text of a number: ASCII digits, the first of them not 0 but in 0 itself (document 02, M-100: 'decimals
-- without leading zeros').
use Rattle.std.specs.Prelude.{ℕ, zero, suc, ◌+◌, ◌/◌, ◌%◌, Bool, false, List, [], ◌∷◌, ◌++◌, leb, ltb}
use Rattle.choice.specs.Pick.{pick}

-- '0' to '9'
abbrev pub is_digit : ℕ → Bool
is_digit b = pick (leb 48 b) (leb b 57) false

-- at most as many digits
unfoldable pub digits_from : ℕ → ℕ → List ℕ
digits_from zero n = []
digits_from (suc most) n =
    let more : List ℕ = digits_from most (n / 10) ++ ((48 + n % 10) ∷ []) in
    pick (ltb n 10) ((48 + n) ∷ []) more

-- a number has at most one digit more than its value
unfoldable pub digits_of : ℕ → List ℕ
digits_of n = digits_from (suc n) n
