-- The recommended limits of the rate error (document 01, 'The line of demand 3').
use Rattle.std.specs.Prelude.{ℕ, ◌-◌, ◌*◌, ◌≤◌, Bool, true, false, List, [], ◌∷◌, get_or}

-- in thousandths, for D from 5 to 10: S = 16, and with U2X S = 8
abbrev pub rate_limits : Bool → List ℕ
rate_limits false = 30 ∷ 25 ∷ 20 ∷ 20 ∷ 15 ∷ 15 ∷ []
rate_limits true = 25 ∷ 20 ∷ 15 ∷ 15 ∷ 15 ∷ 10 ∷ []

abbrev pub limit : Bool → ℕ → ℕ
limit u2x D = get_or (rate_limits u2x) (D - 5) 0

-- within limit r: |N − P|·1000 ≤ r·P. One of the two differences is 0
abbrev pub Within : ℕ → ℕ → ℕ → Type 0
Within r N P = ((N - P) * 1000 ≤ r * P) × ((P - N) * 1000 ≤ r * P)
