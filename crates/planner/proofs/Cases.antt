-- The request's two examples and two of its borders, as closed cases, and answers beside them that are refused.
use mathlib.Core.Path.{◌≡◌, refl}
use native.Mathlib.Omega.{arith}
use lib.Dec.{lit≤}
use lib.IntN.{ℤ, pos, negsuc}
use Prim.Native.Nat.{ℕ}
use Rattle.std.proofs.Common.{Result, Ok}
use Rattle.answer.specs.declared.Refusal.{Refusal}
use Rattle.planner.specs.Setting.{Best, Chosen}
use Rattle.planner.specs.Figure.{Nearest}
use Rattle.planner.specs.Planning.{planned_of}
use Rattle.planner.specs.declared.outcome.Plan.{Plan}

abbrev plan : ℕ → ℤ → Result Plan Refusal
plan ubrr tenths = Ok (record { ubrr = ubrr; tenths = tenths })

-- 16 MHz, 115,200, normal: UBRR 8, −35
normal : planned_of 16000000 115200 0 ≡ plan 8 (negsuc 34)
unfolding planned_of
normal = refl

not-7 : Best 16000000 16 115200 7 → ⊥
not-7 b = omega (arith, b.least 8 (lit≤ tt))

-- double: 16, 21
double : planned_of 16000000 115200 1 ≡ plan 16 (pos 21)
unfolding planned_of
double = refl

-- 64 Hz, rate 3, normal: UBRR 0 and 1 tie, with errors of 1/3 and −1/3
tie : planned_of 64 3 0 ≡ plan 1 (negsuc 332)
unfolding planned_of
tie = refl

both-best : Best 64 16 3 0 × Best 64 16 3 1
both-best = (record { fits = lit≤ tt; least = λ v h. omega arith }, record { fits = lit≤ tt; least = λ v h. omega arith })

not-smaller : Chosen 64 16 3 0 → ⊥
not-smaller c = omega (arith, c.largest 1 both-best.1)

-- clock/T = 0.9995: the ratio in tenths of a percent would round to 1,000, but the error is rounded
half-below : planned_of 15992 1000 0 ≡ plan 0 (negsuc 0)
unfolding planned_of
half-below = refl

not-zero : Nearest 15992 16000 (pos 0) → ⊥
not-zero n = omega (arith, n.away (negsuc 0) (lit≤ tt))
