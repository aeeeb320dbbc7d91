-- A means, no rule: the best UBRR by comparing neighbours alone. That it comes to `Best` and `Chosen` is proved in
-- proofs/PlanningLaws.antt.
use Rattle.std.specs.Prelude.{ℕ, ◌+◌, ◌-◌, ◌*◌, ◌/◌, Bool, true, false, eqb, leb}
use Rattle.choice.specs.Pick.{pick}

-- of the divisors m and m + 1, T being k times the divisor, the larger has no larger absolute error than the smaller:
-- the sum of clock/km − 1 and clock/k(m + 1) − 1 is not below 0
abbrev pub is_larger_no_worse : ℕ → ℕ → ℕ → Bool
is_larger_no_worse clock k m = leb (2 * (k * (m * (m + 1)))) (clock * (m + (m + 1)))

-- .. and the smaller has none than the larger: that sum is not above 0
abbrev pub is_smaller_no_worse : ℕ → ℕ → ℕ → Bool
is_smaller_no_worse clock k m = leb (clock * (m + (m + 1))) (2 * (k * (m * (m + 1))))

-- a UBRR is best if neither neighbour betters it; 4,095 has none above it
abbrev pub is_best_by : ℕ → ℕ → ℕ → Bool
is_best_by clock k ubrr =
    pick (leb ubrr 4095) (pick (is_larger_no_worse clock k ubrr) (pick (eqb ubrr 4095) true (is_smaller_no_worse clock k (ubrr + 1))) false) false

-- the divisor is the whole part q of clock/k, or one more where that is no worse; UBRR is one less
abbrev pub ubrr_by : ℕ → ℕ → ℕ → ℕ
ubrr_by clock k q = pick (leb 4096 q) 4095 (pick (is_larger_no_worse clock k q) q (q - 1))

abbrev pub is_best_at : ℕ → ℕ → ℕ → ℕ → Bool
is_best_at clock S rate ubrr = is_best_by clock (S * rate) ubrr

abbrev pub ubrr_at : ℕ → ℕ → ℕ → ℕ
ubrr_at clock S rate = ubrr_by clock (S * rate) (clock / (S * rate))
