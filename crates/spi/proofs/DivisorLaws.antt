-- The rule of the divisor table, computed once over it: each divisor is twice a half of 1 to 64 clocks, and SPI2X
-- doubles the rate.
use Prim.Native.Nat.{ℕ, zero, suc, ◌+◌, ◌*◌, ◌/◌, ◌%◌, ◌≤◌, ◌<◌}
use mathlib.Core.Bool.{Bool, true, false}
use mathlib.Core.List.{List, [], ◌∷◌}
use mathlib.Core.Path.{◌≡◌, refl}
use native.Mathlib.Omega.{arith}
use lib.Dec.{eqb, leb}
use lib.ListN.{get_or, length}
use borrow.Author.Tests.{eqb-true, leb-true}
use Rattle.choice.specs.Pick.{pick}
use Rattle.choice.proofs.Picks.{both}
use Rattle.spi.specs.Divisor.{divisors, half_of}

abbrev is_halved : ℕ → Bool
is_halved d = pick (eqb d (2 * (d / 2))) (pick (leb 1 (d / 2)) (leb (d / 2) 64) false) false

abbrev are_halved : List ℕ → Bool
are_halved [] = true
are_halved (d ∷ ds) = pick (is_halved d) (are_halved ds) false

halved-at : (ds : List ℕ) (i : ℕ) → are_halved ds ≡ true → i < length ds → is_halved (get_or ds i 0) ≡ true
halved-at [] i e h = absurd (omega arith)
halved-at (d ∷ ds) zero e h = (both (is_halved d) (are_halved ds) e).0
halved-at (d ∷ ds) (suc i) e h = halved-at ds i (both (is_halved d) (are_halved ds) e).1 (omega arith)

pub record HalfOf (n : ℕ) : Type 0 where
  pub twice : get_or divisors (n % 8) 0 ≡ 2 * half_of n
  pub low : 1 ≤ half_of n
  pub high : half_of n ≤ 64

pub half-of : (n : ℕ) → HalfOf n
half-of n =
    let d : ℕ = get_or divisors (n % 8) 0 in
    let h = both (eqb d (2 * (d / 2))) (pick (leb 1 (d / 2)) (leb (d / 2) 64) false) (halved-at divisors (n % 8) refl (omega arith)) in
    let g = both (leb 1 (d / 2)) (leb (d / 2) 64) h.1 in
    record { twice = eqb-true d (2 * (d / 2)) h.0; low = leb-true 1 (d / 2) g.0; high = leb-true (d / 2) 64 g.1 }

-- the same with SPI2X is half as long
pub doubled : (n : ℕ) → n < 4 → get_or divisors n 0 ≡ 2 * get_or divisors (4 + n) 0
doubled zero h = refl
doubled (suc zero) h = refl
doubled (suc (suc zero)) h = refl
doubled (suc (suc (suc zero))) h = refl
doubled (suc (suc (suc (suc n)))) h = absurd (omega arith)
