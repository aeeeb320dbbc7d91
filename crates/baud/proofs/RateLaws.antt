-- The rate that is shown is the nearest.
use Prim.Native.Nat.{ℕ, ◌+◌, ◌*◌, ◌≤◌}
use native.Mathlib.Nat.{mul-div-le, lt-mul-div-succ, le-div_iff_mul-le}
use native.Mathlib.Omega.{arith}
use Rattle.baud.specs.Rate.{Nearest, thousandths}

pub nearest : (clock d : ℕ) → 1 ≤ d → Nearest clock d (thousandths clock d)
nearest clock d h =
    record {
      within =
          let l = mul-div-le (2000 * clock + d) (2 * d) in
          let g = lt-mul-div-succ (2000 * clock + d) {b = 2 * d} (omega arith) in
          omega arith;
      upwards = λ other w. (le-div_iff_mul-le {k = 2 * d} (omega arith)).1 (omega arith);
    }
