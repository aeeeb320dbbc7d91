-- A step taken many times.
use Rattle.std.specs.Prelude.{ℕ, zero, suc}

-- n steps from x
unfoldable pub times : {A : Type 0} → (A → A) → ℕ → A → A
times step zero x = x
times step (suc n) x = times step n (step x)
