-- Steps of one kind in a row, of which some are taken at once.
use Rattle.std.specs.Prelude.{ℕ, ◌≤◌, ◌≡◌, eqb, Option, None, Some, ⊤}
use Rattle.choice.specs.Pick.{pick}
use Rattle.choice.specs.Times.{times}
use Rattle.advance.specs.declared.Passed.{Passed}

-- k of n steps have been taken from x, at least one, and lead to y
pub record PassedOn {A : Type 0} (step : A → A) (x : A) (n k : ℕ) (y : A) : Type 0 where
  pub some : 1 ≤ k
  pub few : k ≤ n
  pub steps : y ≡ times step k x

-- those that only count, if any do
abbrev pub CountedOn : {A : Type 0} → (A → A) → A → ℕ → Option (Passed A ℕ) → Type 0
CountedOn step x n None = ⊤
CountedOn step x n (Some p) = PassedOn step x n p.steps p.state

-- k steps that lead to y, taken at once; nothing where they are none
abbrev pub taken : {A : Type 0} → A → ℕ → Option (Passed A ℕ)
taken y k = pick (eqb k 0) None (Some (record { state = y; steps = k }))
