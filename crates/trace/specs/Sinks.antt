-- A means, no rule: what is said of a place that a text goes to, whatever it keeps. `fits` says that it has room for so
-- many bytes more, `taken` that bytes take it from the one to the other.
use Rattle.std.specs.Prelude.{ℕ, ◌+◌, ◌≡◌, List, [], ◌++◌, Result, Ok, Err, length}
use Rattle.answer.specs.declared.Refusal.{Refusal}
use Rattle.answer.specs.declared.Refusal.TheVariants.{Room}

-- all of the bytes are taken, or they have no room
abbrev pub Sent : {S U : Type 0} → (S → ℕ → Type 0) → (S → List ℕ → S → Type 0) → S → List ℕ → Result U Refusal → S → Type 0
Sent fits taken old bytes (Ok done) new = taken old bytes new
Sent fits taken old bytes (Err r) new = (fits old (length bytes) → ⊥) × (r ≡ Room)

pub record SinkLaws {S : Type 0} (fits : S → ℕ → Type 0) (taken : S → List ℕ → S → Type 0) : Type 0 where
  -- fewer bytes have room too
  pub fewer : (a : S) (m n : ℕ) → fits a (m + n) → fits a m
  -- room for some and more is room for more, once they are taken
  pub left : (a b : S) (x : List ℕ) (n : ℕ) → taken a x b → fits a (length x + n) → fits b n
  pub nothing : (a : S) → taken a [] a
  pub joined : (a b c : S) (x y : List ℕ) → taken a x b → taken b y c → taken a (x ++ y) c
