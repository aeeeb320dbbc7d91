-- The decision of three samples.
use Prim.Native.Nat.{ℕ, zero, suc, ◌≤◌}
use mathlib.Core.Bool.{Bool, true, false, beq, not}
use mathlib.Core.Path.{◌≡◌, refl}
use native.Mathlib.Omega.{arith}
use lib.Dec.{eqb}
use Rattle.choice.specs.Pick.{pick}
use Rattle.frame.specs.Vote.{vote_of}

-- where the first two agree they decide, else the third does
pub vote-picks : (a b c : Bool)
    → pick (beq a b) (record { level = a; unanimous = beq a c }) (record { level = c; unanimous = false }) ≡ vote_of a b c
vote-picks true true true = refl
vote-picks true true false = refl
vote-picks true false true = refl
vote-picks true false false = refl
vote-picks false true true = refl
vote-picks false true false = refl
vote-picks false false true = refl
vote-picks false false false = refl

-- of three votes on the level l at most one, vote v, is turned over: the majority is right, and unanimous where none is
pub vote-hit : (l a b c : Bool) (v : ℕ) → v ≤ 3 → a ≡ pick (eqb v 1) (not l) l → b ≡ pick (eqb v 2) (not l) l → c ≡ pick (eqb v 3) (not l) l
    → vote_of a b c ≡ record { level = l; unanimous = eqb v 0 }
vote-hit true a b c zero h ea eb ec = rw (ea, eb, ec)
vote-hit false a b c zero h ea eb ec = rw (ea, eb, ec)
vote-hit true a b c (suc zero) h ea eb ec = rw (ea, eb, ec)
vote-hit false a b c (suc zero) h ea eb ec = rw (ea, eb, ec)
vote-hit true a b c (suc (suc zero)) h ea eb ec = rw (ea, eb, ec)
vote-hit false a b c (suc (suc zero)) h ea eb ec = rw (ea, eb, ec)
vote-hit true a b c (suc (suc (suc zero))) h ea eb ec = rw (ea, eb, ec)
vote-hit false a b c (suc (suc (suc zero))) h ea eb ec = rw (ea, eb, ec)
vote-hit l a b c (suc (suc (suc (suc v)))) h ea eb ec = absurd (omega arith)
