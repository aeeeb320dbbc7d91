-- What `search` is handed to close a return whose clause picks by tests: `picks`.
-- A goal `r ≡ pick t a b` follows from the test's value, which is a branch's fact, and `r ≡ a` or `r ≡ b`, which is
-- what a callee ensures, or `refl`. The lemmas that end in `-of` are for a test on what a call returned: `n` is the
-- result, `n ≡ b` what it ensures.
use Prim.Native.Nat.{ℕ, ◌<◌, ◌≤◌}
use mathlib.Core.Bool.{Bool, true, false, true≢false}
use mathlib.Core.Path.{◌≡◌, refl, sym, ap, subst, ◌∙◌}
use lib.Dec.{ltb, leb}
use borrow.Author.Tests.{not-true, not-false, eq-eqb, ne_eqb, lt-ltb, le-ltb, le-leb, lt-leb}
use Rattle.choice.specs.Pick.{pick}

pub pick_true : {A : Type 0} (t : Bool) (a b r : A) → t ≡ true → r ≡ a → r ≡ pick t a b
pick_true t a b r h q = q ∙ ap (λ (x : Bool). pick x a b) (sym h)

pub pick-false : {A : Type 0} (t : Bool) (a b r : A) → t ≡ false → r ≡ b → r ≡ pick t a b
pick-false t a b r h q = q ∙ ap (λ (x : Bool). pick x a b) (sym h)

pub lt-ltb-of : (a n b : ℕ) → n ≡ b → a < n → ltb a b ≡ true
lt-ltb-of a n b e h = lt-ltb a b (subst (λ (x : ℕ). a < x) e h)

pub le-ltb-of : (a n b : ℕ) → n ≡ b → n ≤ a → ltb a b ≡ false
le-ltb-of a n b e h = le-ltb a b (subst (λ (x : ℕ). x ≤ a) e h)

pub le-leb-of : (a n b : ℕ) → n ≡ b → a ≤ n → leb a b ≡ true
le-leb-of a n b e h = le-leb a b (subst (λ (x : ℕ). a ≤ x) e h)

pub lt-leb-of : (a n b : ℕ) → n ≡ b → n < a → leb a b ≡ false
lt-leb-of a n b e h = lt-leb a b (subst (λ (x : ℕ). x < a) e h)

pub flag-of : (t u v : Bool) → t ≡ u → t ≡ v → u ≡ v
flag-of t u v e h = sym e ∙ h

-- what holds of both choices, each under its test, holds of the pick
pub pick_ind : {A : Type 0} (P : A → Type 0) (t : Bool) (a b : A) → (t ≡ true → P a) → (t ≡ false → P b) → P (pick t a b)
pick_ind P true a b f g = f refl
pick_ind P false a b f g = g refl

-- the same where the property speaks of the test too
pub pick-split : {A : Type 0} (P : Bool → A → Type 0) (t : Bool) (a b : A) → (t ≡ true → P true a) → (t ≡ false → P false b) → P t (pick t a b)
pick-split P true a b f g = f refl
pick-split P false a b f g = g refl

-- the test itself
pub pick-self : (t : Bool) → pick t true false ≡ t
pick-self true = refl
pick-self false = refl

-- a case of a test's two values, with the value at hand
pub split : {P : Type 0} (b : Bool) → (b ≡ true → P) → (b ≡ false → P) → P
split true f g = f refl
split false f g = g refl

-- no test has both values
pub clash : {P : Type 0} {b : Bool} → b ≡ true → b ≡ false → P
clash t f = absurd (true≢false (sym t ∙ f))

-- both tests of a pair hold
pub both : (a b : Bool) → pick a b false ≡ true → (a ≡ true) × (b ≡ true)
both true b h = (refl, h)
both false b h = clash h refl

pub ruleset picks =
    (not-true, not-false, flag-of, le-leb-of, lt-leb-of, pick_true, pick-false, lt-ltb-of, le-ltb-of, eq-eqb, ne_eqb, lt-ltb, le-ltb, le-leb, lt-leb)
