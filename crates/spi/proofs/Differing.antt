-- Whether two levels differ.
use mathlib.Core.Bool.{Bool, true, false, not, beq}
use mathlib.Core.Path.{◌≡◌, refl}
use Rattle.choice.proofs.Picks.{clash}
use Rattle.spi.specs.Means.{differs}

-- as the code tests it
pub differs_ne : (a b : Bool) → differs a b ≡ not (beq a b)
unfolding differs
differs_ne true true = refl
differs_ne true false = refl
differs_ne false true = refl
differs_ne false false = refl

-- two levels that do not differ
pub same-level : (a b : Bool) → differs a b ≡ false → b ≡ a
unfolding differs
same-level true true h = refl
same-level false false h = refl
same-level true false h = clash refl h
same-level false true h = clash refl h
