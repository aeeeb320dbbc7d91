-- The ranges of a format's counts.
use Prim.Native.Nat.{ℕ, ◌+◌, ◌-◌, ◌*◌, ◌/◌, ◌^◌, ◌≤◌}
use mathlib.Core.Bool.{Bool, true, false}
use mathlib.Core.Path.{◌≡◌, refl, ap}
use lib.Dec.{lit≤}
use Rattle.choice.specs.Pick.{pick}
use Rattle.choice.proofs.Picks.{pick_ind}
use Rattle.frame.specs.Format.{samples, data_bits, parity_bits, stop_bits, word_bits, first_vote}
use Rattle.frame.specs.declared.format.Size.{Size}
use Rattle.frame.specs.declared.format.Size.TheVariants.{Five, Six, Seven, Eight, Nine}
use Rattle.frame.specs.declared.format.Parity.{Parity}
use Rattle.frame.specs.declared.format.Parity.TheVariants.{Off, Even, Odd}
use Rattle.frame.specs.declared.format.Format.{Format}
use native.Mathlib.Omega.{arith}

pub data-bits-range : (z : Size) → (5 ≤ data_bits z) × (data_bits z ≤ 9)
data-bits-range Five = (lit≤ tt, lit≤ tt)
data-bits-range Six = (lit≤ tt, lit≤ tt)
data-bits-range Seven = (lit≤ tt, lit≤ tt)
data-bits-range Eight = (lit≤ tt, lit≤ tt)
data-bits-range Nine = (lit≤ tt, lit≤ tt)

pub parity-bits-le : (p : Parity) → parity_bits p ≤ 1
parity-bits-le Off = lit≤ tt
parity-bits-le Even = lit≤ tt
parity-bits-le Odd = lit≤ tt

-- D is 5 to 10
pub word-bits-range : (f : Format) → (5 ≤ word_bits f) × (word_bits f ≤ 10)
word-bits-range f = omega (arith, data-bits-range f.size, parity-bits-le f.parity)

pub stop-bits-range : (f : Format) → (1 ≤ stop_bits f) × (stop_bits f ≤ 2)
stop-bits-range f =
    pick_ind (λ (n : ℕ). (1 ≤ n) × (n ≤ 2)) f.usbs 2 1 (λ _. (lit≤ tt, lit≤ tt)) (λ _. (lit≤ tt, lit≤ tt))

-- S is twice the number of the first voting sample, at either speed
pub samples-half : (f : Format) → samples f ≡ 2 * first_vote f
samples-half f = both f.u2x
  where
    both : (t : Bool) → pick t 8 16 ≡ 2 * pick t 4 8
    both true = refl
    both false = refl

pub first-vote-range : (f : Format) → (4 ≤ first_vote f) × (first_vote f ≤ 8)
first-vote-range f =
    pick_ind (λ (n : ℕ). (4 ≤ n) × (n ≤ 8)) f.u2x 4 8 (λ _. (lit≤ tt, lit≤ tt)) (λ _. (lit≤ tt, lit≤ tt))

pub samples-range : (f : Format) → (8 ≤ samples f) × (samples f ≤ 16)
samples-range f = omega (arith, samples-half f, first-vote-range f)

-- the weight of the word's highest bit, by the data bits' weight
pub top-off : (z : Size) → 2 ^ data_bits z / 2 ≡ 2 ^ (data_bits z + 0 - 1)
top-off Five = refl
top-off Six = refl
top-off Seven = refl
top-off Eight = refl
top-off Nine = refl

pub top-on : (z : Size) → 2 ^ data_bits z ≡ 2 ^ (data_bits z + 1 - 1)
top-on z = ap (λ (n : ℕ). 2 ^ n) (omega arith)
