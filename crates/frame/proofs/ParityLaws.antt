-- Laws of the parity bit.
use Prim.Native.Nat.{ℕ, zero, suc, ◌+◌, ◌-◌, ◌/◌, ◌%◌, ◌^◌, ◌≤◌, ◌<◌}
use mathlib.Core.Path.{◌≡◌, refl, sym, ap, ap₂, ◌∙◌}
use native.Mathlib.Nat.{le_trans, le_of_eq, mod-lt, pow-suc}
use native.Mathlib.Numerals.{add-one}
use native.Mathlib.Omega.{arith}
use lib.Arith.{lt-one}
use lib.Count.{ones, ones_in, ones_step}
use lib.Dec.{lit≤}
use lib.Pow.{mod-mod-pow, field, pow_pos}
use Rattle.frame.specs.Format.{data_bits}
use Rattle.frame.specs.Parity.{sum_of_bits, parity_in, parity_bit}
use Rattle.frame.specs.declared.format.Parity.{Parity}
use Rattle.frame.specs.declared.format.Parity.TheVariants.{Off, Even, Odd}
use Rattle.frame.specs.declared.format.Format.{Format}

-- a number below 2 ^ n has as many ones as its n bits come to
ones-sum : (n x : ℕ) → x < 2 ^ n → ones x ≡ sum_of_bits n x
unfolding ones sum_of_bits
ones-sum zero x h = rw (lt-one h)
ones-sum (suc n) x h =
    ones_step x ∙ ap (λ (m : ℕ). x % 2 + m) (ones-sum n (x / 2) (omega (arith, pow-suc 2 n)))

-- M-102: the lowest bit of the count of ones of a number below 2 ^ n is the sum of its n bits modulo 2
pub ones-parity : (n x : ℕ) → x < 2 ^ n → ones x % 2 ≡ sum_of_bits n x % 2
ones-parity n x h = ap (λ (s : ℕ). s % 2) (ones-sum n x h)

-- bits that are cut off add nothing
sum-masked : (n x : ℕ) → sum_of_bits n (x % 2 ^ n) ≡ sum_of_bits n x
unfolding sum_of_bits
sum-masked zero x = refl
sum-masked (suc n) x =
    let low : x % 2 ^ suc n % 2 ≡ x % 2 = rw (← add-one n) (mod-mod-pow x n 1) in
    let rest : x % 2 ^ suc n / 2 ≡ x / 2 % 2 ^ n = rw (← add-one n) (field x n 1) in
    ap₂ (λ (a b : ℕ). a + b) low (ap (sum_of_bits n) rest ∙ sum-masked n (x / 2))

-- .. and of a number with its other bits cut off
pub ones-masked : (n x d : ℕ) → d ≡ x % 2 ^ n → ones d % 2 ≡ sum_of_bits n x % 2
ones-masked n x d e =
    ones-parity n d (le_trans (le_of_eq (ap suc e)) (mod-lt x (pow_pos n))) ∙ ap (λ (m : ℕ). sum_of_bits n m % 2) e
    ∙ ap (λ (s : ℕ). s % 2) (sum-masked n x)

-- The data bits and no others. Of 256, which is TXB8 with all else clear, eight data bits have parity 0, nine have 1:
-- to count all of its ones is wrong for eight, and to count those of its low byte, 0, is wrong for nine.
pub ninth-bit : (sum_of_bits 8 256 % 2 ≡ 0) × (sum_of_bits 9 256 % 2 ≡ 1) × (ones 256 % 2 ≡ 1) × (ones (256 % 256) % 2 ≡ 0)
unfolding ones ones_in sum_of_bits
ninth-bit = (refl, refl, refl, refl)

-- the parity bit of data is that of the data with its other bits cut off
pub parity-masked : (p : Parity) (n x : ℕ) → parity_in p n (x % 2 ^ n) ≡ parity_in p n x
parity-masked Off n x = refl
parity-masked Even n x = ap (λ (s : ℕ). s % 2) (sum-masked n x)
parity-masked Odd n x = ap (λ (s : ℕ). 1 - s % 2) (sum-masked n x)

pub parity-in-le : (p : Parity) (n x : ℕ) → parity_in p n x ≤ 1
parity-in-le Off n x = lit≤ tt
parity-in-le Even n x = omega arith
parity-in-le Odd n x = omega arith

-- what the code's count gives, by the parity that is set
module _ (f : Format) (x e : ℕ) (he : e ≡ sum_of_bits (data_bits f.size) x % 2) where
  pub parity-even : f.parity ≡ Even → e ≡ parity_bit f x
  parity-even p = he ∙ sym (ap (λ (q : Parity). parity_in q (data_bits f.size) x) p)

  pub parity-odd : f.parity ≡ Odd → 1 - e ≡ parity_bit f x
  parity-odd p = ap (λ (s : ℕ). 1 - s) he ∙ sym (ap (λ (q : Parity). parity_in q (data_bits f.size) x) p)
