-- Laws of the word on the line: what was put into it comes out again, and its parity bit is right.
use Prim.Native.Nat.{ℕ, zero, suc, ◌+◌, ◌-◌, ◌*◌, ◌/◌, ◌%◌, ◌^◌, ◌≤◌, ◌<◌}
use mathlib.Core.Bool.{Bool, true, false, not}
use mathlib.Core.Path.{◌≡◌, refl, sym, ap, ap₂, ◌∙◌}
use native.Mathlib.Nat.{mod-lt, add-zero, mul-le-mul_right, div-eq_of_lt, div-add-mod'}
use native.Mathlib.Omega.{arith}
use lib.Dec.{eqb}
use lib.Pow.{pow_pos, pow-add, high, low}
use borrow.Author.Tests.{le-leb, lt-leb, eq-eqb, ne_eqb, eqb-true, not-false}
use Rattle.choice.specs.Pick.{pick}
use Rattle.choice.proofs.Picks.{pick_ind}
use Rattle.frame.specs.Format.{data_bits, parity_bits, word_bits}
use Rattle.frame.specs.Parity.{parity_in, parity_bit}
use Rattle.frame.specs.Word.{data_of, word_of, frame_bit, parity_error}
use Rattle.frame.specs.declared.format.Parity.{Parity}
use Rattle.frame.specs.declared.format.Parity.TheVariants.{Off, Even, Odd}
use Rattle.frame.specs.declared.format.Format.{Format}
use Rattle.frame.proofs.ParityLaws.{parity-masked, parity-in-le}

-- bit 0 is the start bit, bits 1 to D the word's, all others high
pub start-bit : (D x : ℕ) → frame_bit D x 0 ≡ false
unfolding frame_bit
start-bit D x = refl

pub word-bit : (D x k : ℕ) → k < D → frame_bit D x (suc k) ≡ eqb (x / 2 ^ k % 2) 1
unfolding frame_bit
word-bit D x k h =
    let e : suc k - 1 ≡ k = omega arith in
    rw (le-leb (suc k) D (omega arith), ne_eqb (suc k) 0 (λ q. omega arith), e)

pub stop-bit : (D x b : ℕ) → D < b → frame_bit D x b ≡ true
unfolding frame_bit
stop-bit D x zero h = absurd (omega arith)
stop-bit D x (suc k) h = rw (lt-leb (suc k) D h, ne_eqb (suc k) 0 (λ q. omega arith))

module _ (f : Format) (x : ℕ) where
  -- the word with the parity bit written out
  as_high : word_of f x ≡ parity_bit f x * 2 ^ data_bits f.size + x % 2 ^ data_bits f.size
  as_high = omega arith

  in-range : x % 2 ^ data_bits f.size < 2 ^ data_bits f.size
  in-range = mod-lt x (pow_pos (data_bits f.size))

  pub data-word : data_of f (word_of f x) ≡ data_of f x
  data-word = ap (λ (n : ℕ). n % 2 ^ data_bits f.size) as_high ∙ low (parity_bit f x) (data_bits f.size) in-range

  pub parity-word : word_of f x / 2 ^ data_bits f.size ≡ parity_bit f x
  parity-word = ap (λ (n : ℕ). n / 2 ^ data_bits f.size) as_high ∙ high (parity_bit f x) (data_bits f.size) in-range

-- the parity bit of a word's data is the word's own
pub parity-same : (f : Format) (x : ℕ) → parity_bit f (word_of f x) ≡ parity_bit f x
parity-same f x =
    sym (parity-masked f.parity (data_bits f.size) (word_of f x)) ∙ ap (parity_bit f) (data-word f x)
    ∙ parity-masked f.parity (data_bits f.size) x

-- a word is the word of its data
pub word-again : (f : Format) (x : ℕ) → word_of f (word_of f x) ≡ word_of f x
word-again f x = ap₂ (λ (a b : ℕ). a + b * 2 ^ data_bits f.size) (data-word f x) (parity-same f x)

pub parity-right : (f : Format) (x : ℕ) → parity_error f (word_of f x) ≡ false
unfolding parity_error
parity-right f x =
    pick_ind (λ (t : Bool). t ≡ false) (eqb (parity_bits f.parity) 0) _ _ (λ _. refl)
    (λ _. ap not (eq-eqb (word_of f x / 2 ^ data_bits f.size) (parity_bit f (word_of f x)) (parity-word f x ∙ sym (parity-same f x))))

-- a word has D bits
pub word_lt : (f : Format) (x : ℕ) → word_of f x < 2 ^ word_bits f
word_lt f x = by f.parity
  where
    one : {b : ℕ} → b ≤ 1 → x % 2 ^ data_bits f.size + b * 2 ^ data_bits f.size < 2 ^ (data_bits f.size + 1)
    one {b} h = rw (pow-add 2 (data_bits f.size) 1) (omega (arith, in-range f x, mul-le-mul_right (2 ^ data_bits f.size) h))

    by : (p : Parity) → x % 2 ^ data_bits f.size + parity_in p (data_bits f.size) x * 2 ^ data_bits f.size < 2 ^ (data_bits f.size + parity_bits p)
    by Off = rw (add-zero (data_bits f.size)) (omega (arith, in-range f x))
    by Even = one (parity-in-le Even (data_bits f.size) x)
    by Odd = one (parity-in-le Odd (data_bits f.size) x)

-- a number is the word of its data exactly where it has D bits and its parity bit is right
pub frame-lt : (f : Format) (x : ℕ) → word_of f x ≡ x → x < 2 ^ word_bits f
frame-lt f x e = rw e at (word_lt f x)

pub frame-parity : (f : Format) (x : ℕ) → word_of f x ≡ x → parity_error f x ≡ false
frame-parity f x e = rw e at (parity-right f x)

pub frame-word : (f : Format) (x : ℕ) → x < 2 ^ word_bits f → parity_error f x ≡ false → word_of f x ≡ x
unfolding parity_error
frame-word f x l e =
    let n : ℕ = data_bits f.size in
    let q : x / 2 ^ n * 2 ^ n ≡ parity_bit f x * 2 ^ n = ap (λ (k : ℕ). k * 2 ^ n) (by f.parity l e) in
    omega (arith, div-add-mod' x (2 ^ n))
  where
    right : {a b : ℕ} → not (eqb a b) ≡ false → a ≡ b
    right {a} {b} h = eqb-true a b (not-false (eqb a b) h)

    by : (p : Parity) → x < 2 ^ (data_bits f.size + parity_bits p)
        → pick (eqb (parity_bits p) 0) false (not (eqb (x / 2 ^ data_bits f.size) (parity_in p (data_bits f.size) x))) ≡ false
        → x / 2 ^ data_bits f.size ≡ parity_in p (data_bits f.size) x
    by Off l h = div-eq_of_lt (rw (add-zero (data_bits f.size)) at l)
    by Even l h = right h
    by Odd l h = right h
