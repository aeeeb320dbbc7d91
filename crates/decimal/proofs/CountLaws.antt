-- How many digits a number has, and a sum: what a text's length comes to.
use Prim.Native.Nat.{ℕ, zero, suc, ◌+◌, ◌*◌, ◌-◌, ◌/◌, ◌^◌, ◌<◌, ◌≤◌}
use mathlib.Core.Path.{◌≡◌, refl, ap, ◌∙◌}
use mathlib.Core.List.{[], ◌∷◌}
use native.Mathlib.Omega.{arith}
use native.Mathlib.Nat.{pow-succ', pow-le-pow_right}
use lib.Dec.{leb, lit<}
use lib.ListN.{length, length-append}
use borrow.Author.Tests.{leb-true, leb-false}
use Rattle.choice.proofs.Picks.{split}
use Rattle.decimal.specs.Digits.{digits_of}
use Rattle.decimal.proofs.DigitLaws.{digits-one, digits_more, digits_last, digits-ind}

abbrev pub count : ℕ → ℕ
count n = length (digits_of n)

pub count-one : (n : ℕ) → n < 10 → count n ≡ 1
count-one n h = ap length (digits-one n h)

pub count-last : (n : ℕ) → 10 ≤ n → count n ≡ count (n / 10) + 1
count-last n h = ap length (digits_last n h) ∙ length-append (digits_of (n / 10)) _

pub count-more : (v d : ℕ) → 0 < v → d < 10 → count (10 * v + d) ≡ suc (count v)
count-more v d p h = omega (arith, ap length (digits_more v d p h), length-append (digits_of v) ((48 + d) ∷ []))

pub count-some : (n : ℕ) → 1 ≤ count n
count-some = digits-ind (λ n. 1 ≤ count n) (λ d h. omega (arith, count-one d h)) (λ v d p h so_far. omega (arith, count-more v d p h))

-- a number is below the power of ten of its count
below_power : (n : ℕ) → n < 10 ^ count n
below_power = digits-ind (λ n. n < 10 ^ count n)
    (λ d h. rw (count-one d h) h)
    (λ v d p h so_far. rw (count-more v d p h, pow-succ' 10 (count v)) (omega arith))

-- and has at most so many digits as the power has zeros
count-le : (n j : ℕ) → n < 10 ^ suc j → count n ≤ suc j
count-le = digits-ind (λ n. (j : ℕ) → n < 10 ^ suc j → count n ≤ suc j)
    (λ d h j l. omega (arith, count-one d h))
    (λ v d p h so_far. more v d p h so_far)
  where
    more : (v d : ℕ) → 0 < v → d < 10 → ((j : ℕ) → v < 10 ^ suc j → count v ≤ suc j) → (j : ℕ) → 10 * v + d < 10 ^ suc j → count (10 * v + d) ≤ suc j
    more v d p h so_far zero l = absurd (omega (arith, pow-succ' 10 0))
    more v d p h so_far (suc j) l = omega (arith, count-more v d p h, so_far j (omega (arith, pow-succ' 10 (suc j))))

count-mono : (a b : ℕ) → a ≤ b → count a ≤ count b
count-mono a b h = go (count b) refl
  where
    go : (k : ℕ) → count b ≡ k → count a ≤ count b
    go zero e = absurd (omega (arith, count-some b))
    go (suc k) e = rw e (count-le a k (let l = rw e at (below_power b) in omega arith))

-- a sum has one digit more than the longer part, at most
half : (a b : ℕ) → count a ≤ count b → count (a + b) ≤ suc (count b)
half a b h =
    count-le (a + b) (count b)
    (rw (pow-succ' 10 (count b)) (omega (arith, below_power a, below_power b, pow-le-pow_right {n = 10} (lit< tt) h)))

pub count-sum : (a b : ℕ) → count (a + b) ≤ count a + count b
count-sum a b =
    split (leb (count a) (count b))
    (λ e. omega (arith, half a b (leb-true (count a) (count b) e), count-some a))
    (λ e. let s : a + b ≡ b + a = omega arith in
    let h = half b a (omega (arith, leb-false (count a) (count b) e)) in rw s (omega (arith, h, count-some b)))

-- a number of 32 bits has ten digits at most
pub count_most : (n : ℕ) → n ≤ 4294967295 → count n ≤ 10
count_most n h = let t : 4294967295 < 10 ^ 10 = lit< tt in count-le n 9 (omega arith)

-- ten digits
count-ten : (n : ℕ) → 1000000000 ≤ n → 10 ≤ count n
count-ten n h =
    split (leb 10 (count n)) (λ e. leb-true 10 (count n) e) (λ e.
    absurd (omega (arith, below_power n, pow-le-pow_right {n = 10} (lit< tt) {i = count n} {j = 9} (omega (arith, leb-false 10 (count n) e)))))

-- past the largest number, the largest and the rest have no more digits than any two parts
pub count_past : (a b : ℕ) → a ≤ 4294967295 → b ≤ 4294967295 → 4294967295 < a + b → count 4294967295 + count (a + b - 4294967295) ≤ count a + count b
count_past a b la lb h =
    let ten : count 4294967295 ≤ 10 = count-le 4294967295 9 (lit< tt) in
    split (leb a b)
    (λ e. omega (arith, ten, count-ten b (omega (arith, leb-true a b e)), count-mono (a + b - 4294967295) a (omega arith)))
    (λ e. omega (arith, ten, count-ten a (omega (arith, leb-false a b e)), count-mono (a + b - 4294967295) b (omega arith)))
