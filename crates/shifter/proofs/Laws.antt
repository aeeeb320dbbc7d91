-- Laws of the shift register: as bits in the order in which they leave, it is a queue of eight.
use Prim.Native.Nat.{ℕ, ◌+◌, ◌*◌, ◌/◌, ◌%◌, ◌<◌}
use mathlib.Core.Bool.{Bool, true, false}
use mathlib.Core.List.{List, [], ◌∷◌, ◌++◌}
use mathlib.Core.Path.{◌≡◌, refl, sym, ap, ◌∙◌}
use native.Mathlib.Nat.{div-one, div-eq_of_lt, div-div-eq-div-mul}
use native.Mathlib.Omega.{arith}
use lib.Dec.{eqb}
use lib.ListN.{get_or}
use Rattle.choice.specs.Pick.{digit}
use Rattle.choice.specs.Bit.{is_set}
use Rattle.choice.proofs.Digits.{digit-le, digit-is, digit-odd}
use Rattle.shifter.specs.Order.{out_bit, shifted_in, bits_of}

-- the bits of a list but the first
abbrev pub rest : List Bool → List Bool
rest [] = []
rest (b ∷ bs) = bs

-- a bit of one number is a bit of another, or b
moved : (y x w v : ℕ) → y / w % 2 ≡ x / v % 2 → is_set y w ≡ is_set x v
moved y x w v e = ap (λ (n : ℕ). eqb n 1) e

entered : (y w : ℕ) (b : Bool) → y / w % 2 ≡ digit b → is_set y w ≡ b
entered y w b e = ap (λ (n : ℕ). eqb n 1) e ∙ digit-is b

-- the bit that leaves is the first
pub out_first : (dord : Bool) (x : ℕ) → bits_of dord x ≡ out_bit dord x ∷ rest (bits_of dord x)
unfolding bits_of out_bit
out_first true x = refl
out_first false x = refl

-- lists of eight are equal by their elements
eight : {a b c d e f g h a' b' c' d' e' f' g' h' : Bool} → a ≡ a' → b ≡ b' → c ≡ c' → d ≡ d' → e ≡ e' → f ≡ f' → g ≡ g' → h ≡ h'
    → ◌≡◌ {A = List Bool} (a ∷ b ∷ c ∷ d ∷ e ∷ f ∷ g ∷ h ∷ []) (a' ∷ b' ∷ c' ∷ d' ∷ e' ∷ f' ∷ g' ∷ h' ∷ [])
eight p q r s t u v w = rw (p, q, r, s, t, u, v, w)

-- at a sampling edge the first bit leaves and the sampled one enters last
pub shifted-last : (dord : Bool) (x : ℕ) (b : Bool) → x < 256 → bits_of dord (shifted_in dord x b) ≡ rest (bits_of dord x) ++ (b ∷ [])
unfolding bits_of shifted_in
shifted-last true x b h =
    let d = digit-le b in
    let y : ℕ = x / 2 + digit b * 128 in
    eight (moved y x 1 2 (omega arith)) (moved y x 2 4 (omega arith)) (moved y x 4 8 (omega arith)) (moved y x 8 16 (omega arith))
    (moved y x 16 32 (omega arith)) (moved y x 32 64 (omega arith)) (moved y x 64 128 (omega arith)) (entered y 128 b (omega arith))
shifted-last false x b h =
    let d = digit-le b in
    let y : ℕ = x % 128 * 2 + digit b in
    eight (moved y x 128 64 (omega arith)) (moved y x 64 32 (omega arith)) (moved y x 32 16 (omega arith)) (moved y x 16 8 (omega arith))
    (moved y x 8 4 (omega arith)) (moved y x 4 2 (omega arith)) (moved y x 2 1 (omega arith)) (entered y 1 b (omega arith))

-- the register stays a byte
pub shifted-lt : (dord : Bool) (x : ℕ) (b : Bool) → x < 256 → shifted_in dord x b < 256
unfolding shifted_in
shifted-lt true x b h = let d = digit-le b in omega arith
shifted-lt false x b h = let d = digit-le b in omega arith

-- a byte is known by its bits: the bit at place n of a list
abbrev nth : ℕ → List Bool → Bool
nth n bs = get_or bs n false

-- two numbers are the same if their halves and their last bits are
halves : (x y w : ℕ) → x / (w * 2) ≡ y / (w * 2) → is_set x w ≡ is_set y w → x / w ≡ y / w
halves x y w h e =
    by (x / w) (y / w) (div-div-eq-div-mul x w 2 ∙ h ∙ sym (div-div-eq-div-mul y w 2))
    (sym (digit-odd (x / w)) ∙ ap digit e ∙ digit-odd (y / w))
  where
    by : (a b : ℕ) → a / 2 ≡ b / 2 → a % 2 ≡ b % 2 → a ≡ b
    by a b p q = omega arith

same_byte : (x y : ℕ) → x < 256 → y < 256 → is_set x 1 ≡ is_set y 1 → is_set x 2 ≡ is_set y 2 → is_set x 4 ≡ is_set y 4 → is_set x 8 ≡ is_set y 8
    → is_set x 16 ≡ is_set y 16 → is_set x 32 ≡ is_set y 32 → is_set x 64 ≡ is_set y 64 → is_set x 128 ≡ is_set y 128 → x ≡ y
same_byte x y hx hy a b c d e f g h =
    let top : x / 256 ≡ y / 256 = div-eq_of_lt hx ∙ sym (div-eq_of_lt hy) in
    sym (div-one x)
    ∙ halves x y 1 (halves x y 2 (halves x y 4 (halves x y 8 (halves x y 16 (halves x y 32 (halves x y 64 (halves x y 128 top h) g) f) e) d) c) b) a
    ∙ div-one y

pub bits-injective : (dord : Bool) (x y : ℕ) → x < 256 → y < 256 → bits_of dord x ≡ bits_of dord y → x ≡ y
unfolding bits_of
bits-injective true x y hx hy e =
    same_byte x y hx hy (ap (nth 0) e) (ap (nth 1) e) (ap (nth 2) e) (ap (nth 3) e) (ap (nth 4) e) (ap (nth 5) e) (ap (nth 6) e) (ap (nth 7) e)
bits-injective false x y hx hy e =
    same_byte x y hx hy (ap (nth 7) e) (ap (nth 6) e) (ap (nth 5) e) (ap (nth 4) e) (ap (nth 3) e) (ap (nth 2) e) (ap (nth 1) e) (ap (nth 0) e)
