-- Laws of the line: the level at the clocks that matter.
use mathlib.Core.Path.{◌≡◌, refl, ◌∙◌, sym, ap}
use mathlib.Core.Bool.{true}
use mathlib.Core.List.{List, [], ◌∷◌}
use Prim.Native.Nat.{ℕ, ◌+◌, ◌-◌, ◌*◌, ◌/◌, ◌≤◌, ◌<◌}
use native.Mathlib.Nat.{le-div_iff_mul-le, lt_of_mul-lt-mul_right}
use native.Mathlib.Decide.{dec_lt}
use native.Mathlib.Omega.{arith}
use borrow.Author.Tests.{lt-ltb, le-ltb, le-leb, lt-leb}
use Rattle.frame.specs.Format.{word_bits}
use Rattle.frame.specs.Word.{word_of, frame_bit}
use Rattle.frame.specs.declared.format.Format.{Format}
use Rattle.frame.proofs.WordLaws.{stop-bit}
use Rattle.usart.specs.Line.{Sent, line_level, Follows, Spaced}

-- frames that start at lo or later, lo being in clocks times Q, and each when the one before has ended
abbrev pub From : ℕ → ℕ → ℕ → ℕ → List Sent → Type 0
From D P Q lo [] = Unit {0}
From D P Q lo (s ∷ ss) = (lo ≤ s.start * Q) × From D P Q (s.start * Q + (D + 2) * P) ss

module _ (D P Q : ℕ) (p1 : 1 ≤ P) where
  follows-from : (s : Sent) (ss : List Sent) → Follows D P Q s ss → Spaced D P Q ss → From D P Q (s.start * Q + (D + 2) * P) ss
  follows-from s [] h sp = tt
  follows-from s (t ∷ ts) h sp = (apart, follows-from t ts sp.0 sp.1)
    where
      apart : s.start * Q + (D + 2) * P ≤ t.start * Q
      apart = elim (dec_lt t.start s.start) [
        | yes b ↦ absurd (let z : (t.start - s.start) * Q ≡ 0 * Q = ap (λ (n : ℕ). n * Q) (omega arith) in omega arith)
        | no b ↦ let z : t.start * Q ≡ (s.start + (t.start - s.start)) * Q = ap (λ (n : ℕ). n * Q) (omega arith) in omega arith
      ]

  -- the spacing of document 01, from clock 0
  pub spaced-from : (ss : List Sent) → Spaced D P Q ss → From D P Q 0 ss
  spaced-from [] sp = tt
  spaced-from (s ∷ ss) sp = (omega arith, follows-from s ss sp.0 sp.1)

  -- and back
  from-follows : (s : Sent) (ss : List Sent) → From D P Q (s.start * Q + (D + 2) * P) ss → Follows D P Q s ss × Spaced D P Q ss
  from-follows s [] fr = (tt, tt)
  from-follows s (t ∷ ts) fr =
      let a : s.start < t.start = lt_of_mul-lt-mul_right Q (omega (arith, fr.0)) in
      let z : t.start * Q ≡ (s.start + (t.start - s.start)) * Q = ap (λ (n : ℕ). n * Q) (omega arith) in
      (omega (arith, fr.0), from-follows t ts fr.1)

  pub from-spaced : (lo : ℕ) (ss : List Sent) → From D P Q lo ss → Spaced D P Q ss
  from-spaced lo [] fr = tt
  from-spaced lo (s ∷ ss) fr = from-follows s ss fr.1

pub later : (D P Q lo lo' : ℕ) (ss : List Sent) → lo ≤ lo' → From D P Q lo' ss → From D P Q lo ss
later D P Q lo lo' [] h fr = tt
later D P Q lo lo' (s ∷ ss) h fr = (omega (arith, fr.0), fr.1)

module _ (f : Format) (P Q : ℕ) where
  abbrev D : ℕ
  D = word_bits f

  -- a clock before a frame's start, or after its end, shows what the other frames do
  pub before : (s : Sent) (ss : List Sent) (j : ℕ) → j < s.start → line_level f P Q (s ∷ ss) j ≡ line_level f P Q ss j
  unfolding line_level
  before s ss j h = rw (lt-leb s.start j h)

  pub over : (s : Sent) (ss : List Sent) (j : ℕ) → s.start ≤ j → (D + 2) * P ≤ (j - s.start) * Q → line_level f P Q (s ∷ ss) j ≡ line_level f P Q ss j
  unfolding line_level
  over s ss j h l = rw (le-leb s.start j h, le-ltb ((j - s.start) * Q) ((D + 2) * P) l)

  -- within a frame the line shows its bit
  pub within : (s : Sent) (ss : List Sent) (j : ℕ) → s.start ≤ j → (j - s.start) * Q < (D + 2) * P
      → line_level f P Q (s ∷ ss) j ≡ frame_bit D (word_of f s.«data») ((j - s.start) * Q / P)
  unfolding line_level
  within s ss j h l = rw (le-leb s.start j h, lt-ltb ((j - s.start) * Q) ((D + 2) * P) l)

  -- high before the first start
  pub quiet : (lo : ℕ) (ss : List Sent) (j : ℕ) → From D P Q lo ss → j * Q < lo → line_level f P Q ss j ≡ true
  unfolding line_level
  quiet lo [] j fr h = refl
  quiet lo (s ∷ ss) j fr h =
      let a : j < s.start = lt_of_mul-lt-mul_right Q (omega (arith, fr.0)) in
      before s ss j a ∙ quiet (s.start * Q + (D + 2) * P) ss j fr.1 (omega (arith, fr.0))

  -- from a frame's stop bit on it is not seen
  pub past : (s : Sent) (ss : List Sent) (j : ℕ) → 1 ≤ P → From D P Q (s.start * Q + (D + 2) * P) ss → s.start ≤ j
      → (D + 1) * P ≤ (j - s.start) * Q → line_level f P Q (s ∷ ss) j ≡ line_level f P Q ss j
  past s ss j p1 fr h l = elim (dec_lt ((j - s.start) * Q) ((D + 2) * P)) [
    | yes b ↦
        let z : j * Q ≡ (s.start + (j - s.start)) * Q = ap (λ (n : ℕ). n * Q) (omega arith) in
        within s ss j h b ∙ stop-bit D (word_of f s.«data») ((j - s.start) * Q / P) (omega (arith, (le-div_iff_mul-le p1).1 l))
        ∙ sym (quiet (s.start * Q + (D + 2) * P) ss j fr (omega arith))
    | no b ↦ over s ss j h (omega arith)
  ]
