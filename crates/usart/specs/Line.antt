-- The line of demand 3 (document 01, 'The line of demand 3'). D is data bits plus parity bit, the sender's bit is P/Q
-- clocks long.
use Rattle.std.specs.Prelude.{ℕ, suc, ◌+◌, ◌-◌, ◌*◌, ◌/◌, ◌^◌, ◌≤◌, ◌<◌, Bool, true, false, List, [], ◌∷◌, ◌≡◌, leb, ltb}
use Rattle.choice.specs.Pick.{pick}
use Rattle.frame.specs.Format.{data_bits, word_bits}
use Rattle.frame.specs.Word.{word_of, frame_bit}
use Rattle.frame.specs.declared.format.Format.{Format}

-- a frame on the line: the whole clock n at which it starts, and its data bits
pub record Sent : Type 0 where
  pub start : ℕ
  pub «data» : ℕ

-- from its start up to its first stop bit, with which it counts as ended
abbrev pub covers : ℕ → ℕ → ℕ → Sent → ℕ → Bool
covers D P Q s j = pick (leb s.start j) (ltb ((j - s.start) * Q) ((D + 2) * P)) false

-- at clock n+t a frame shows bit floor(t·Q/P); the line is high before, between and after
unfoldable pub line_level : Format → ℕ → ℕ → List Sent → ℕ → Bool
line_level f P Q [] j = true
line_level f P Q (s ∷ ss) j =
    pick (covers (word_bits f) P Q s j)
    (frame_bit (word_bits f) (word_of f s.«data») ((j - s.start) * Q / P))
    (line_level f P Q ss j)

-- each frame's data has the format's bits and no more
abbrev pub Fits : Format → List Sent → Type 0
Fits f [] = Unit {0}
Fits f (s ∷ ss) = (s.«data» < 2 ^ data_bits f.size) × Fits f ss

-- the next start n' has (n' − n)·Q ≥ (D + 2)·P
abbrev pub Follows : ℕ → ℕ → ℕ → Sent → List Sent → Type 0
Follows D P Q s [] = Unit {0}
Follows D P Q s (t ∷ ts) = (D + 2) * P ≤ (t.start - s.start) * Q

abbrev pub Spaced : ℕ → ℕ → ℕ → List Sent → Type 0
Spaced D P Q [] = Unit {0}
Spaced D P Q (s ∷ ss) = Follows D P Q s ss × Spaced D P Q ss

-- the first J clocks run at least until the last frame's first stop bit has ended
abbrev pub EndedBy : ℕ → ℕ → ℕ → ℕ → List Sent → Type 0
EndedBy D P Q J [] = Unit {0}
EndedBy D P Q J (s ∷ []) = s.start * Q + (D + 2) * P ≤ J * Q
EndedBy D P Q J (s ∷ t ∷ ts) = EndedBy D P Q J (t ∷ ts)

-- levels, the first of them at clock j, are those of w
abbrev pub Shows : (ℕ → Bool) → ℕ → List Bool → Type 0
Shows w j [] = Unit {0}
Shows w j (l ∷ ls) = (l ≡ w j) × Shows w (suc j) ls
