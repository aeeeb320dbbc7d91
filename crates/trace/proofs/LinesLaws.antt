-- The lines of a text, one after the other.
use Prim.Native.Nat.{ℕ, zero, suc, ◌+◌, ◌-◌, ◌<◌, ◌≤◌}
use mathlib.Core.Path.{◌≡◌, refl, ap, sym, ◌∙◌}
use mathlib.Core.List.{List, [], ◌∷◌}
use native.Mathlib.Omega.{arith}
use lib.ListN.{length}
use Rattle.std.specs.Prelude.{Option, Some, None, Result, Ok, Err}
use Rattle.trace.specs.Line.{found, malformed, no_line, line_at}
use Rattle.trace.specs.Lines.{with_line, lines_by, lines_from}
use Rattle.trace.specs.declared.item.Item.{Item}
use Rattle.trace.specs.declared.line.Line.{Line}
use Rattle.trace.specs.declared.line.NoItem.{NoItem}
use Rattle.trace.proofs.LineMeaning.{line-is}
use Rattle.trace.proofs.LineFound.{line-left, line-end}

-- a line ends behind its start, and within the text
pub line_after : (text : List ℕ) (at : ℕ) (i : Item) (next : ℕ) → line_at text at ≡ found i next → (at < next) × (next ≤ length text)
line_after text at i next e = let l = line-is text at i next e in (l.after, l.within)

-- no line begins past the end
nothing-past : (text : List ℕ) (at : ℕ) (l : Option (Result Line NoItem)) (rest : ℕ → List (Result Item NoItem)) → length text ≤ at → line_at text at ≡ l
    → with_line l rest ≡ []
nothing-past text at (Some (Ok l)) rest h e = absurd (omega (arith, line_after text at l.item l.next e))
nothing-past text at (Some (Err bad)) rest h e = absurd (omega (arith, line-left text at e))
nothing-past text at None rest h e = refl

-- any number of lines that is large enough will do
enough : (m n : ℕ) (text : List ℕ) (at : ℕ) → length text ≤ at + m → length text ≤ at + n → lines_by m text at ≡ lines_by n text at
unfolding lines_by
enough zero zero text at p q = refl
enough zero (suc n) text at p q = sym (nothing-past text at (line_at text at) (lines_by n text) (omega arith) refl)
enough (suc m) zero text at p q = nothing-past text at (line_at text at) (lines_by m text) (omega arith) refl
enough (suc m) (suc n) text at p q =
    by (line_at text at) (λ i next e. let h = line_after text at i next e in enough m n text next (omega arith) (omega arith)) refl
  where
    by : (l : Option (Result Line NoItem)) → ((i : Item) (next : ℕ) → line_at text at ≡ found i next → lines_by m text next ≡ lines_by n text next)
        → line_at text at ≡ l → with_line l (lines_by m text) ≡ with_line l (lines_by n text)
    by (Some (Ok l)) same e = ap (λ (rest : List (Result Item NoItem)). Ok l.item ∷ rest) (same l.item l.next e)
    by (Some (Err bad)) same e = refl
    by None same e = refl

-- every line has a byte
most-by : (n : ℕ) (text : List ℕ) (at : ℕ) → length (lines_by n text at) ≤ n
unfolding lines_by
most-by zero text at = omega arith
most-by (suc n) text at = by (line_at text at) (λ next. most-by n text next)
  where
    by : (l : Option (Result Line NoItem)) → ((next : ℕ) → length (lines_by n text next) ≤ n) → length (with_line l (lines_by n text)) ≤ suc n
    by (Some (Ok l)) most = omega (arith, most l.next)
    by (Some (Err bad)) most = omega arith
    by None most = omega arith

pub lines-most : (text : List ℕ) (at : ℕ) → length (lines_from text at) ≤ length text - at
unfolding lines_from
lines-most text at = most-by (length text - at) text at

pub lines-found : (text : List ℕ) (at : ℕ) (i : Item) (next : ℕ) → line_at text at ≡ found i next → lines_from text at ≡ Ok i ∷ lines_from text next
unfolding lines_from lines_by
lines-found text at i next e =
    let h = line_after text at i next e in
    let n : ℕ = length text - at - 1 in
    let s : length text - at ≡ suc n = omega arith in
    ap (λ (k : ℕ). lines_by k text at) s
    ∙ ap (λ (l : Option (Result Line NoItem)). with_line l (lines_by n text)) e
    ∙ ap (λ (rest : List (Result Item NoItem)). Ok i ∷ rest) (enough n (length text - next) text next (omega arith) (omega arith))

pub lines-malformed : (text : List ℕ) (at : ℕ) → line_at text at ≡ malformed → lines_from text at ≡ Err (record {}) ∷ []
unfolding lines_from lines_by
lines-malformed text at e =
    let h = line-left text at e in
    let n : ℕ = length text - at - 1 in
    let s : length text - at ≡ suc n = omega arith in
    ap (λ (k : ℕ). lines_by k text at) s ∙ ap (λ (l : Option (Result Line NoItem)). with_line l (lines_by n text)) e

pub lines-over : (text : List ℕ) (at : ℕ) → length text ≤ at → lines_from text at ≡ []
unfolding lines_from lines_by
lines-over text at h = let z : length text - at ≡ 0 = omega arith in ap (λ (k : ℕ). lines_by k text at) z

pub lines-end : (text : List ℕ) (at : ℕ) → line_at text at ≡ no_line → lines_from text at ≡ []
lines-end text at e = lines-over text at (line-end text at e)
