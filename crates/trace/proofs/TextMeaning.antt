-- A text holds one list of items at most, and is malformed at one line or holds a list, never both.
use Prim.Native.Nat.{ℕ, suc, ◌+◌, ◌<◌}
use mathlib.Core.Path.{◌≡◌, refl, ap, sym, ◌∙◌}
use mathlib.Core.List.{List, [], ◌∷◌, ◌++◌, append_assoc}
use native.Mathlib.Omega.{arith}
use lib.ListN.{length, drop}
use Rattle.trace.specs.Text.{InRange, AllInRange, line_of, lines_of, first_line}
use Rattle.trace.specs.Meaning.{NoLine, IsText, MalformedAt, first, later}
use Rattle.trace.specs.declared.item.Item.{Item}
use Rattle.trace.proofs.LineMeaning.{same_found}
use Rattle.trace.proofs.LineFound.{line-found}

-- two lines that begin the same list are of the same item
pub same_line : (i j : Item) (s t : List ℕ) → InRange i → InRange j → line_of i ++ s ≡ line_of j ++ t → (i ≡ j) × (s ≡ t)
same_line i j s t p q e =
    let text : List ℕ = line_of i ++ s in
    let f = line-found text 0 s i p refl in
    let g = line-found text 0 t j q e in
    let h = same_found (sym f.1 ∙ g.1) in
    (h.0, sym f.2 ∙ ap (λ (k : ℕ). drop k text) h.1 ∙ g.2)

lines-inj : (is js : List Item) → AllInRange is → AllInRange js → lines_of is ≡ lines_of js → is ≡ js
lines-inj [] [] p q e = refl
lines-inj [] (j ∷ js) p q e = absurd (let n : ◌≡◌ {A = ℕ} 0 (length (lines_of (j ∷ js))) = ap length e in omega arith)
lines-inj (i ∷ is) [] p q e = absurd (let n : ◌≡◌ {A = ℕ} (length (lines_of (i ∷ is))) 0 = ap length e in omega arith)
lines-inj (i ∷ is) (j ∷ js) p q e =
    let h = same_line i j (lines_of is) (lines_of js) p.0 q.0 e in
    rw (h.0, lines-inj is js p.1 q.1 h.1)

past_first : (s t : List ℕ) → first_line ++ s ≡ first_line ++ t → s ≡ t
past_first s t e = ap (λ (x : List ℕ). drop 8 x) e

pub text-inj : (text : List ℕ) (is js : List Item) → IsText text is → IsText text js → is ≡ js
text-inj text is js p q = lines-inj is js p.range q.range (past_first (lines_of is) (lines_of js) (sym p.shown ∙ q.shown))

-- where the items before a malformed line end, the lines of any other list end too, or go on with a line
lines-not : (is js : List Item) (rest : List ℕ) → AllInRange is → AllInRange js → NoLine rest → 0 < length rest → lines_of is ++ rest ≡ lines_of js → ⊥
lines-not [] [] rest p q n l e = omega (arith, ap length e)
lines-not [] (j ∷ js) rest p q n l e = n j (lines_of js) q.0 e
lines-not (i ∷ is) [] rest p q n l e = let k : ◌≡◌ {A = ℕ} (length (lines_of (i ∷ is) ++ rest)) 0 = ap length e in omega arith
lines-not (i ∷ is) (j ∷ js) rest p q n l e =
    let h = same_line i j (lines_of is ++ rest) (lines_of js) p.0 q.0 (sym (append_assoc (line_of i) (lines_of is) rest) ∙ e) in
    lines-not is js rest p.1 q.1 n l h.1

lines-where : (is js : List Item) (rest more : List ℕ) → AllInRange is → AllInRange js → NoLine rest → NoLine more → lines_of is ++ rest ≡ lines_of js ++ more → length is ≡ length js
lines-where [] [] rest more p q n m e = refl
lines-where [] (j ∷ js) rest more p q n m e = absurd (n j (lines_of js ++ more) q.0 (e ∙ append_assoc (line_of j) (lines_of js) more))
lines-where (i ∷ is) [] rest more p q n m e = absurd (m i (lines_of is ++ rest) p.0 (sym e ∙ append_assoc (line_of i) (lines_of is) rest))
lines-where (i ∷ is) (j ∷ js) rest more p q n m e =
    let h = same_line i j (lines_of is ++ rest) (lines_of js ++ more) p.0 q.0 (sym (append_assoc (line_of i) (lines_of is) rest) ∙ e ∙ append_assoc (line_of j) (lines_of js) more) in
    ap suc (lines-where is js rest more p.1 q.1 n m h.1)

-- a text with a malformed line holds no list
pub not-both : (text : List ℕ) (line : ℕ) (js : List Item) → MalformedAt text line → IsText text js → ⊥
not-both text line js (first n) w = n (lines_of js) w.shown
not-both text line js (later is rest p e l n) w = lines-not is js rest p w.range n l (past_first (lines_of is ++ rest) (lines_of js) (sym e ∙ w.shown))

-- one line at most is the first malformed one
pub one_line : (text : List ℕ) (k l : ℕ) → MalformedAt text k → MalformedAt text l → k ≡ l
one_line text k l (first n) (first m) = refl
one_line text k l (first n) (later js more q f g m) = absurd (n (lines_of js ++ more) f)
one_line text k l (later is rest p e h n) (first m) = absurd (m (lines_of is ++ rest) e)
one_line text k l (later is rest p e h n) (later js more q f g m) = ap (λ (x : ℕ). 2 + x) (lines-where is js rest more p q n m (past_first (lines_of is ++ rest) (lines_of js ++ more) (sym e ∙ f)))
