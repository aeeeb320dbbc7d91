-- What a text holds, one line after the other.
use Prim.Native.Nat.{ℕ, ◌+◌, ◌<◌, ◌≤◌}
use mathlib.Core.Path.{◌≡◌, refl, ap, sym, ◌∙◌}
use mathlib.Core.Bool.{true, false}
use mathlib.Core.List.{List, [], ◌∷◌, ◌++◌}
use native.Mathlib.Omega.{arith}
use lib.Dec.{eqb}
use lib.ListN.{length, drop}
use borrow.Author.Tests.{eq-eqb, ne_eqb, eqb-true, eqb-false}
use Rattle.std.specs.Prelude.{Option, Some, None, Result, Ok, Err}
use Rattle.std.specs.List.{position, position_from, starts_with as slice_starts}
use Rattle.std.specs.Result.{is_err}
use Rattle.std.proofs.lemmas.Iterator.Adapters.{position_from-zero}
use Rattle.choice.proofs.Picks.{split, clash}
use Rattle.trace.specs.Text.{first_line}
use Rattle.trace.specs.Line.{found, malformed, no_line, line_at}
use Rattle.trace.specs.Lines.{lines_from}
use Rattle.trace.specs.Contents.{Contents, Check, passed, malformed_at, ended, items_in, check_in, contents_at, starts_with, contents_of}
use Rattle.trace.specs.declared.item.Item.{Item}
use Rattle.trace.specs.declared.line.NoItem.{NoItem}
use Rattle.trace.proofs.LineFound.{line-end}
use Rattle.trace.proofs.LinesLaws.{lines-found, lines-malformed, lines-over}

-- ---- what lines hold, one line after the other
-- one item before the others
abbrev pub with_item : Item → Contents → Contents
with_item i r = record { items = i ∷ r.items; check = r.check }

abbrev contents_in : ℕ → List (Result Item NoItem) → Contents
contents_in line lines = record { items = items_in lines; check = check_in line lines }

pub contents-found : (text : List ℕ) (at line : ℕ) (i : Item) (next : ℕ) → line_at text at ≡ found i next
    → contents_at text at line ≡ with_item i (contents_at text next (line + 1))
unfolding items_in check_in
contents-found text at line i next e = ap (contents_in line) (lines-found text at i next e)

pub contents-malformed : (text : List ℕ) (at line : ℕ) → line_at text at ≡ malformed → contents_at text at line ≡ ended (malformed_at line)
unfolding items_in check_in
contents-malformed text at line e = ap (contents_in line) (lines-malformed text at e)

pub contents-over : (text : List ℕ) (at line : ℕ) → length text ≤ at → contents_at text at line ≡ ended passed
unfolding items_in check_in
contents-over text at line h = ap (contents_in line) (lines-over text at h)

pub contents-end : (text : List ℕ) (at line : ℕ) → line_at text at ≡ no_line → contents_at text at line ≡ ended passed
contents-end text at line e = contents-over text at line (line-end text at e)

-- the first line
pub starts : (head text : List ℕ) → starts_with head text ≡ true → text ≡ head ++ drop (length head) text
unfolding starts_with
starts [] text h = refl
starts (x ∷ head) [] h = clash h refl
starts (x ∷ head) (y ∷ text) h =
    split (eqb y x)
    (λ e. let s = starts head text (rw e at h) in rw (eqb-true y x e) (ap (λ (t : List ℕ). x ∷ t) s))
    (λ e. clash (rw e at h) refl)

pub starts_by : (head s : List ℕ) → starts_with head (head ++ s) ≡ true
unfolding starts_with
starts_by [] s = refl
starts_by (x ∷ head) s = rw (eq-eqb x x refl) (starts_by head s)

pub not-starts : (head text : List ℕ) → starts_with head text ≡ false → (s : List ℕ) → text ≡ head ++ s → ⊥
not-starts head text h s e = clash (ap (starts_with head) e ∙ starts_by head s) h

-- std's test is the same
pub begins-same : (head text : List ℕ) → slice_starts eqb text head ≡ starts_with head text
unfolding starts_with
begins-same [] text = refl
begins-same (x ∷ head) [] = refl
begins-same (x ∷ head) (y ∷ text) =
    split (eqb y x)
    (λ e. rw (e, eq-eqb x y (sym (eqb-true y x e))) (begins-same head text))
    (λ e. rw (e, ne_eqb x y (λ q. eqb-false y x e (sym q))))

-- a text that is well-formed holds what stands behind its first line
pub well-contents : (text : List ℕ) → (contents_of text).check ≡ passed → contents_of text ≡ contents_at text 8 2
well-contents text w =
    split (starts_with first_line text)
    (λ h. rw h)
    (λ h. let m : (ended (malformed_at 1)).check ≡ passed = rw h at w in absurd (let z : ◌≡◌ {A = ℕ} 0 1 = cc in omega arith))

-- the check of lines, by how many items stand before the first malformed one
abbrev pub counted : ℕ → Option ℕ → Check
counted line None = passed
counted line (Some n) = malformed_at (n + line)

check_from : (line n : ℕ) (lines : List (Result Item NoItem)) → check_in (n + line) lines ≡ counted line (position_from is_err n lines)
unfolding check_in
check_from line n [] = refl
check_from line n (Ok i ∷ rest) =
    let s : n + line + 1 ≡ n + 1 + line = omega arith in ap (λ (k : ℕ). check_in k rest) s ∙ check_from line (n + 1) rest
check_from line n (Err e ∷ rest) = refl

-- so many are fewer than all
fewer-from : (k n : ℕ) (lines : List (Result Item NoItem)) → Some n ≡ position_from is_err k lines → n < k + length lines
fewer-from k n [] e = absurd (let z : ◌≡◌ {A = ℕ} 0 1 = cc in omega arith)
fewer-from k n (Ok i ∷ rest) e = omega (arith, fewer-from (k + 1) n rest e)
fewer-from k n (Err x ∷ rest) e = let z : n ≡ k = cc in omega (arith, z)

pub fewer : (n : ℕ) (lines : List (Result Item NoItem)) → Some n ≡ position is_err lines → n < length lines
fewer n lines e = omega (arith, fewer-from 0 n lines (e ∙ position_from-zero is_err lines))

pub checked : (line : ℕ) (lines : List (Result Item NoItem)) → check_in line lines ≡ counted line (position is_err lines)
checked line lines =
    let s : line ≡ 0 + line = omega arith in
    ap (λ (k : ℕ). check_in k lines) s ∙ check_from line 0 lines ∙ ap (counted line) (sym (position_from-zero is_err lines))

pub behind_first : (text : List ℕ) → starts_with first_line text ≡ true → check_in 2 (lines_from text 8) ≡ (contents_of text).check
behind_first text h = rw h
