-- No list with the same clocks and calls has a shorter text.
use Prim.Native.Nat.{ℕ, zero, suc, ◌+◌, ◌*◌, ◌-◌, ◌/◌, ◌%◌, ◌<◌, ◌≤◌}
use mathlib.Core.Path.{◌≡◌, refl, ap, ◌∙◌}
use mathlib.Core.Bool.{false}
use mathlib.Core.List.{List, [], ◌∷◌, ◌++◌}
use native.Mathlib.Omega.{arith}
use native.Mathlib.Nat.{suc-mul}
use lib.Dec.{eqb, ltb}
use lib.ListN.{length, replicate, length-append}
use borrow.Author.Tests.{eqb-true, ltb-true, ltb-false}
use Rattle.choice.proofs.Picks.{split, pick_ind}
use Rattle.decimal.proofs.CountLaws.{count, count-sum, count_past}
use Rattle.trace.specs.Text.{InRange, AllInRange, line_of, lines_of, text_of, first_line}
use Rattle.trace.specs.declared.item.Item.{Item}
use Rattle.trace.specs.declared.item.Item.TheVariants.{Write, Read, Vector, Clocks}
use Rattle.trace.specs.Shrinking.{most, before, merged_of, rest_of, parts_of, cut_of, shrunk_of}
use Rattle.trace.specs.Promises.{Same}
use Rattle.trace.proofs.PutLaws.{pair-length}
use Rattle.trace.proofs.ShrinkLaws.{shrunk-alike}

-- the bytes of a line, and of the lines of a list
cost : Item → ℕ
cost i = length (line_of i)

size : List Item → ℕ
size [] = 0
size (i ∷ is) = cost i + size is

size-lines : (is : List Item) → length (lines_of is) ≡ size is
unfolding size cost
size-lines [] = refl
size-lines (i ∷ is) = omega (arith, length-append (line_of i) (lines_of is), size-lines is)

size-append : (is js : List Item) → size (is ++ js) ≡ size is + size js
unfolding size
size-append [] js = omega arith
size-append (i ∷ is) js = omega (arith, size-append is js)

size-copies : (i : Item) (q : ℕ) → size (replicate q i) ≡ q * cost i
unfolding size
size-copies i zero = omega arith
size-copies i (suc q) = omega (arith, size-copies i q, suc-mul q (cost i))

-- a line of clocks: what it costs besides the count
unit : ℕ → ℕ → ℕ
unit l c = 4 + count l + count c

cost-clocks : (l c : ℕ) → cost (Clocks l c) ≡ unit l c
unfolding cost unit
cost-clocks l c = pair-length 67 l c

positive : (r : ℕ) → eqb r 0 ≡ false → 1 ≤ r
positive zero e = absurd (let z : ◌≡◌ {A = ℕ} 0 1 = cc in omega arith)
positive (suc r) e = omega arith

-- the last item of a run
tail : ℕ → ℕ → ℕ
tail l r = size (rest_of l r)

tail-some : (l r : ℕ) → 1 ≤ r → tail l r ≡ unit l r
unfolding tail size
tail-some l zero h = absurd (omega arith)
tail-some l (suc r) h = omega (arith, cost-clocks l (suc r))

tail_none : (l r : ℕ) → r ≡ 0 → tail l r ≡ 0
unfolding tail size
tail_none l r e = rw e

-- `c` more clocks before a rest `r`: the rest stays below the largest count ..
tail-below : (l c r : ℕ) → 1 ≤ c → tail l (c + r) ≤ unit l c + tail l r
unfolding unit
tail-below l c r h =
    split (eqb r 0)
    (λ e. let z : r ≡ 0 = eqb-true r 0 e in let s : c + r ≡ c = omega arith in omega (arith, tail-some l (c + r) (omega arith), ap count s))
    (λ e. let p : 1 ≤ r = positive r e in omega (arith, tail-some l (c + r) (omega arith), tail-some l r p, count-sum c r))

-- .. or fills one item
tail-full : (l c r : ℕ) → c ≤ most → r < most → most ≤ c + r → unit l most + tail l (c + r - most) ≤ unit l c + tail l r
unfolding unit
tail-full l c r hc hr h =
    split (ltb most (c + r))
    (λ e. let p : most < c + r = ltb-true most (c + r) e in
    omega (arith, tail-some l (c + r - most) (omega arith), tail-some l r (omega arith), count_past c r hc (omega arith) p))
    (λ e. let q : c + r ≡ most = omega (arith, ltb-false most (c + r) e) in
    split (eqb r 0)
    (λ z. let y : r ≡ 0 = eqb-true r 0 z in let x : c ≡ most = omega arith in omega (arith, tail_none l (c + r - most) (omega arith), ap count x))
    (λ z. omega (arith, tail_none l (c + r - most) (omega arith), tail-some l r (positive r z), count-sum c r, ap count q)))

parts-size : (l n : ℕ) → size (parts_of most l n) ≡ n / most * unit l most + tail l (n % most)
unfolding parts_of tail
parts-size l n =
    size-append (replicate (n / most) (Clocks l most)) (rest_of l (n % most))
    ∙ ap (λ (k : ℕ). k + size (rest_of l (n % most))) (size-copies (Clocks l most) (n / most) ∙ ap (λ (u : ℕ). n / most * u) (cost-clocks l most))

-- a line of clocks before a run costs at least what the longer run costs more
parts_more : (l c d : ℕ) → 1 ≤ c → c ≤ most → size (parts_of most l (c + d)) ≤ unit l c + size (parts_of most l d)
parts_more l c d h t =
    split (ltb (c + d % most) most)
    (λ e. let p : c + d % most < most = ltb-true (c + d % most) most e in
    let q : (c + d) / most ≡ d / most = omega arith in
    let r : (c + d) % most ≡ c + d % most = omega arith in
    rw (parts-size l (c + d), parts-size l d, q, r) (omega (arith, tail-below l c (d % most) h)))
    (λ e. let p : most ≤ c + d % most = ltb-false (c + d % most) most e in
    let q : (c + d) / most ≡ suc (d / most) = omega arith in
    let r : (c + d) % most ≡ c + d % most - most = omega arith in
    rw (parts-size l (c + d), parts-size l d, q, r, suc-mul (d / most) (unit l most)) (omega (arith, tail-full l c (d % most) t (omega arith) p)))

parts-one : (l c : ℕ) → 1 ≤ c → c ≤ most → size (parts_of most l c) ≤ unit l c
unfolding parts_of size
parts-one l c h t =
    let z : c + 0 ≡ c = omega arith in
    let m : size (parts_of most l (c + 0)) ≤ unit l c + size (parts_of most l 0) = parts_more l c 0 h t in
    let e : size (parts_of most l (c + 0)) ≡ size (parts_of most l c) = ap (λ (k : ℕ). size (parts_of most l k)) z in
    omega (arith, m, e)

cut-clocks : (l c : ℕ) (is : List Item) → 1 ≤ c → c ≤ most → size (cut_of most (Clocks l c ∷ is)) ≤ cost (Clocks l c) + size (cut_of most is)
unfolding cut_of
cut-clocks l c is h t = omega (arith, size-append (parts_of most l c) (cut_of most is), parts-one l c h t, cost-clocks l c)

cut-before : (i : Item) (is : List Item) → InRange i → size (cut_of most (before i is)) ≤ cost i + size (cut_of most is)
unfolding cut_of size
cut-before (Write a v n) is h = omega arith
cut-before (Read a v n) is h = omega arith
cut-before (Vector k n) is h = omega arith
cut-before (Clocks l c) [] h = cut-clocks l c [] h.1 h.2
cut-before (Clocks l c) (Write a v n ∷ is) h = cut-clocks l c (Write a v n ∷ is) h.1 h.2
cut-before (Clocks l c) (Read a v n ∷ is) h = cut-clocks l c (Read a v n ∷ is) h.1 h.2
cut-before (Clocks l c) (Vector k n ∷ is) h = cut-clocks l c (Vector k n ∷ is) h.1 h.2
cut-before (Clocks l c) (Clocks m d ∷ is) h =
    pick_ind (λ (js : List Item). size (cut_of most js) ≤ cost (Clocks l c) + size (cut_of most (Clocks m d ∷ is))) (eqb l m) (Clocks l (c + d) ∷ is) (Clocks l c ∷ Clocks m d ∷ is)
    (λ e. let q : l ≡ m = eqb-true l m e in
    rw (← q) (omega (arith, size-append (parts_of most l (c + d)) (cut_of most is), size-append (parts_of most l d) (cut_of most is), parts_more l c d h.1 h.2, cost-clocks l c)))
    (λ e. cut-clocks l c (Clocks m d ∷ is) h.1 h.2)

cut-merged : (is : List Item) → AllInRange is → size (cut_of most (merged_of is)) ≤ size is
unfolding cut_of merged_of size
cut-merged [] h = omega arith
cut-merged (i ∷ is) h = omega (arith, cut-before i (merged_of is) h.0, cut-merged is h.1)

shrunk-size : (is : List Item) → AllInRange is → size (shrunk_of is) ≤ size is
unfolding shrunk_of
shrunk-size is h = cut-merged is h

text-size : (is : List Item) → length (text_of is) ≡ 8 + size is
text-size is = omega (arith, length-append first_line (lines_of is), size-lines is)

-- no text with the same clocks and calls is shorter
pub shrunk-least : (is js : List Item) → AllInRange is → AllInRange js → Same is js → length (text_of (shrunk_of is)) ≤ length (text_of js)
shrunk-least is js p q e = rw (shrunk-alike is js p q e) (omega (arith, text-size (shrunk_of js), text-size js, shrunk-size js q))
