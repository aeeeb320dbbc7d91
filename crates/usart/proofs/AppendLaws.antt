-- Lists of events one after another: what holds of the whole, by what holds of the first part and of the second from
-- where the first ends.
use Prim.Native.Nat.{ℕ, suc, ◌+◌}
use mathlib.Core.Bool.{Bool}
use mathlib.Core.List.{List, [], ◌∷◌, ◌++◌, append_assoc}
use mathlib.Core.Path.{◌≡◌, refl, ap}
use native.Mathlib.Omega.{arith}
use lib.ListN.{length}
use Rattle.usart.specs.Unit.{clock_of, output_of}
use Rattle.usart.specs.Event.{Event, clock, write, read, vector, next_of, final_of, OnlyData, at_clocks, levels_of}
use Rattle.usart.specs.Receiving.{NoneWaits, reads_of, arrivals_of}
use Rattle.usart.specs.Sending.{taken_of, outputs_of}
use Rattle.usart.specs.declared.unit.Usart.{Usart}

pub final-append : (u : Usart) (es fs : List Event) → final_of u (es ++ fs) ≡ final_of (final_of u es) fs
final-append u [] fs = refl
final-append u (e ∷ es) fs = final-append (next_of u e) es fs

pub levels-append : (es fs : List Event) → levels_of (es ++ fs) ≡ levels_of es ++ levels_of fs
levels-append [] fs = refl
levels-append (clock rxd ∷ es) fs = ap (◌∷◌ rxd) (levels-append es fs)
levels-append (write r v ∷ es) fs = levels-append es fs
levels-append (read r ∷ es) fs = levels-append es fs
levels-append (vector ∷ es) fs = levels-append es fs

pub only-append : (u : Usart) (es fs : List Event) → OnlyData u es → OnlyData (final_of u es) fs → OnlyData u (es ++ fs)
only-append u [] fs h k = k
only-append u (clock rxd ∷ es) fs h k = only-append (clock_of u rxd) es fs h k
only-append u (write r v ∷ es) fs h k = (h.0, only-append (next_of u (write r v)) es fs h.1 k)
only-append u (read r ∷ es) fs h k = only-append (next_of u (read r)) es fs h k
only-append u (vector ∷ es) fs h k = only-append (next_of u vector) es fs h k

pub none-waits-append : (u : Usart) (es fs : List Event) → NoneWaits u es → NoneWaits (final_of u es) fs → NoneWaits u (es ++ fs)
none-waits-append u [] fs h k = k
none-waits-append u (clock rxd ∷ es) fs h k = (h.0, none-waits-append (clock_of u rxd) es fs h.1 k)
none-waits-append u (write r v ∷ es) fs h k = none-waits-append (next_of u (write r v)) es fs h k
none-waits-append u (read r ∷ es) fs h k = none-waits-append (next_of u (read r)) es fs h k
none-waits-append u (vector ∷ es) fs h k = none-waits-append (next_of u vector) es fs h k

pub reads-append : (u : Usart) (es fs : List Event) → reads_of u (es ++ fs) ≡ reads_of u es ++ reads_of (final_of u es) fs
reads-append u [] fs = refl
reads-append u (e ∷ es) fs = rw (reads-append (next_of u e) es fs, append_assoc)

pub outputs-append : (u : Usart) (es fs : List Event) → outputs_of u (es ++ fs) ≡ outputs_of u es ++ outputs_of (final_of u es) fs
outputs-append u [] fs = refl
outputs-append u (clock rxd ∷ es) fs = ap (◌∷◌ (output_of (clock_of u rxd))) (outputs-append (clock_of u rxd) es fs)
outputs-append u (write r v ∷ es) fs = outputs-append (next_of u (write r v)) es fs
outputs-append u (read r ∷ es) fs = outputs-append (next_of u (read r)) es fs
outputs-append u (vector ∷ es) fs = outputs-append (next_of u vector) es fs

-- the second part begins after as many clocks as the first has
pub arrivals-append : (j : ℕ) (u : Usart) (es fs : List Event)
    → arrivals_of j u (es ++ fs) ≡ arrivals_of j u es ++ arrivals_of (j + length (levels_of es)) (final_of u es) fs
arrivals-append j u [] fs = ap (λ (n : ℕ). arrivals_of n u fs) (omega arith)
arrivals-append j u (clock rxd ∷ es) fs =
    let e : j + suc (length (levels_of es)) ≡ suc j + length (levels_of es) = omega arith in
    rw (arrivals-append (suc j) (clock_of u rxd) es fs, append_assoc, e)
arrivals-append j u (write r v ∷ es) fs = arrivals-append j (next_of u (write r v)) es fs
arrivals-append j u (read r ∷ es) fs = arrivals-append j (next_of u (read r)) es fs
arrivals-append j u (vector ∷ es) fs = arrivals-append j (next_of u vector) es fs

pub taken-append : (j : ℕ) (u : Usart) (es fs : List Event)
    → taken_of j u (es ++ fs) ≡ taken_of j u es ++ taken_of (j + length (outputs_of u es)) (final_of u es) fs
taken-append j u [] fs = ap (λ (n : ℕ). taken_of n u fs) (omega arith)
taken-append j u (clock rxd ∷ es) fs =
    let e : j + suc (length (outputs_of (clock_of u rxd) es)) ≡ suc j + length (outputs_of (clock_of u rxd) es) = omega arith in
    rw (taken-append (suc j) (clock_of u rxd) es fs, e)
taken-append j u (write r v ∷ es) fs = rw (taken-append j (next_of u (write r v)) es fs, append_assoc)
taken-append j u (read r ∷ es) fs = taken-append j (next_of u (read r)) es fs
taken-append j u (vector ∷ es) fs = taken-append j (next_of u vector) es fs

-- the second part begins after as many clocks as the first has
pub clocks-append : {A : Type 0} (g : ℕ → Usart → Bool → List A) (j : ℕ) (u : Usart) (es fs : List Event)
    → at_clocks g j u (es ++ fs) ≡ at_clocks g j u es ++ at_clocks g (j + length (levels_of es)) (final_of u es) fs
clocks-append g j u [] fs = ap (λ (n : ℕ). at_clocks g n u fs) (omega arith)
clocks-append g j u (clock rxd ∷ es) fs =
    let e : j + suc (length (levels_of es)) ≡ suc j + length (levels_of es) = omega arith in
    rw (clocks-append g (suc j) (clock_of u rxd) es fs, append_assoc, e)
clocks-append g j u (write r v ∷ es) fs = clocks-append g j (next_of u (write r v)) es fs
clocks-append g j u (read r ∷ es) fs = clocks-append g j (next_of u (read r)) es fs
clocks-append g j u (vector ∷ es) fs = clocks-append g j (next_of u vector) es fs
