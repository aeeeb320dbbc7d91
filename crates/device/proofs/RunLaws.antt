-- A run, unit by unit: the two never look at each other.
use Prim.Native.Nat.{ℕ, zero, suc, ◌-◌, ◌<◌, ◌≤◌}
use mathlib.Core.Bool.{true, false}
use mathlib.Core.List.{List, [], ◌∷◌, ◌++◌}
use mathlib.Core.Path.{◌≡◌, refl, sym, ap, ap₂, ◌∙◌}
use native.Mathlib.Nat.{mod-eq_of_lt}
use native.Mathlib.Omega.{arith}
use lib.ListN.{length, get_or, replicate}
use Rattle.std.proofs.Common.{None, Some}
use Rattle.std.proofs.lemmas.Option.{get_or_from_slice_get, slice_get-get_or, slice_get_within}
use Rattle.std.specs.List.{slice_get}
use Rattle.usart.specs.Unit.{clock_of as serial_clock, output_of as serial_output}
use Rattle.usart.specs.Counting.{quiet_of, counted_of}
use Rattle.usart.specs.declared.unit.Usart.{Usart}
use Rattle.usart.proofs.CountingLaws.{quiet-clock, quiet-after, counted_none, counted-more, output-counted}
use Rattle.spi.specs.Control.{is_enabled, keeps_master}
use Rattle.spi.specs.Unit.{output_of as spi_output}
use Rattle.spi.specs.Clock.{clock_of as spi_clock, master_clock}
use Rattle.spi.specs.Means.{with_sck}
use Rattle.spi.specs.declared.clock.Levels.{Levels}
use Rattle.spi.specs.declared.unit.Spi.{Spi}
use Rattle.spi.proofs.MasterLaws.{off-clock, off-output, keeps-clock, keeps-step}
use Rattle.device.specs.Unit.{rxd_in, levels_in, after_of, clock_of}
use Rattle.device.specs.ByUnit.{serial_ran, serial_outputs, spi_ran, spi_outputs, sums_of, ClocksAll}
use Rattle.device.specs.Run.{ran_of, outputs_of}
use Rattle.device.specs.declared.unit.Device.{Device}
use Rattle.device.proofs.OutputLaws.{output-fits}

pub ran-units : (d : Device) (ls : List ℕ) → ran_of d ls ≡ after_of d (serial_ran d.usart ls) (spi_ran d.spi ls)
unfolding ran_of serial_ran spi_ran
ran-units d [] = refl
ran-units d (l ∷ ls) = ran-units (clock_of d l) ls

pub outputs-units : (d : Device) (ls : List ℕ) → outputs_of d ls ≡ sums_of (serial_outputs d.usart ls) (spi_outputs d.spi ls)
unfolding outputs_of serial_outputs spi_outputs sums_of
outputs-units d [] = refl
outputs-units d (l ∷ ls) =
    let c : Device = clock_of d l in
    ap₂ (◌∷◌) (sym (mod-eq_of_lt (output-fits c.usart c.spi (levels_in l).ss refl refl))) (outputs-units c ls)

-- the SPI's own clock makes each clock of a run, and a master's that of one which keeps it
pub unit-clocks : (clocks : Spi → Levels → Spi → Type 0) → ((s : Spi) (l : Levels) (t : Spi) → clocks s l t → t ≡ spi_clock s l) → (s : Spi) (ls : List ℕ) → ClocksAll clocks s ls
unit-clocks clocks k s [] = tt
unit-clocks clocks k s (l ∷ ls) = (k s (levels_in l), unit-clocks clocks k (spi_clock s (levels_in l)) ls)

pub master-clocks : (clocks : Spi → Levels → Spi → Type 0) → ((s : Spi) (l : Levels) (t : Spi) → clocks s l t → t ≡ master_clock s l) → (s : Spi) (ls : List ℕ)
    → keeps_master s.control ≡ true → ClocksAll clocks s ls
master-clocks clocks k s [] h = tt
master-clocks clocks k s (l ∷ ls) h =
    let e : spi_clock s (levels_in l) ≡ master_clock s (levels_in l) = keeps-clock s (levels_in l) h in
    (λ (t : Spi) p. k s (levels_in l) t p ∙ sym e, master-clocks clocks k (spi_clock s (levels_in l)) ls (keeps-step s (levels_in l) h e).1)

-- with SPE clear the SPI shows nothing, and keeps only the level of SCK
pub outputs-off : (d : Device) (ls : List ℕ) → is_enabled d.spi.control ≡ false → outputs_of d ls ≡ serial_outputs d.usart ls
unfolding outputs_of serial_outputs
outputs-off d [] off = refl
outputs-off d (l ∷ ls) off =
    let c : Device = clock_of d l in
    let e : c.spi ≡ with_sck d.spi (levels_in l).sck = off-clock d.spi (levels_in l) off in
    let o : is_enabled c.spi.control ≡ false = ap (λ (s : Spi). is_enabled s.control) e ∙ off in
    let z : spi_output c.spi (levels_in l).ss ≡ 0 = off-output c.spi (levels_in l).ss o in
    ap₂ (◌∷◌) (omega (arith, z)) (outputs-off c ls o)

-- so its last clock says all
pub off-ran : (s : Spi) (ls : List ℕ) (n : ℕ) → length ls ≡ suc n → is_enabled s.control ≡ false → spi_ran s ls ≡ spi_clock s (levels_in (get_or ls n 0))
unfolding spi_ran
off-ran s [] n e off = absurd (omega (arith, e))
off-ran s (l ∷ []) zero e off = refl
off-ran s (l ∷ []) (suc n) e off = absurd (omega (arith, e))
off-ran s (l ∷ m ∷ ms) zero e off = absurd (omega (arith, e))
off-ran s (l ∷ m ∷ ms) (suc n) e off =
    let c : Spi = with_sck s (levels_in l).sck in
    let last : Levels = levels_in (get_or (m ∷ ms) n 0) in
    ap (λ (x : Spi). spi_ran x (m ∷ ms)) (off-clock s (levels_in l) off)
    ∙ off-ran c (m ∷ ms) n (omega (arith, e)) off
    ∙ off-clock c last off
    ∙ sym (off-clock s last off)

pub off-last : (s : Spi) (ls : List ℕ) (l : ℕ) → slice_get ls (length ls - 1) ≡ Some l → is_enabled s.control ≡ false → spi_ran s ls ≡ with_sck s (levels_in l).sck
off-last s ls l e off =
    let k : length ls - 1 < length ls = slice_get_within ls _ l e in
    let n : length ls ≡ suc (length ls - 1) = omega (arith, k) in
    off-ran s ls (length ls - 1) n off
    ∙ ap (λ (x : ℕ). spi_clock s (levels_in x)) (get_or_from_slice_get ls _ l 0 e)
    ∙ off-clock s (levels_in l) off

pub off-none : (s : Spi) (ls : List ℕ) → slice_get ls (length ls - 1) ≡ None → spi_ran s ls ≡ s
unfolding spi_ran
off-none s [] e = refl
off-none s (l ∷ ls) e =
    let x = slice_get-get_or (l ∷ ls) (length (l ∷ ls) - 1) 0 (omega arith) in cc

-- clocks in a row
pub serial-append : (u : Usart) (xs ys : List ℕ) → serial_ran u (xs ++ ys) ≡ serial_ran (serial_ran u xs) ys
unfolding serial_ran
serial-append u [] ys = refl
serial-append u (x ∷ xs) ys = serial-append (serial_clock u (rxd_in x)) xs ys

pub serial-outputs-append : (u : Usart) (xs ys : List ℕ) → serial_outputs u (xs ++ ys) ≡ serial_outputs u xs ++ serial_outputs (serial_ran u xs) ys
unfolding serial_ran serial_outputs
serial-outputs-append u [] ys = refl
serial-outputs-append u (x ∷ xs) ys =
    let v : Usart = serial_clock u (rxd_in x) in ap (◌∷◌ (serial_output v)) (serial-outputs-append v xs ys)

-- clocks that only count: the unit after them, and the one byte that they all show
pub counted_ran : (u : Usart) (ls : List ℕ) → length ls ≤ quiet_of u → serial_ran u ls ≡ counted_of u (length ls)
unfolding serial_ran
counted_ran u [] h = sym (counted_none u)
counted_ran u (l ∷ ls) h =
    let one : serial_clock u (rxd_in l) ≡ counted_of u 1 = quiet-clock u (rxd_in l) (omega (arith, h)) in
    ap (λ (x : Usart). serial_ran x ls) one
    ∙ counted_ran (counted_of u 1) ls (quiet-after u (length ls) h)
    ∙ counted-more u (length ls) h

pub counted-outputs : (u : Usart) (ls : List ℕ) → length ls ≤ quiet_of u → serial_outputs u ls ≡ replicate (length ls) (serial_output u)
unfolding serial_outputs
counted-outputs u [] h = refl
counted-outputs u (l ∷ ls) h =
    let one : serial_clock u (rxd_in l) ≡ counted_of u 1 = quiet-clock u (rxd_in l) (omega (arith, h)) in
    let same : serial_output (counted_of u 1) ≡ serial_output u = output-counted u 1 in
    ap₂ (◌∷◌)
    (ap serial_output one ∙ same)
    (ap (λ (x : Usart). serial_outputs x ls) one
    ∙ counted-outputs (counted_of u 1) ls (quiet-after u (length ls) h)
    ∙ ap (replicate (length ls)) same)
