-- A run, clock by clock: what is left of it after i level bytes.
use Prim.Native.Nat.{ℕ, suc, ◌+◌, ◌-◌, ◌%◌, ◌<◌, ◌≤◌}
use mathlib.Core.Bool.{false, ◌&&◌}
use mathlib.Core.List.{List, [], ◌∷◌, ◌++◌, append_assoc, append-nil}
use mathlib.Core.Path.{◌≡◌, refl, sym, ap, ap₂, subst, ◌∙◌}
use native.Mathlib.Numerals.{add-one}
use native.Mathlib.Omega.{arith}
use lib.Dec.{ltb}
use lib.ListN.{length, take, drop, get_or, set, replicate, length-set, take-append-drop, length-append, length-drop}
use lib.Seq.{drop-cons, drop-drop, drop-length, drop-set-lt, length-take-le, take-append-add, take-length, take-suc-set}
use borrow.Rule.Slice.PartMut.{put_mid}
use Rattle.std.proofs.lemmas.List.{take-append-le}
use Rattle.choice.proofs.Picks.{split}
use Rattle.usart.specs.Unit.{clock_of as serial_clock, output_of as serial_output}
use Rattle.usart.specs.Counting.{least, quiet_of, counted_of, skipped_of}
use Rattle.advance.specs.declared.Passed.{Passed}
use Rattle.span.specs.declared.Span.{Span}
use Rattle.usart.specs.declared.unit.Usart.{Usart}
use Rattle.usart.proofs.CountingLaws.{least-le}
use Rattle.spi.specs.Clock.{clock_of as spi_clock}
use Rattle.spi.specs.Unit.{output_of as spi_output}
use Rattle.spi.specs.Control.{is_enabled}
use Rattle.spi.specs.declared.clock.Levels.{Levels}
use Rattle.spi.specs.declared.unit.Spi.{Spi}
use Rattle.device.specs.ByUnit.{serial_ran, serial_outputs, spi_ran, spi_outputs, sums_of, ClocksAll}
use Rattle.device.specs.Outcome.{answer_of}
use Rattle.device.specs.Run.{ran_of, outputs_of, are_levels, run_of, shown}
use Rattle.device.specs.Unit.{rxd_in, levels_in, after_of, clocked_of}
use Rattle.device.specs.declared.unit.Device.{Device}
use Rattle.device.proofs.RunLaws.{ran-units, outputs-units, outputs-off, serial-append, serial-outputs-append, counted_ran, counted-outputs}

-- one level byte more, all looked at
pub level-more : (ls : List ℕ) (l : ℕ) → are_levels (ls ++ (l ∷ [])) ≡ are_levels ls && ltb l 32
unfolding are_levels
level-more [] l = split (ltb l 32) (λ e. rw e) (λ e. rw e)
level-more (x ∷ ls) l = split (ltb x 32) (λ e. rw e (level-more ls l)) (λ e. rw e)

pub none_left : (ls : List ℕ) (i : ℕ) → i ≡ length ls → drop i ls ≡ []
none_left ls i h = rw (h, drop-length)

pub all-taken : (ls : List ℕ) (i : ℕ) → i ≡ length ls → take i ls ++ [] ≡ ls
all-taken ls i h = rw (h, append-nil, take-length)

-- the first clock of a run, and its output byte
pub first-ran : (u : Usart) (ls : List ℕ) {v : Usart} → 0 < length ls → v ≡ serial_clock u (rxd_in (get_or ls 0 0)) → serial_ran v (drop 1 ls) ≡ serial_ran u ls
unfolding serial_ran
first-ran u [] h e = absurd (omega (arith, h))
first-ran u (l ∷ ls) h e = ap (λ (x : Usart). serial_ran x ls) e

pub first-shown : (u : Usart) (ls os : List ℕ) {v : Usart} {o : ℕ} → 0 < length ls → length os ≡ length ls → v ≡ serial_clock u (rxd_in (get_or ls 0 0)) → o ≡ serial_output v
    → take 1 (set os 0 o) ++ serial_outputs v (drop 1 ls) ≡ serial_outputs u ls
unfolding serial_outputs
first-shown u [] os h n e q = absurd (omega (arith, h))
first-shown u (l ∷ ls) [] h n e q = absurd (omega (arith, n))
first-shown u (l ∷ ls) (x ∷ os) h n e q = rw (q, e)

-- what was skipped
pub skipped-few : (u : Usart) (n : ℕ) {q : Passed Usart Span} → q ≡ skipped_of u n → (q.steps.0 ≤ quiet_of u) × (q.steps.0 ≤ n)
skipped-few u n e = rw e (least-le (least (quiet_of u) n) (quiet_of u) n (omega arith))

-- as many clocks as only count, and the byte that they all show
module _ (u : Usart) (ls : List ℕ) {q : Passed Usart Span} (e : q ≡ skipped_of u (length ls)) where
  few : (q.steps.0 ≤ quiet_of u) × (q.steps.0 ≤ length ls)
  few = skipped-few u (length ls) e

  unit : q.state ≡ counted_of u q.steps.0
  unit = rw e refl

  skipped-length : length (take q.steps.0 ls) ≡ q.steps.0
  skipped-length = length-take-le q.steps.0 ls few.1

  quiet : length (take q.steps.0 ls) ≤ quiet_of u
  quiet = rw skipped-length few.0

  to : serial_ran u (take q.steps.0 ls) ≡ q.state
  to = counted_ran u (take q.steps.0 ls) quiet ∙ ap (counted_of u) skipped-length ∙ sym unit

  pub skip-ran : serial_ran q.state (drop q.steps.0 ls) ≡ serial_ran u ls
  skip-ran =
      sym (ap (λ (x : Usart). serial_ran x (drop q.steps.0 ls)) to)
      ∙ sym (serial-append u (take q.steps.0 ls) (drop q.steps.0 ls))
      ∙ ap (serial_ran u) (take-append-drop q.steps.0 ls)

  pub skip-shown : (new : List ℕ) → take q.steps.0 new ≡ replicate q.steps.0 (serial_output u)
      → take q.steps.0 new ++ serial_outputs q.state (drop q.steps.0 ls) ≡ serial_outputs u ls
  skip-shown new f =
      let shown : serial_outputs u (take q.steps.0 ls) ≡ take q.steps.0 new =
      counted-outputs u (take q.steps.0 ls) quiet ∙ ap (λ (m : ℕ). replicate m (serial_output u)) skipped-length ∙ sym f in
      sym (ap₂ (λ (x : List ℕ) (v : Usart). x ++ serial_outputs v (drop q.steps.0 ls)) shown to)
      ∙ sym (serial-outputs-append u (take q.steps.0 ls) (drop q.steps.0 ls))
      ∙ ap (serial_outputs u) (take-append-drop q.steps.0 ls)

-- the serial unit's part of a run, at place i of the level bytes ls: u has come from u₀ so far, and os has its output
-- bytes so far
pub record SerialPart (ls os : List ℕ) (u₀ u : Usart) (i : ℕ) : Type 0 where
  pub within : i ≤ length ls
  pub long : length os ≡ length ls
  pub ran : serial_ran u (drop i ls) ≡ serial_ran u₀ ls
  pub shown : take i os ++ serial_outputs u (drop i ls) ≡ serial_outputs u₀ ls

-- k clocks more of those that are left, which write new over what is left of the output bytes
pub serial-turn : {ls os : List ℕ} {u₀ u : Usart} {i : ℕ} → SerialPart ls os u₀ u i → (new rest : List ℕ) (v : Usart) (k : ℕ) → rest ≡ drop i ls → k ≤ length rest
    → length new ≡ length os - i → serial_ran v (drop k rest) ≡ serial_ran u rest → take k new ++ serial_outputs v (drop k rest) ≡ serial_outputs u rest
    → SerialPart ls (put_mid i (length os - i) os new) u₀ v (i + k)
serial-turn {ls} {os} {u₀} {u} {i} p new rest v k e few long ran shown =
    let past : List ℕ = drop (length os - i) (drop i os) in
    let left : length rest ≡ length ls - i = ap length e ∙ length-drop i ls in
    let here : length (take i os) ≡ i = length-take-le i os (omega (arith, p.within, p.long)) in
    let after : drop k rest ≡ drop (i + k) ls = ap (drop k) e ∙ drop-drop k i ls in
    let taken : take (i + k) (put_mid i (length os - i) os new) ≡ take i os ++ take k new =
    ap (λ (x : ℕ). take (x + k) (put_mid i (length os - i) os new)) (sym here)
    ∙ take-append-add (take i os) (new ++ past) k
    ∙ ap (λ (x : List ℕ). take i os ++ x) (take-append-le k new (past) (omega (arith, long, few, left, p.long))) in
    record {
      within = omega (arith, few, left, p.within);
      long = simp (length-append, length-drop) (omega (arith, here, long, p.long, p.within));
      ran = ap (serial_ran v) (sym after) ∙ ran ∙ ap (serial_ran u) e ∙ p.ran;
      shown =
          ap₂ (λ (x : List ℕ) (y : List ℕ). x ++ serial_outputs v y) taken (sym after)
          ∙ append_assoc (take i os) (take k new) (serial_outputs v (drop k rest))
          ∙ ap (λ (x : List ℕ). take i os ++ x) (shown ∙ ap (serial_outputs u) e)
          ∙ p.shown;
    }

pub serial-done : {ls os : List ℕ} {u₀ u : Usart} {i : ℕ} → SerialPart ls os u₀ u i → length ls ≤ i → (u ≡ serial_ran u₀ ls) × (os ≡ serial_outputs u₀ ls)
unfolding serial_ran serial_outputs
serial-done {ls} {os} {u₀} {u} {i} p h =
    let end : i ≡ length ls = omega (arith, p.within) in
    let end' : i ≡ length os = omega (arith, end, p.long) in
    (sym (ap (serial_ran u) (none_left ls i end)) ∙ p.ran, sym (all-taken os i end') ∙ sym (ap (λ (x : List ℕ). take i os ++ serial_outputs u x) (none_left ls i end)) ∙ p.shown)

-- what makes each clock of a run makes the one at place i
pub clocks-on : (clocks : Spi → Levels → Spi → Type 0) (ls : List ℕ) (i : ℕ) {s t : Spi} {l : Levels} → ClocksAll clocks s (drop i ls) → i < length ls
    → l ≡ levels_in (get_or ls i 0) → clocks s l t → (t ≡ spi_clock s l) × ClocksAll clocks t (drop (i + 1) ls)
clocks-on clocks ls i {s} {t} {l} k h e p =
    let k' : ClocksAll clocks s (get_or ls i 0 ∷ drop (suc i) ls) = subst (ClocksAll clocks s) (drop-cons ls i 0 h) k in
    let at : t ≡ spi_clock s (levels_in (get_or ls i 0)) = k'.0 t (subst (λ (x : Levels). clocks s x t) e p) in
    (at ∙ ap (spi_clock s) (sym e), rw (add-one i) (subst (λ (x : Spi). ClocksAll clocks x (drop (suc i) ls)) (sym at) k'.1))

-- the SPI's part of a run, at place i of the level bytes ls: s has come from s₀ so far, and os, from os₀, has its bits
-- so far
pub record SpiPart (ls os₀ : List ℕ) (s₀ : Spi) (os : List ℕ) (s : Spi) (i : ℕ) : Type 0 where
  pub within : i ≤ length ls
  pub long : length os ≡ length ls
  pub ran : spi_ran s (drop i ls) ≡ spi_ran s₀ ls
  pub outputs : take i os ++ sums_of (drop i os) (spi_outputs s (drop i ls)) ≡ sums_of os₀ (spi_outputs s₀ ls)

-- one clock, in whatever way it is made, with the SPI's bits added to its output byte
pub spi-turn : {ls os₀ os : List ℕ} {s₀ s t : Spi} {l : Levels} {i o shows : ℕ} → SpiPart ls os₀ s₀ os s i → i < length ls
    → l ≡ levels_in (get_or ls i 0) → t ≡ spi_clock s l → shows ≡ spi_output t l.ss → o ≡ (get_or os i 0 + shows) % 256
    → SpiPart ls os₀ s₀ (set os i o) t (i + 1)
unfolding spi_ran spi_outputs sums_of
spi-turn {ls} {os₀} {os} {s₀} {s} {t} {l} {i} {o} {shows} p h hl ht hs ho =
    let k : i < length os = omega (arith, p.long) in record {
      within = omega arith;
      long = length-set os i o ∙ p.long;
      ran =
          rw (ht, hl, add-one i) (sym (ap (spi_ran s) (drop-cons ls i 0 h)) ∙ p.ran);
      outputs =
          rw (ho, hs, ht, hl, add-one i, take-suc-set os i _ k, append_assoc, drop-set-lt (suc i) os i _ (omega arith))
          (sym (ap₂ (λ (xs ys : List ℕ). take i os ++ sums_of xs (spi_outputs s ys)) (drop-cons os i 0 k) (drop-cons ls i 0 h)) ∙ p.outputs);
    }

pub spi-done : {ls os₀ os : List ℕ} {s₀ s : Spi} {i : ℕ} → SpiPart ls os₀ s₀ os s i → length ls ≤ i
    → (s ≡ spi_ran s₀ ls) × (os ≡ sums_of os₀ (spi_outputs s₀ ls))
unfolding spi_ran sums_of
spi-done {ls} {os₀} {os} {s₀} {s} {i} p h =
    let end : i ≡ length ls = omega (arith, p.within) in
    let end' : i ≡ length os = omega (arith, end, p.long) in
    (sym (ap (spi_ran s) (none_left ls i end)) ∙ p.ran, sym (all-taken os i end') ∙ sym (ap₂ (λ (xs ys : List ℕ). take i os ++ sums_of xs (spi_outputs s ys)) (none_left os i end') (none_left ls i end)) ∙ p.outputs)

-- a run of one
pub one-clock : (d : Device) (l : ℕ) {e : Device} {os : List ℕ} → e ≡ ran_of d (l ∷ []) → os ≡ outputs_of d (l ∷ [])
    → record { value = get_or os 0 0; after = e } ≡ clocked_of d l
unfolding ran_of outputs_of
one-clock d l he ho = ap₂ (λ (e : Device) (o : ℕ). record { value = o; after = e }) he (ap (λ (os : List ℕ). get_or os 0 0) ho)

-- both units have run
module _ (d : Device) (ls : List ℕ) where
  pub units-ran : {u : Usart} {s : Spi} {e : Device} → u ≡ serial_ran d.usart ls → s ≡ spi_ran d.spi ls → e ≡ after_of d u s → e ≡ ran_of d ls
  units-ran hu hs he = he ∙ ap₂ (after_of d) hu hs ∙ sym (ran-units d ls)

  pub units-outputs : {os os' : List ℕ} → os ≡ serial_outputs d.usart ls → os' ≡ sums_of os (spi_outputs d.spi ls) → os' ≡ outputs_of d ls
  units-outputs f g = g ∙ ap (λ (x : List ℕ). sums_of x (spi_outputs d.spi ls)) f ∙ sym (outputs-units d ls)

  -- an SPI that is off adds nothing
  pub serial-alone : {os : List ℕ} → os ≡ serial_outputs d.usart ls → is_enabled d.spi.control ≡ false → os ≡ outputs_of d ls
  serial-alone f off = f ∙ sym (outputs-off d ls off)

-- an output slice that is too short and a level byte with bit 5 set: of 6 and 7, 6 is answered
pub six-before-seven : (d : Device) → answer_of (run_of d (32 ∷ []) []) ≡ 6
unfolding are_levels
six-before-seven d = refl
