-- A bit lasts S·(UBRR + 1) clocks: once over S and UBRR, of every unit and every list of events.
use mathlib.Core.Path.{◌≡◌, refl, ◌∙◌, sym, ap, ap₂, subst}
use mathlib.Core.Bool.{Bool, true, true≢false}
use mathlib.Core.List.{List, [], ◌∷◌}
use mathlib.Core.Logic.{◌⊎◌, inl, inr, ⊎_elim}
use Prim.Native.Nat.{ℕ, zero, suc, ◌+◌, ◌-◌, ◌*◌, ◌≤◌, ◌<◌}
use native.Mathlib.Decide.{dec_lt}
use native.Mathlib.Nat.{mul-le-mul_right, le_of_mul-le-mul_right, lt_of_mul-lt-mul_right}
use native.Mathlib.Omega.{arith}
use lib.Dec.{ltb}
use borrow.Author.Tests.{lt-ltb, le-ltb}
use Rattle.std.proofs.Common.{None, Option, Some}
use Rattle.choice.specs.Pick.{digit}
use Rattle.choice.proofs.Picks.{pick_ind}
use Rattle.frame.specs.Format.{samples, word_bits, last_bit}
use Rattle.frame.specs.Word.{word_of, frame_bit}
use Rattle.frame.specs.declared.format.Format.{Format}
use Rattle.frame.proofs.FormatLaws.{samples-range, stop-bits-range}
use Rattle.usart.specs.Sender.{is_vacant, is_resting, moved_from, stepped_of, shifted_on, sender_of}
use Rattle.usart.specs.Unit.{bit_clocks, clock_of, is_driven, output_of}
use Rattle.usart.specs.Event.{Event, clock, write, read, vector, next_of, final_of}
use Rattle.usart.specs.Bit.{OnLine, Begins, clocks_in, Lasts, BitLasts}
use Rattle.usart.specs.declared.sender.Transmission.{Transmission}
use Rattle.usart.specs.declared.sender.Sender.{Sender}
use Rattle.usart.specs.declared.unit.Usart.{Usart}
use Rattle.usart.proofs.ClockLaws.{clock-tick, clock-wait}
use Rattle.usart.proofs.BusyLaws.{either, Kept, kept-write, kept_read, kept-vector}

abbrev sending_at : ℕ → ℕ → ℕ → Option Transmission
sending_at w b n = Some (record { word = w; bit = b; sample = record { 0 = n } })

-- what is in the shifter is one word, one bit and one count
abbrev word_in : Option Transmission → ℕ
word_in None = 0
word_in (Some t) = t.word

abbrev bit_in : Option Transmission → ℕ
bit_in None = 0
bit_in (Some t) = t.bit

abbrev passed_in : Option Transmission → ℕ
passed_in None = 0
passed_in (Some t) = t.sample.0

rests-not : {w b n : ℕ} → None ≡ sending_at w b n → ⊥
rests-not e = true≢false (ap is_resting e)

-- a shifter that sends is driven
driven : (u : Usart) (w b n : ℕ) → u.sender.shifter ≡ sending_at w b n
    → output_of u ≡ digit (frame_bit (word_bits u.format) w b) + 16
unfolding output_of is_driven
driven u w b n e = rw (e, either (is_vacant u.sender.buffer), either u.control.txen)

-- a clock, by the baud counter before it: k is in the counter after it, and x in the shifter
record Clocked (u v : Usart) (k : ℕ) (x : Option Transmission) : Type 0 where
  format : v.format ≡ u.format
  rate : v.baud.ubrr ≡ u.baud.ubrr
  counter : v.baud.left.0 ≡ k
  shifter : v.sender.shifter ≡ x

ticked : (f : Format) (u : Usart) (rxd : Bool) → u.format ≡ f → u.baud.left.0 ≡ 0
    → Clocked u (clock_of u rxd) u.baud.ubrr (sender_of f u.sender).shifter
ticked f u rxd ef left =
    subst (λ (v : Usart). Clocked u v u.baud.ubrr (sender_of f u.sender).shifter) (sym (clock-tick u rxd left))
    (record { format = refl; rate = refl; counter = refl; shifter = ap (λ (g : Format). (sender_of g u.sender).shifter) ef })

waited : (u : Usart) (rxd : Bool) (k : ℕ) → u.baud.left.0 ≡ suc k → Clocked u (clock_of u rxd) k u.sender.shifter
waited u rxd k left =
    subst (λ (v : Usart). Clocked u v k u.sender.shifter) (sym (clock-wait u rxd k left))
    (record { format = refl; rate = refl; counter = refl; shifter = refl })

module _ (f : Format) where
  abbrev S : ℕ
  S = samples f

  shown : (w b n : ℕ) (u : Usart) → u.format ≡ f → u.sender.shifter ≡ sending_at w b n → OnLine f w b u
  shown w b n u ef e =
      record { passed = n; shifter = e; txd = driven u w b n e ∙ ap (λ (x : Format). digit (frame_bit (word_bits x) w b) + 16) ef }

  -- a tick within a bit, one that ends it, and one that ends the last
  stepped : (s : Sender) (w b n : ℕ) → s.shifter ≡ sending_at w b n → n + 1 < S → (sender_of f s).shifter ≡ sending_at w b (n + 1)
  unfolding stepped_of
  stepped s w b n e h = rw (e, lt-ltb n (S - 1) (omega arith))

  turned : (s : Sender) (w b n : ℕ) → s.shifter ≡ sending_at w b n → n + 1 ≡ S → b < last_bit f → (sender_of f s).shifter ≡ sending_at w (b + 1) 0
  unfolding stepped_of
  turned s w b n e h k = rw (e, le-ltb n (S - 1) (omega arith), lt-ltb b (last_bit f) k)

  moved : (s : Sender) (w b n : ℕ) → s.shifter ≡ sending_at w b n → n + 1 ≡ S → last_bit f ≤ b → (sender_of f s).shifter ≡ (moved_from f s.buffer s.txc true).shifter
  unfolding stepped_of
  moved s w b n e h k = rw (e, le-ltb n (S - 1) (omega arith), le-ltb b (last_bit f) k)

  -- a bit that is in the shifter after a tick was there before it, or none of its ticks has passed
  module _ (w b n : ℕ) where
    abbrev Fresh : Option Transmission → Type 0
    Fresh x = (n ≡ 0) ⊎ ((m : ℕ) × (x ≡ sending_at w b m))

    fresh-moved : (x : Option Transmission) (y : Option ℕ) (kept txc : Bool) → (moved_from f y kept txc).shifter ≡ sending_at w b n → Fresh x
    fresh-moved x None kept txc e = absurd (rests-not e)
    fresh-moved x (Some d) kept txc e = inl (sym (ap passed_in e))

    there : (t : Transmission) → t.word ≡ w → t.bit ≡ b → Some t ≡ sending_at w b t.sample.0
    there t p q = ap₂ (λ (x y : ℕ). sending_at x y t.sample.0) p q

    fresh : (s : Sender) (x : Option Transmission) → (shifted_on f s x).shifter ≡ sending_at w b n → Fresh x
    unfolding stepped_of
    fresh s None = fresh-moved None s.buffer s.txc s.txc
    fresh s (Some t) =
        pick_ind (λ (z : Sender). z.shifter ≡ sending_at w b n → Fresh (Some t)) (ltb t.sample.0 (S - 1)) _ _
        (λ _ e. inr (t.sample.0, there t (ap word_in e) (ap bit_in e)))
        (λ _. pick_ind (λ (z : Sender). z.shifter ≡ sending_at w b n → Fresh (Some t)) (ltb t.bit (last_bit f)) _ _
        (λ _ e. inl (sym (ap passed_in e)))
        (λ _. fresh-moved (Some t) s.buffer s.txc true))

  -- where the shifter takes what the buffer holds, a start bit begins
  loads : (d : ℕ) (u : Usart) (rxd kept txc : Bool) → u.format ≡ f → u.baud.left.0 ≡ 0 → u.sender.buffer ≡ Some d
      → (sender_of f u.sender).shifter ≡ (moved_from f u.sender.buffer kept txc).shifter → (OnLine f (word_of f d) 0 u → ⊥) → Begins f (word_of f d) 0 u rxd
  loads d u rxd kept txc ef left full e none =
      let c = ticked f u rxd ef left in
      record {
        before = none;
        after = shown (word_of f d) 0 0 (clock_of u rxd) (c.format ∙ ef) (c.shifter ∙ e ∙ ap (λ (y : Option ℕ). (moved_from f y kept txc).shifter) full);
      }

  module _ (ubrr w b : ℕ) where
    abbrev M : ℕ
    M = ubrr + 1

    -- bit b is on the line k clocks after the one at which it began
    record Within (k : ℕ) (u : Usart) : Type 0 where
      format : u.format ≡ f
      rate : u.baud.ubrr ≡ ubrr
      passed : ℕ
      shifter : u.sender.shifter ≡ sending_at w b passed
      few : passed < S
      count : k + u.baud.left.0 ≡ passed * M + ubrr

    online : (k : ℕ) (u : Usart) → Within k u → OnLine f w b u
    online k u i = shown w b i.passed u i.format i.shifter

    -- an event that passes no clock, and a clock within the bit
    kept : (k : ℕ) (u v : Usart) → Kept u v → Within k u → Within k v
    kept k u v a i = record {
      format = a.format ∙ i.format;
      rate = ap (λ x. x.ubrr) a.baud ∙ i.rate;
      passed = i.passed;
      shifter = a.shifter ∙ i.shifter;
      few = i.few;
      count = rw a.baud i.count;
    }

    clocked : (k : ℕ) (u : Usart) (rxd : Bool) → Within k u → suc k < S * M → Within (suc k) (clock_of u rxd)
    clocked k u rxd i h = by u.baud.left.0 refl
      where
        goes : (left n : ℕ) (x : Option Transmission) → Clocked u (clock_of u rxd) left x → x ≡ sending_at w b n → n < S → suc k + left ≡ n * M + ubrr
            → Within (suc k) (clock_of u rxd)
        goes left n x c e g q = record {
          format = c.format ∙ i.format;
          rate = c.rate ∙ i.rate;
          passed = n;
          shifter = c.shifter ∙ e;
          few = g;
          count = omega (arith, c.counter);
        }

        by : (left : ℕ) → u.baud.left.0 ≡ left → Within (suc k) (clock_of u rxd)
        by zero e =
            let more : i.passed + 1 < S = lt_of_mul-lt-mul_right M (omega (arith, i.count)) in
            goes u.baud.ubrr (i.passed + 1) _ (ticked f u rxd i.format e) (stepped u.sender w b i.passed i.shifter more) more
            (omega (arith, i.count, i.rate))
        by (suc left) e = goes left i.passed _ (waited u rxd left e) i.shifter i.few (omega (arith, i.count))

    passes : (es : List Event) (k : ℕ) (u : Usart) → Within k u → k + clocks_in es < S * M → Within (k + clocks_in es) (final_of u es)
    passes [] k u i h = subst (λ (n : ℕ). Within n u) (omega arith) i
    passes (clock rxd ∷ es) k u i h =
        subst (λ (n : ℕ). Within n (final_of (clock_of u rxd) es)) (omega arith)
        (passes es (suc k) (clock_of u rxd) (clocked k u rxd i (omega arith)) (omega arith))
    passes (write r v ∷ es) k u i h = passes es k (next_of u (write r v)) (kept k u (next_of u (write r v)) (kept-write u _ i.shifter r v) i) h
    passes (read r ∷ es) k u i h = passes es k (next_of u (read r)) (kept k u (next_of u (read r)) (kept_read u _ i.shifter r) i) h
    passes (vector ∷ es) k u i h = passes es k (next_of u vector) (kept k u (next_of u vector) (kept-vector u _ i.shifter) i) h

    -- before the clock that ends the bit: it is a tick, the bit's last
    record Ending (u : Usart) : Type 0 where
      format : u.format ≡ f
      tick : u.baud.left.0 ≡ 0
      passed : ℕ
      shifter : u.sender.shifter ≡ sending_at w b passed
      all : passed + 1 ≡ S

    ending : (k : ℕ) (u : Usart) → Within k u → k + 1 ≡ S * M → Ending u
    ending k u i h =
        let m : (i.passed + 1) * M ≤ S * M = mul-le-mul_right M (omega (arith, i.few)) in
        let last : S ≤ i.passed + 1 = le_of_mul-le-mul_right {k = M} (omega (arith, i.count)) (omega arith) in
        record { format = i.format; tick = omega (arith, i.count); passed = i.passed; shifter = i.shifter; all = omega (arith, i.few) }

    module _ (u : Usart) (z : Ending u) where
      after : (rxd : Bool) → Clocked u (clock_of u rxd) u.baud.ubrr (sender_of f u.sender).shifter
      after rxd = ticked f u rxd z.format z.tick

      turns : b < last_bit f → (sender_of f u.sender).shifter ≡ sending_at w (b + 1) 0
      turns = turned u.sender w b z.passed z.shifter z.all

      moves : last_bit f ≤ b → (sender_of f u.sender).shifter ≡ (moved_from f u.sender.buffer u.sender.txc true).shifter
      moves = moved u.sender w b z.passed z.shifter z.all

      other : (v c : ℕ) → (b ≡ c → ⊥) → OnLine f v c u → ⊥
      other v c ne o = ne (ap bit_in (sym z.shifter ∙ o.shifter))

      gone : (n : ℕ) (y : Option ℕ) → 1 ≤ b → (moved_from f y u.sender.txc true).shifter ≡ sending_at w b n → ⊥
      gone n None p e = rests-not e
      gone n (Some d) p e = let q : 0 ≡ b = ap bit_in e in omega arith

      is-over : (rxd : Bool) → OnLine f w b (clock_of u rxd) → ⊥
      is-over rxd o =
          let e : (sender_of f u.sender).shifter ≡ sending_at w b o.passed = sym (after rxd).shifter ∙ o.shifter in
          elim (dec_lt b (last_bit f)) [
            | yes h ↦ let q : b + 1 ≡ b = ap bit_in (sym (turns h) ∙ e) in omega arith
            | no h ↦ gone o.passed u.sender.buffer (omega (arith, stop-bits-range f)) (sym (moves (omega arith)) ∙ e)
          ]

      next_bit : (rxd : Bool) → b < last_bit f → Begins f w (b + 1) u rxd
      next_bit rxd h =
          let c = after rxd in
          record {
            before = other w (b + 1) (λ e. omega arith);
            after = shown w (b + 1) 0 (clock_of u rxd) (c.format ∙ z.format) (c.shifter ∙ turns h);
          }

      next-frame : (rxd : Bool) (d : ℕ) → b ≡ last_bit f → u.sender.buffer ≡ Some d → Begins f (word_of f d) 0 u rxd
      next-frame rxd d h full =
          loads d u rxd u.sender.txc true z.format z.tick full (moves (omega arith)) (other (word_of f d) 0 (λ e. omega (arith, stop-bits-range f)))

    lasts : (u : Usart) → Within 0 u → Lasts (S * M) f w b u
    lasts u i = record {
      stays = λ es h. online (0 + clocks_in es) (final_of u es) (passes es 0 u i (omega arith));
      ends = λ es rxd h. is-over (final_of u es) (last es h) rxd;
      next = λ es rxd h. next_bit (final_of u es) (last es h) rxd;
      start = λ es rxd d h. next-frame (final_of u es) (last es h) rxd d;
    }
      where
        last : (es : List Event) → clocks_in es + 1 ≡ S * M → Ending (final_of u es)
        last es h = ending (0 + clocks_in es) (final_of u es) (passes es 0 u i (omega arith)) (omega arith)

-- the clock at which a bit begins is a tick, and the first of the bit's
begun : (u : Usart) (rxd : Bool) (w b : ℕ) → Begins u.format w b u rxd → Within u.format u.baud.ubrr w b 0 (clock_of u rxd)
begun u rxd w b g = by u.baud.left.0 refl
  where
    -- it was not there before
    before : (n : ℕ) → u.sender.shifter ≡ sending_at w b n → ⊥
    before n e = g.before (shown u.format w b n u refl e)

    by : (left : ℕ) → u.baud.left.0 ≡ left → Within u.format u.baud.ubrr w b 0 (clock_of u rxd)
    by zero e =
        let c = ticked u.format u rxd refl e in
        let n : ℕ = g.after.passed in
        let none : n ≡ 0 =
        ⊎_elim (λ q. q) (λ m. absurd (before m.0 m.1))
        (fresh u.format w b n u.sender u.sender.shifter (sym c.shifter ∙ g.after.shifter)) in
        record {
          format = c.format;
          rate = c.rate;
          passed = 0;
          shifter = g.after.shifter ∙ ap (sending_at w b) none;
          few = omega (arith, samples-range u.format);
          count = omega (arith, c.counter);
        }
    by (suc left) e = absurd (before g.after.passed (sym (waited u rxd left e).shifter ∙ g.after.shifter))

-- a bit is S·(UBRR + 1) clocks
pub bit-lasts : (u : Usart) → BitLasts (bit_clocks u) u
bit-lasts u = record {
  first = λ rxd d left rest full.
      loads u.format d u rxd u.sender.txc u.sender.txc refl left full (ap (λ (x : Option Transmission). (shifted_on u.format u.sender x).shifter) rest)
      (λ o. rests-not (sym rest ∙ o.shifter));
  each = λ rxd w b g. lasts u.format u.baud.ubrr w b (clock_of u rxd) (begun u rxd w b g);
}
