-- The sender makes a line of demand 3: the induction over the events.
use mathlib.Core.Path.{◌≡◌, refl, ◌∙◌, sym, ap, subst}
use mathlib.Core.Bool.{Bool, true, false}
use mathlib.Core.List.{List, [], ◌∷◌, ◌++◌, map, map-append, append_assoc, append-nil}
use Prim.Native.Nat.{ℕ, zero, suc, ◌+◌, ◌-◌, ◌*◌, ◌/◌, ◌≤◌, ◌<◌}
use native.Mathlib.Nat.{mul-le-mul_right, div-eq_of_lt-le, mul-pos, mod-lt}
use native.Mathlib.Decide.{dec_lt}
use native.Mathlib.Omega.{arith}
use lib.Dec.{ltb}
use lib.ListN.{length}
use lib.Pow.{pow_pos}
use borrow.Author.Tests.{ltb-true, ltb-false, le-leb, lt-leb}
use Rattle.std.proofs.Common.{None, Option, Result, Some}
use Rattle.choice.specs.Pick.{pick, digit}
use Rattle.choice.proofs.Picks.{pick_ind}
use Rattle.frame.specs.Format.{samples, data_bits, word_bits, last_bit}
use Rattle.frame.specs.Word.{data_of, word_of, frame_bit}
use Rattle.frame.specs.declared.format.Format.{Format}
use Rattle.frame.proofs.FormatLaws.{samples-half, first-vote-range, stop-bits-range}
use Rattle.frame.proofs.WordLaws.{stop-bit}
use Rattle.usart.specs.Sender.{is_vacant, buffer_of, begun, moved_from, stepped_of, placed, shifted_on, sender_of, txd_of}
use Rattle.usart.specs.Unit.{bit_clocks, clock_of, is_driven, output_of, txc_requested}
use Rattle.usart.specs.Write.{transmitted_of, write_of, vector_of}
use Rattle.usart.specs.Event.{Event, clock, write, read, vector, settled, next_of, final_of, is_refused, is_udr0, OnlyData, levels_of}
use Rattle.usart.specs.Line.{Sent, line_level, Fits}
use Rattle.usart.specs.Valid.{ValidBuffer}
use Rattle.usart.specs.Sending.{MaySend, waiting, accepted_by, Taken, taken_at, taken_of, tick_from, later_of, frames_from, frames_of, not_before, outputs_of, Drives, data_in, Sends}
use Rattle.usart.specs.declared.sender.Transmission.{Transmission}
use Rattle.usart.specs.declared.sender.Sender.{Sender}
use Rattle.usart.specs.declared.unit.Usart.{Usart}
use Rattle.usart.specs.declared.write.Register.{Register}
use Rattle.usart.specs.declared.write.Register.TheVariants.{Ucsr0a, Ucsr0b, Ucsr0c, Ubrr0l, Ubrr0h, Udr0}
use Rattle.usart.proofs.LineLaws.{From, later, from-spaced, over, within, quiet}
use Rattle.usart.proofs.EventLaws.{refused-settled}
use Rattle.usart.proofs.ClockLaws.{clock-tick, clock-wait}
use Rattle.usart.proofs.TickLaws.{Phase, tick-next, tick-from, phase-first, phase-tick, phase-wait}
use Rattle.answer.specs.declared.Refusal.{Refusal}

-- an enabled sender drives its level
output-driven : (u : Usart) → u.control.txen ≡ true → output_of u ≡ digit (txd_of u.format u.sender.shifter) + 16
unfolding output_of is_driven
output-driven u e = rw e

drives-same : (w w' : ℕ → Bool) (j : ℕ) (os : List ℕ) → ((i : ℕ) → j ≤ i → w i ≡ w' i) → Drives w j os → Drives w' j os
drives-same w w' j [] h o = o
drives-same w w' j (x ∷ os) h o =
    (o.0 ∙ ap (λ (b : Bool). digit b + 16) (h j (omega arith)), drives-same w w' (suc j) os (λ i t. h i (omega arith)) o.1)

-- an output for each clock
pub outputs-length : (u : Usart) (es : List Event) → length (outputs_of u es) ≡ length (levels_of es)
outputs-length u [] = refl
outputs-length u (clock l ∷ es) = ap suc (outputs-length (clock_of u l) es)
outputs-length u (write r v ∷ es) = outputs-length (next_of u (write r v)) es
outputs-length u (read r ∷ es) = outputs-length (next_of u (read r)) es
outputs-length u (vector ∷ es) = outputs-length (next_of u vector) es

-- what is in the buffer before clock j, and what it takes later
abbrev ahead : ℕ → Option ℕ → List Taken → List Taken
ahead j b ts = map (taken_at j) (waiting b) ++ ts

-- the first of them is there from clock j on, or later
abbrev FirstFrom : ℕ → List Taken → Type 0
FirstFrom j [] = Unit {0}
FirstFrom j (t ∷ ts) = j ≤ t.from

first-ahead : (j : ℕ) (xs : List ℕ) (ts : List Taken) → FirstFrom j ts → FirstFrom j (map (taken_at j) xs ++ ts)
first-ahead j [] ts h = h
first-ahead j (x ∷ xs) ts h = omega arith

first-sooner : (i j : ℕ) (ts : List Taken) → i ≤ j → FirstFrom j ts → FirstFrom i ts
first-sooner i j [] h k = tt
first-sooner i j (t ∷ ts) h k = omega (arith, k)

first_taken : (j : ℕ) (u : Usart) (es : List Event) → FirstFrom j (taken_of j u es)
first_taken j u [] = tt
first_taken j u (clock l ∷ es) = first-sooner j (suc j) (taken_of (suc j) (clock_of u l) es) (omega arith) (first_taken (suc j) (clock_of u l) es)
first_taken j u (write r v ∷ es) =
    first-ahead j (accepted_by u (write r v)) (taken_of j (next_of u (write r v)) es) (first_taken j (next_of u (write r v)) es)
first_taken j u (read r ∷ es) = first_taken j (next_of u (read r)) es
first_taken j u (vector ∷ es) = first_taken j (next_of u vector) es

-- the unit as it is at first
module _ (first : Usart) where
  abbrev f : Format
  f = first.format

  abbrev ubrr : ℕ
  ubrr = first.baud.ubrr

  abbrev D : ℕ
  D = word_bits f

  abbrev S : ℕ
  S = samples f

  abbrev M : ℕ
  M = ubrr + 1

  -- clocks a bit
  abbrev P : ℕ
  P = S * M

  -- bits a frame
  abbrev N : ℕ
  N = last_bit f + 1

  abbrev Line : List Sent → ℕ → Bool
  Line fs j = line_level f P 1 fs j

  s1 : 8 ≤ S
  s1 = omega (arith, samples-half f, first-vote-range f)

  n2 : D + 2 ≤ N
  n2 = omega (arith, stop-bits-range f)

  p1 : 1 ≤ P
  p1 = mul-pos (omega (arith, s1)) (omega arith)

  record Stays (u : Usart) : Type 0 where
    format : u.format ≡ f
    rate : u.baud.ubrr ≡ ubrr
    txen : u.control.txen ≡ true

  -- bit b of a frame begun at clock n is on the line, t of its ticks passed; before clock j the counter is k
  record InBit (j k b t n : ℕ) : Type 0 where
    next : j + k ≡ n + (b * S + t + 1) * M
    counter : k ≤ ubrr
    tick : t < S
    bit : b < N

  -- the frame that is on the line before clock j, if any, and the clock from which the next may start
  data Place (u : Usart) (j : ℕ) : List Sent → ℕ → Type 0 where
    resting : {lo : ℕ} → u.sender.shifter ≡ None → lo ≤ j → Place u j [] lo
    sending : (t : Transmission) (s : Sent) → u.sender.shifter ≡ Some t → t.word ≡ word_of f s.«data»
        → InBit j u.baud.left.0 t.bit t.sample.0 s.start → Place u j (s ∷ []) (s.start + N * P)

  -- the frames of ts, the first of which may begin from lo on
  abbrev Frames : ℕ → List Taken → List Sent
  Frames lo ts = frames_from first lo ts

  -- the events es, the first clock of which is j, make the frames fs: with the one on the line now they are all that
  -- TxD shows
  record Makes (cur fs : List Sent) (j : ℕ) (u : Usart) (es : List Event) : Type 0 where
    fits : Fits f fs
    drives : Drives (Line (cur ++ fs)) j (outputs_of u es)
    remains : map data_in (not_before (j + length (outputs_of u es)) fs) ≡ waiting (final_of u es).sender.buffer

  -- the same of clock j, that leads to v, and of the events after it
  abbrev Clocks : List Sent → List Sent → ℕ → Usart → List Event → Type 0
  Clocks cur fs j v es = (output_of v ≡ digit (Line (cur ++ fs) j) + 16) × Makes cur fs (suc j) v es

  -- whatever is in the buffer before clock j counts as taken then
  abbrev Claim : List Event → Type 0
  Claim es = (cur : List Sent) (lo j : ℕ) (u : Usart) → Stays u → Phase first.baud j u.baud.left.0 → Place u j cur lo → ValidBuffer f u.sender.buffer → OnlyData u es
      → Makes cur (Frames lo (ahead j u.sender.buffer (taken_of j u es))) j u es

  from-frames : (lo : ℕ) (ts : List Taken) → From D P 1 lo (Frames lo ts)
  from-frames lo [] = tt
  from-frames lo (t ∷ ts) =
      let n : ℕ = tick_from first.baud (later_of lo t.from) in
      let m : (D + 2) * P ≤ N * P = mul-le-mul_right P n2 in
      (omega (arith, tick-from first.baud (later_of lo t.from)), later D P 1 (n * 1 + (D + 2) * P) (n + N * P) (Frames (n + N * P) ts) (omega arith) (from-frames (n + N * P) ts))

  -- the frame before has ended when the first is taken
  ended : (lo j : ℕ) (ts : List Taken) → lo ≤ j → FirstFrom j ts → Frames j ts ≡ Frames lo ts
  ended lo j [] h k = refl
  ended lo j (t ∷ ts) h k =
      let e : later_of j t.from ≡ later_of lo t.from = omega (arith, k) in
      ap (λ (i : ℕ). let n : ℕ = tick_from first.baud i in record { start = n; «data» = t.«data» } ∷ Frames (n + N * P) ts) e

  -- it begins at the same tick if clock j begins no frame
  waits : (lo j : ℕ) (x : Option ℕ) (ts : List Taken) → tick_from first.baud (later_of lo (suc j)) ≡ tick_from first.baud (later_of lo j) → Frames lo (ahead (suc j) x ts) ≡ Frames lo (ahead j x ts)
  waits lo j None ts e = refl
  waits lo j (Some d) ts e = ap (λ (n : ℕ). record { start = n; «data» = d } ∷ Frames (n + N * P) ts) e

  -- within bit b of the frame s nothing else is seen
  only : (s : Sent) (fs : List Sent) (b j : ℕ) → From D P 1 (s.start + N * P) fs → b < N → s.start + b * P ≤ j → j < s.start + (b + 1) * P
      → frame_bit D (word_of f s.«data») b ≡ Line (s ∷ fs) j
  only s fs b j fr hb lo hi = elim (dec_lt ((j - s.start) * 1) ((D + 2) * P)) [
    | yes h ↦
        let e : (j - s.start) * 1 / P ≡ b = div-eq_of_lt-le P (omega arith) (omega arith) in
        sym (within f P 1 s fs j (omega arith) h ∙ ap (frame_bit D (word_of f s.«data»)) e)
    | no h ↦
        let m : (b + 1) * P ≤ N * P = mul-le-mul_right P (omega arith) in
        let c : D < b = beyond (omega arith) in
        stop-bit D (word_of f s.«data») b c ∙ sym (over f P 1 s fs j (omega arith) (omega arith) ∙ quiet f P 1 (s.start + N * P) fs j fr (omega arith))
  ]
    where
      beyond : (D + 2) * P < (b + 1) * P → D < b
      beyond h = elim (dec_lt D b) [
        | yes q ↦ q
        | no q ↦ absurd (let z : (b + 1) * P ≤ (D + 2) * P = mul-le-mul_right P (omega arith) in omega arith)
      ]

  -- after a clock the shifter rests
  rests : (es : List Event) → Claim es → (lo j : ℕ) (v : Usart) → Stays v → Phase first.baud (suc j) v.baud.left.0 → v.sender.shifter ≡ None → lo ≤ j
      → ValidBuffer f v.sender.buffer → OnlyData v es → Clocks [] (Frames lo (ahead (suc j) v.sender.buffer (taken_of (suc j) v es))) j v es
  rests es ih lo j v st ph sh h vb on =
      let ts : List Taken = ahead (suc j) v.sender.buffer (taken_of (suc j) v es) in
      let high : txd_of v.format v.sender.shifter ≡ Line (Frames (suc j) ts) j =
      ap (txd_of v.format) sh ∙ sym (quiet f P 1 (suc j) (Frames (suc j) ts) j (from-frames (suc j) ts) (omega arith)) in
      subst (λ (fs : List Sent). Clocks [] fs j v es)
      (ended lo (suc j) ts (omega arith) (first-ahead (suc j) (waiting v.sender.buffer) (taken_of (suc j) v es) (first_taken (suc j) v es)))
      (output-driven v st.txen ∙ ap (λ (x : Bool). digit x + 16) high, ih [] (suc j) (suc j) v st ph (resting sh (omega arith)) vb on)

  -- after a clock the frame s is on the line, in the bit of t
  sends-on : (es : List Event) → Claim es → (s : Sent) (t : Transmission) (j : ℕ) (v : Usart) → Stays v → Phase first.baud (suc j) v.baud.left.0
      → v.sender.shifter ≡ Some t → t.word ≡ word_of f s.«data» → InBit (suc j) v.baud.left.0 t.bit t.sample.0 s.start
      → s.start + t.bit * P ≤ j → j < s.start + (t.bit + 1) * P → ValidBuffer f v.sender.buffer → OnlyData v es
      → Clocks (s ∷ []) (Frames (s.start + N * P) (ahead (suc j) v.sender.buffer (taken_of (suc j) v es))) j v es
  sends-on es ih s t j v st ph sh ew i lo hi vb on =
      let ts : List Taken = ahead (suc j) v.sender.buffer (taken_of (suc j) v es) in
      let fs : List Sent = Frames (s.start + N * P) ts in
      let level : txd_of v.format v.sender.shifter ≡ Line (s ∷ fs) j =
      ap (txd_of v.format) sh ∙ ap (λ (x : Format). frame_bit (word_bits x) t.word t.bit) st.format
      ∙ ap (λ (x : ℕ). frame_bit D x t.bit) ew ∙ only s fs t.bit j (from-frames (s.start + N * P) ts) i.bit lo hi in
      (output-driven v st.txen ∙ ap (λ (x : Bool). digit x + 16) level, ih (s ∷ []) (s.start + N * P) (suc j) v st ph (sending t s sh ew i) vb on)

  -- the same, where the buffer is as it was before the clock, and the frame s has not ended at the clock
  sends-still : (es : List Event) → Claim es → (s : Sent) (t : Transmission) (j : ℕ) (x : Option ℕ) (v : Usart) → Stays v → Phase first.baud (suc j) v.baud.left.0
      → v.sender.shifter ≡ Some t → v.sender.buffer ≡ x → t.word ≡ word_of f s.«data» → InBit (suc j) v.baud.left.0 t.bit t.sample.0 s.start
      → s.start + t.bit * P ≤ j → j < s.start + (t.bit + 1) * P → ValidBuffer f x → OnlyData v es
      → Clocks (s ∷ []) (Frames (s.start + N * P) (ahead j x (taken_of (suc j) v es))) j v es
  sends-still es ih s t j x v st ph sh bu ew i lo hi vb on =
      let n : ℕ = s.start + N * P in
      let m : (t.bit + 1) * P ≤ N * P = mul-le-mul_right P (omega (arith, i.bit)) in
      let e : later_of n (suc j) ≡ later_of n j = omega arith in
      subst (λ (fs : List Sent). Clocks (s ∷ []) fs j v es)
      (ap (λ (y : Option ℕ). Frames n (ahead (suc j) y (taken_of (suc j) v es))) bu ∙ waits n j x (taken_of (suc j) v es) (ap (tick_from first.baud) e))
      (sends-on es ih s t j v st ph sh ew i lo hi (rw bu vb) on)

  -- at the tick j the shifter takes what the buffer x holds
  loads : (es : List Event) → Claim es → (lo j : ℕ) (x : Option ℕ) (kept txc : Bool) (v : Usart) → Stays v → Phase first.baud j 0 → v.baud.left.0 ≡ ubrr
      → v.sender ≡ moved_from f x kept txc → lo ≤ j → ValidBuffer f x → OnlyData v es → Clocks [] (Frames lo (ahead j x (taken_of (suc j) v es))) j v es
  loads es ih lo j None kept txc v st ph left eq h vb on =
      let sh : v.sender.shifter ≡ None = ap (λ (y : Sender). y.shifter) eq in
      let bu : v.sender.buffer ≡ None = ap (λ (y : Sender). y.buffer) eq in
      subst (λ (y : Option ℕ). Clocks [] (Frames lo (ahead (suc j) y (taken_of (suc j) v es))) j v es) bu
      (rests es ih lo j v st (rw left (phase-tick first.baud j ph)) sh h (rw bu tt) on)
  loads es ih lo j (Some d) kept txc v st ph left eq h vb on =
      let ts : List Taken = taken_of (suc j) v es in
      let s : Sent = record { start = j; «data» = d } in
      let sh : v.sender.shifter ≡ Some (begun f d) = ap (λ (y : Sender). y.shifter) eq in
      let bu : v.sender.buffer ≡ None = ap (λ (y : Sender). y.buffer) eq in
      let i : InBit (suc j) v.baud.left.0 0 0 j = record { next = omega arith; counter = omega arith; tick = omega (arith, s1); bit = omega arith } in
      let r : Clocks (s ∷ []) (Frames (j + N * P) ts) j v es =
      subst (λ (y : Option ℕ). Clocks (s ∷ []) (Frames (j + N * P) (ahead (suc j) y ts)) j v es) bu
      (sends-on es ih s (begun f d) j v st (rw left (phase-tick first.baud j ph)) sh refl i (omega arith) (omega (arith, p1)) (rw bu tt) on) in
      let now : tick_from first.baud (later_of lo j) ≡ j = let q : tick_from first.baud (later_of lo j) ≡ j + 0 = tick-next first.baud j 0 (later_of lo j) ph (omega arith) (omega arith) in omega arith in
      subst (λ (n : ℕ). Clocks [] (record { start = n; «data» = d } ∷ Frames (n + N * P) ts) j v es) (sym now) (
        r.0,
        record {
          fits = (vb, r.1.fits);
          drives = r.1.drives;
          remains =
              ap (λ (y : Bool). map data_in (pick y (s ∷ not_before (suc j + length (outputs_of v es)) (Frames (j + N * P) ts)) (not_before (suc j + length (outputs_of v es)) (Frames (j + N * P) ts))))
              (lt-leb (suc j + length (outputs_of v es)) j (omega arith))
              ∙ r.1.remains;
        },
      )

  -- a tick with the frame s on the line
  shifts : (es : List Event) → Claim es → (s : Sent) (t : Transmission) (j : ℕ) (u v : Usart) → Stays v → Phase first.baud j 0 → v.baud.left.0 ≡ ubrr
      → t.word ≡ word_of f s.«data» → InBit j 0 t.bit t.sample.0 s.start → ValidBuffer f u.sender.buffer → OnlyData v es
      → v.sender ≡ stepped_of f u.sender t → Clocks (s ∷ []) (Frames (s.start + N * P) (ahead j u.sender.buffer (taken_of (suc j) v es))) j v es
  unfolding stepped_of
  shifts es ih s t j u v st ph left ew i vb on =
      let n : ℕ = s.start in
      let fs : List Sent = Frames (n + N * P) (ahead j u.sender.buffer (taken_of (suc j) v es)) in
      pick_ind (λ (x : Sender). v.sender ≡ x → Clocks (s ∷ []) fs j v es) (ltb t.sample.0 (S - 1)) _ _
      (λ q eq.
      let ht : t.sample.0 + 1 < S = omega (arith, ltb-true t.sample.0 (S - 1) q) in
      let m : (t.sample.0 + 2) * M ≤ S * M = mul-le-mul_right M (omega arith) in
      sends-still es ih s (placed t t.bit (t.sample.0 + 1)) j u.sender.buffer v st (rw left (phase-tick first.baud j ph)) (ap (λ (x : Sender). x.shifter) eq)
      (ap (λ (x : Sender). x.buffer) eq) ew (record { next = omega (arith, i.next); counter = omega arith; tick = ht; bit = i.bit })
      (omega (arith, i.next)) (omega (arith, i.next)) vb on)
      (λ q.
      let et : t.sample.0 + 1 ≡ S = omega (arith, ltb-false t.sample.0 (S - 1) q, i.tick) in
      let m : (t.sample.0 + 1) * M ≡ S * M = ap (λ (x : ℕ). x * M) et in
      pick_ind (λ (x : Sender). v.sender ≡ x → Clocks (s ∷ []) fs j v es) (ltb t.bit (last_bit f)) _ _
      (λ g eq.
      let hb : t.bit + 1 < N = omega (arith, ltb-true t.bit (last_bit f) g) in
      sends-still es ih s (placed t (t.bit + 1) 0) j u.sender.buffer v st (rw left (phase-tick first.baud j ph)) (ap (λ (x : Sender). x.shifter) eq)
      (ap (λ (x : Sender). x.buffer) eq) ew (record { next = omega (arith, i.next); counter = omega arith; tick = omega (arith, s1); bit = hb })
      (omega (arith, i.next)) (omega (arith, i.next, p1)) vb on)
      (λ g eq.
      let hb : N * P ≤ (t.bit + 1) * P = mul-le-mul_right P (omega (arith, ltb-false t.bit (last_bit f) g)) in
      let at : n + N * P ≤ j = omega (arith, i.next) in
      let m2 : (D + 2) * P ≤ N * P = mul-le-mul_right P n2 in
      let r = loads es ih (n + N * P) j u.sender.buffer u.sender.txc true v st ph left eq at vb on in
      let gone : (x : ℕ) → j ≤ x → Line fs x ≡ Line (s ∷ fs) x = λ x h. sym (over f P 1 s fs x (omega arith) (omega arith)) in (
        r.0 ∙ ap (λ (x : Bool). digit x + 16) (gone j (omega arith)),
        record {
          fits = r.1.fits;
          drives = drives-same (Line fs) (Line (s ∷ fs)) (suc j) (outputs_of v es) (λ x h. gone x (omega arith)) r.1.drives;
          remains = r.1.remains;
        },
      )))

  stays-as : (u v : Usart) → v.format ≡ u.format → v.baud.ubrr ≡ u.baud.ubrr → v.control ≡ u.control → Stays u → Stays v
  stays-as u v ef eu ec st = record { format = ef ∙ st.format; rate = eu ∙ st.rate; txen = ap (λ c. c.txen) ec ∙ st.txen }

  -- a clock, by the baud counter before it
  clocked : (es : List Event) → Claim es → (cur : List Sent) (lo j : ℕ) (u : Usart) (l : Bool) → Stays u → (k : ℕ) → u.baud.left.0 ≡ k → Phase first.baud j k → Place u j cur lo
      → ValidBuffer f u.sender.buffer → OnlyData (clock_of u l) es
      → Clocks cur (Frames lo (ahead j u.sender.buffer (taken_of (suc j) (clock_of u l) es))) j (clock_of u l) es
  clocked es ih cur lo j u l st zero left ph pl vb on =
      let v : Usart = clock_of u l in
      let eq = clock-tick u l left in
      let sv : Stays v = stays-as u v (ap (λ (x : Usart). x.format) eq) (ap (λ (x : Usart). x.baud.ubrr) eq) (ap (λ (x : Usart). x.control) eq) st in
      let lv : v.baud.left.0 ≡ ubrr = ap (λ (x : Usart). x.baud.left.0) eq ∙ st.rate in
      let snd : v.sender ≡ shifted_on f u.sender u.sender.shifter =
      ap (λ (x : Usart). x.sender) eq ∙ ap (λ (x : Format). sender_of x u.sender) st.format in
      by cur lo pl sv lv snd
    where
      by : (cur : List Sent) (lo : ℕ) → Place u j cur lo → Stays (clock_of u l) → (clock_of u l).baud.left.0 ≡ ubrr
          → (clock_of u l).sender ≡ shifted_on f u.sender u.sender.shifter
          → Clocks cur (Frames lo (ahead j u.sender.buffer (taken_of (suc j) (clock_of u l) es))) j (clock_of u l) es
      by cur lo (resting sh h) sv lv snd =
          loads es ih lo j u.sender.buffer u.sender.txc u.sender.txc (clock_of u l) sv ph lv (snd ∙ ap (shifted_on f u.sender) sh) h vb on
      by cur lo (sending t s sh ew i) sv lv snd =
          shifts es ih s t j u (clock_of u l) sv ph lv ew (rw left at i) vb on (snd ∙ ap (shifted_on f u.sender) sh)
  clocked es ih cur lo j u l st (suc k) left ph pl vb on =
      let v : Usart = clock_of u l in
      let eq = clock-wait u l k left in
      let sv : Stays v = stays-as u v (ap (λ (x : Usart). x.format) eq) (ap (λ (x : Usart). x.baud.ubrr) eq) (ap (λ (x : Usart). x.control) eq) st in
      by cur lo pl sv (ap (λ (x : Usart). x.baud.left.0) eq) (ap (λ (x : Usart). x.sender) eq)
    where
      by : (cur : List Sent) (lo : ℕ) → Place u j cur lo → Stays (clock_of u l) → (clock_of u l).baud.left.0 ≡ k → (clock_of u l).sender ≡ u.sender
          → Clocks cur (Frames lo (ahead j u.sender.buffer (taken_of (suc j) (clock_of u l) es))) j (clock_of u l) es
      by cur lo (resting sh h) sv lv snd =
          let ts : List Taken = taken_of (suc j) (clock_of u l) es in
          let same-tick : tick_from first.baud (later_of lo (suc j)) ≡ tick_from first.baud (later_of lo j) =
          tick-next first.baud j (suc k) (later_of lo (suc j)) ph (omega arith) (omega arith) ∙ sym (tick-next first.baud j (suc k) (later_of lo j) ph (omega arith) (omega arith)) in
          subst (λ (fs : List Sent). Clocks [] fs j (clock_of u l) es)
          (ap (λ (x : Sender). Frames lo (ahead (suc j) x.buffer ts)) snd ∙ waits lo j u.sender.buffer ts same-tick)
          (rests es ih lo j (clock_of u l) sv (rw lv (phase-wait first.baud j k ph)) (ap (λ (x : Sender). x.shifter) snd ∙ sh) h (rw snd vb) on)
      by cur lo (sending t s sh ew i) sv lv snd =
          let m : (t.sample.0 + 1) * M ≤ S * M = mul-le-mul_right M (omega (arith, i.tick)) in
          sends-still es ih s t j u.sender.buffer (clock_of u l) sv (rw lv (phase-wait first.baud j k ph)) (ap (λ (x : Sender). x.shifter) snd ∙ sh)
          (ap (λ (x : Sender). x.buffer) snd) ew
          (record { next = rw lv (omega (arith, i.next)); counter = rw lv (omega (arith, i.counter)); tick = i.tick; bit = i.bit })
          (omega (arith, i.next, i.counter)) (omega (arith, i.next)) vb on

  -- an event that passes no clock: the buffer may have taken w
  record Aside (u v : Usart) (w : List ℕ) : Type 0 where
    baud : v.baud ≡ u.baud
    format : v.format ≡ u.format
    control : v.control ≡ u.control
    shifter : v.sender.shifter ≡ u.sender.shifter
    buffer : waiting v.sender.buffer ≡ waiting u.sender.buffer ++ w
    valid : ValidBuffer f v.sender.buffer

  same : (u v : Usart) → v ≡ u → ValidBuffer f u.sender.buffer → Aside u v []
  same u v e vb = record {
    baud = ap (λ (x : Usart). x.baud) e;
    format = ap (λ (x : Usart). x.format) e;
    control = ap (λ (x : Usart). x.control) e;
    shifter = ap (λ (x : Usart). x.sender.shifter) e;
    buffer = ap (λ (x : Usart). waiting x.sender.buffer) e ∙ sym (append-nil (waiting u.sender.buffer));
    valid = rw e vb;
  }

  -- a write of UDR0: the buffer takes the data if it is vacant
  filled : (u : Usart) (x : ℕ) → Stays u → ValidBuffer f u.sender.buffer → Aside u (transmitted_of u x) (accepted_by u (write Udr0 x))
  unfolding transmitted_of
  filled u x st vb = rw st.txen (record {
    baud = refl;
    format = refl;
    control = refl;
    shifter = refl;
    buffer = taken u.sender.buffer (data_of u.format (digit u.control.txb8 * 256 + x));
    valid = ok u.sender.buffer vb;
  })
    where
      taken : (b : Option ℕ) (d : ℕ) → waiting (buffer_of b d) ≡ waiting b ++ pick (is_vacant b) (d ∷ []) []
      taken None d = refl
      taken (Some e) d = refl

      ok : (b : Option ℕ) → ValidBuffer f b → ValidBuffer f (buffer_of b (data_of u.format (digit u.control.txb8 * 256 + x)))
      ok None v = rw st.format (mod-lt _ (pow_pos (data_bits f.size)))
      ok (Some e) v = v

  acknowledged : (u : Usart) → ValidBuffer f u.sender.buffer → Aside u (settled u (vector_of u)) []
  unfolding vector_of
  acknowledged u vb =
      pick_ind (λ (w : Result Usart Refusal). Aside u (settled u w) []) (txc_requested u) _ _
      (λ _. record { baud = refl; format = refl; control = refl; shifter = refl; buffer = sym (append-nil (waiting u.sender.buffer)); valid = vb })
      (λ _. same u u refl vb)

  written : (u : Usart) (r : Register) (x : ℕ) → Stays u → ValidBuffer f u.sender.buffer → (is_udr0 r ≡ false → is_refused (write_of u r x) ≡ true)
      → Aside u (next_of u (write r x)) (accepted_by u (write r x))
  written u Ucsr0a x st vb h = same u (next_of u (write Ucsr0a x)) (refused-settled u (write_of u Ucsr0a x) (h refl)) vb
  written u Ucsr0b x st vb h = same u (next_of u (write Ucsr0b x)) (refused-settled u (write_of u Ucsr0b x) (h refl)) vb
  written u Ucsr0c x st vb h = same u (next_of u (write Ucsr0c x)) (refused-settled u (write_of u Ucsr0c x) (h refl)) vb
  written u Ubrr0l x st vb h = same u (next_of u (write Ubrr0l x)) (refused-settled u (write_of u Ubrr0l x) (h refl)) vb
  written u Ubrr0h x st vb h = same u (next_of u (write Ubrr0h x)) (refused-settled u (write_of u Ubrr0h x) (h refl)) vb
  written u Udr0 x st vb h = filled u x st vb

  looked : (u : Usart) (r : Register) → ValidBuffer f u.sender.buffer → Aside u (next_of u (read r)) []
  looked u Ucsr0a vb = same u u refl vb
  looked u Ucsr0b vb = same u u refl vb
  looked u Ucsr0c vb = same u u refl vb
  looked u Ubrr0l vb = same u u refl vb
  looked u Ubrr0h vb = same u u refl vb
  looked u Udr0 vb =
      record { baud = refl; format = refl; control = refl; shifter = refl; buffer = sym (append-nil (waiting u.sender.buffer)); valid = vb }

  -- such an event leaves the frame on the line where it is
  place-as : (u v : Usart) (j : ℕ) (cur : List Sent) (lo : ℕ) (w : List ℕ) → Aside u v w → Place u j cur lo → Place v j cur lo
  place-as u v j cur lo w a (resting sh h) = resting (a.shifter ∙ sh) h
  place-as u v j cur lo w a (sending t s sh ew i) = sending t s (a.shifter ∙ sh) ew (rw a.baud i)

  aside : (es : List Event) → Claim es → (cur : List Sent) (lo j : ℕ) (u v : Usart) (w : List ℕ) → Stays u → Phase first.baud j u.baud.left.0 → Place u j cur lo → Aside u v w
      → OnlyData v es → Makes cur (Frames lo (ahead j u.sender.buffer (map (taken_at j) w ++ taken_of j v es))) j v es
  aside es ih cur lo j u v w st ph pl a on =
      let sv : Stays v = stays-as u v a.format (ap (λ x. x.ubrr) a.baud) a.control st in
      let e : ahead j v.sender.buffer (taken_of j v es) ≡ ahead j u.sender.buffer (map (taken_at j) w ++ taken_of j v es) =
      ap (λ (xs : List ℕ). map (taken_at j) xs ++ taken_of j v es) a.buffer
      ∙ ap (λ (xs : List Taken). xs ++ taken_of j v es) (map-append (taken_at j) (waiting u.sender.buffer) w)
      ∙ append_assoc (map (taken_at j) (waiting u.sender.buffer)) (map (taken_at j) w) (taken_of j v es) in
      subst (λ (ts : List Taken). Makes cur (Frames lo ts) j v es) e (ih cur lo j v sv (rw a.baud ph) (place-as u v j cur lo w a pl) a.valid on)

  -- the list's end: what is in the buffer has not begun
  ends : (cur : List Sent) (lo j : ℕ) (u : Usart) (x : Option ℕ) → u.sender.buffer ≡ x → ValidBuffer f x → Makes cur (Frames lo (ahead j x [])) j u []
  ends cur lo j u None e vb = record { fits = tt; drives = tt; remains = sym (ap waiting e) }
  ends cur lo j u (Some d) e vb =
      let s : Sent = record { start = tick_from first.baud (later_of lo j); «data» = d } in
      record {
        fits = (vb, tt);
        drives = tt;
        remains =
            ap (λ (y : Bool). map data_in (pick y (s ∷ []) [])) (le-leb (j + 0) s.start (omega (arith, tick-from first.baud (later_of lo j)))) ∙ sym (ap waiting e);
      }

  claim : (es : List Event) → Claim es
  claim [] = λ cur lo j u st ph pl vb on. ends cur lo j u u.sender.buffer refl vb
  claim (clock l ∷ es) = λ cur lo j u st ph pl vb on.
      let r = clocked es (claim es) cur lo j u l st u.baud.left.0 refl ph pl vb on in
      let n : ℕ = length (outputs_of (clock_of u l) es) in
      let e : suc j + n ≡ j + suc n = omega arith in
      let fs : List Sent = Frames lo (ahead j u.sender.buffer (taken_of (suc j) (clock_of u l) es)) in
      record {
        fits = r.1.fits;
        drives = (r.0, r.1.drives);
        remains = ap (λ (J : ℕ). map data_in (not_before J fs)) (sym e) ∙ r.1.remains;
      }
  claim (write x v ∷ es) = λ cur lo j u st ph pl vb on.
      let r = aside es (claim es) cur lo j u (next_of u (write x v)) (accepted_by u (write x v)) st ph pl (written u x v st vb on.0) on.1 in
      record { fits = r.fits; drives = r.drives; remains = r.remains }
  claim (read x ∷ es) = λ cur lo j u st ph pl vb on.
      let r = aside es (claim es) cur lo j u (next_of u (read x)) [] st ph pl (looked u x vb) on in
      record { fits = r.fits; drives = r.drives; remains = r.remains }
  claim (vector ∷ es) = λ cur lo j u st ph pl vb on.
      let r = aside es (claim es) cur lo j u (next_of u vector) [] st ph pl (acknowledged u vb) on in
      record { fits = r.fits; drives = r.drives; remains = r.remains }

-- TxD is a line of demand 3, of exactly the frames that the buffer held or took, each begun at its tick
pub sends : (u : Usart) (es : List Event) → MaySend u es → Sends u (taken_of 0 u es) (outputs_of u es) (final_of u es).sender.buffer
sends u es h =
    let f : Format = u.format in
    let ts : List Taken = ahead 0 u.sender.buffer (taken_of 0 u es) in
    let r = claim u es [] 0 0 u (record { format = refl; rate = refl; txen = h.ready.enabled }) (phase-first u.baud) (resting h.ready.resting (omega arith)) h.buffer h.only_data in
    let e : 0 + length (outputs_of u es) ≡ length (outputs_of u es) = omega arith in
    record {
      fits = r.fits;
      spaced = from-spaced (word_bits f) (bit_clocks u) 1 (p1 u) 0 (frames_of u (taken_of 0 u es)) (from-frames u 0 ts);
      drives = r.drives;
      remains = ap (λ (J : ℕ). map data_in (not_before J (frames_of u (taken_of 0 u es)))) (sym e) ∙ r.remains;
    }
