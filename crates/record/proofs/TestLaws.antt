-- The tests of `accepts`, part by part: each holds of what a valid part's bytes say, and bytes of which it holds say a
-- valid part, whose bytes they are. Assumes nothing.
use Prim.Native.Nat.{ℕ, ◌+◌, ◌^◌, ◌<◌, ◌≤◌}
use mathlib.Core.Bool.{Bool, true, false, not, ◌&&◌}
use mathlib.Core.Path.{◌≡◌, refl, sym}
use native.Mathlib.Omega.{arith}
use lib.Dec.{eqb, ltb, leb}
use borrow.Author.Tests.{eqb-true, ltb-true, leb-true, eq-eqb, ne_eqb, lt-ltb, le-leb, not-true}
use Rattle.std.proofs.Common.{None, Option, Some}
use Rattle.choice.specs.Pick.{pick}
use Rattle.choice.proofs.Picks.{pick_ind, both, clash}
use Rattle.frame.specs.Format.{samples, first_vote, word_bits, last_bit}
use Rattle.frame.specs.Word.{word_of}
use Rattle.frame.specs.declared.format.Format.{Format}
use Rattle.usart.specs.Sender.{is_vacant, is_resting}
use Rattle.usart.specs.Sampler.{is_receiving}
use Rattle.usart.specs.Valid.{ValidBuffer, ValidShifter, ValidReception, ValidSampler}
use Rattle.usart.specs.declared.baud.Baud.{Baud}
use Rattle.usart.specs.declared.sender.Transmission.{Transmission}
use Rattle.usart.specs.declared.sampler.Reception.{Reception}
use Rattle.usart.specs.declared.sampler.Sampler.{Sampler}
use Rattle.usart.specs.declared.sampler.Sampler.TheVariants.{Idle, Receiving}
use Rattle.record.specs.Parts.{buffer_data, buffer_from, transmission_in, shifter_from, remembered_in, reception_in, sampler_from}
use Rattle.record.specs.Accepts.{counter_fits, buffer_fits, is_no_transmission, shifter_fits, reception_within, is_undecided, first_fits, second_fits, splits_fit, rest_fits, reception_fits, is_no_reception, sampler_fits}
use Rattle.record.proofs.ListLaws.{and_both, and-pair}

-- tests joined by &&
pub three : (a b c : Bool) → a && b && c ≡ true → (a ≡ true) × ((b ≡ true) × (c ≡ true))
three a b c h = let p = and_both (a && b) c h in let q = and_both a b p.0 in (q.0, (q.1, p.1))

pub and-three : (a b c : Bool) → a ≡ true → b ≡ true → c ≡ true → a && b && c ≡ true
and-three a b c h k l = and-pair (a && b) c (and-pair a b h k) l

-- a choice that holds, where its test is known
pub on-true : (t a b : Bool) → pick t a b ≡ true → t ≡ true → a ≡ true
on-true true a b h e = h
on-true false a b h e = clash e refl

pub on-false : (t a b : Bool) → pick t a b ≡ true → t ≡ false → b ≡ true
on-false true a b h e = clash refl e
on-false false a b h e = h

pub either : (t a b : Bool) → (t ≡ true → a ≡ true) → (t ≡ false → b ≡ true) → pick t a b ≡ true
either t a b f g = pick_ind (λ (x : Bool). x ≡ true) t a b f g

-- the baud counter: t and r say that a frame is being sent or received

pub counter-fits : (t r : Bool) (b : Baud) → (pick t true r ≡ true → b.left.0 ≤ b.ubrr) → counter_fits t r b ≡ true
unfolding counter_fits
counter-fits true r b h = le-leb _ _ (h refl)
counter-fits false true b h = le-leb _ _ (h refl)
counter-fits false false b h = refl

pub counter-valid : (t r : Bool) (b : Baud) → counter_fits t r b ≡ true → pick t true r ≡ true → b.left.0 ≤ b.ubrr
unfolding counter_fits
counter-valid true r b h e = leb-true _ _ h
counter-valid false true b h e = leb-true _ _ h
counter-valid false false b h e = clash e refl

-- the transmit buffer

pub buffer-fits : (f : Format) (b : Option ℕ) → ValidBuffer f b → buffer_fits f (not (is_vacant b)) (buffer_data b) ≡ true
unfolding buffer_fits
buffer-fits f None v = refl
buffer-fits f (Some d) v = lt-ltb _ _ v

pub buffer-valid : (f : Format) (full : Bool) (d : ℕ) → buffer_fits f full d ≡ true → ValidBuffer f (buffer_from full d)
unfolding buffer_fits buffer_from
buffer-valid f true d h = ltb-true _ _ h
buffer-valid f false d h = tt

pub buffer-shown : (f : Format) (full : Bool) (d : ℕ) → buffer_fits f full d ≡ true
    → (not (is_vacant (buffer_from full d)) ≡ full) × (buffer_data (buffer_from full d) ≡ d)
unfolding buffer_fits buffer_from
buffer-shown f true d h = (refl, refl)
buffer-shown f false d h = (refl, sym (eqb-true d 0 h))

-- the frame being sent

pub shifter-fits : (f : Format) (s : Option Transmission) → ValidShifter f s → shifter_fits f (not (is_resting s)) (transmission_in s) ≡ true
unfolding shifter_fits
shifter-fits f None v = refl
shifter-fits f (Some t) v =
    and-three _ _ _ (eq-eqb (word_of f t.word) t.word v.word) (le-leb t.bit (last_bit f) v.bit) (lt-ltb t.sample.0 (samples f) v.sample)

pub shifter-valid : (f : Format) (sending : Bool) (t : Transmission) → shifter_fits f sending t ≡ true → ValidShifter f (shifter_from sending t)
unfolding shifter_fits shifter_from
shifter-valid f true t h =
    let w = three (eqb (word_of f t.word) t.word) (leb t.bit (last_bit f)) (ltb t.sample.0 (samples f)) h in
    record { word = eqb-true _ _ w.0; bit = leb-true _ _ w.1.0; sample = ltb-true _ _ w.1.1 }
shifter-valid f false t h = tt

-- what bytes of 0 say
no-transmission : (t : Transmission) → is_no_transmission t ≡ true → transmission_in None ≡ t
no-transmission t h =
    let w = three (eqb t.word 0) (eqb t.bit 0) (eqb t.sample.0 0) h in
    rw (eqb-true t.word 0 w.0, eqb-true t.bit 0 w.1.0, eqb-true t.sample.0 0 w.1.1)

pub shifter-shown : (f : Format) (sending : Bool) (t : Transmission) → shifter_fits f sending t ≡ true
    → (not (is_resting (shifter_from sending t)) ≡ sending) × (transmission_in (shifter_from sending t) ≡ t)
unfolding shifter_fits shifter_from
shifter-shown f true t h = (refl, refl)
shifter-shown f false t h = (refl, no-transmission t h)

-- the frame being received

module _ (f : Format) (r : Reception) where
  undecided-fits : ValidReception f r → is_undecided f r ≡ true
  unfolding is_undecided
  undecided-fits v =
      either (eqb r.bit 0) _ _ (λ e. le-leb 1 r.sample.0 (v.start (eqb-true _ _ e)))
      (λ _. either (eqb r.bit (word_bits f + 1)) _ _ (λ e. le-leb r.sample.0 (first_vote f + 1) (v.stop (eqb-true _ _ e))) (λ _. refl))

  first_fits_lem : ValidReception f r → first_fits f r ≡ true
  unfolding first_fits
  first_fits_lem v = either r.first _ _ (λ e. and-pair _ _ (le-leb _ _ (v.first e).0) (lt-ltb _ _ (v.first e).1)) (λ _. refl)

  second_fits_lem : ValidReception f r → second_fits f r ≡ true
  unfolding second_fits
  second_fits_lem v = either r.second _ _ (λ e. eq-eqb _ _ (v.second e)) (λ _. refl)

  reception-fits : ValidReception f r → reception_fits f r ≡ true
  unfolding reception_fits
  reception-fits v =
      either (reception_within f r) _ _
      (λ _. either (is_undecided f r) _ _
      (λ _. either (first_fits f r) _ _
      (λ _. either (second_fits f r) _ _
      (λ _. either (splits_fit f r) _ _ (λ _. eq-eqb _ _ v.rest) (λ e. clash (le-leb _ _ v.splits) e))
      (λ e. clash (second_fits_lem v) e))
      (λ e. clash (first_fits_lem v) e))
      (λ e. clash (undecided-fits v) e))
      (λ e. clash (and-three _ _ _ (lt-ltb _ _ v.word) (le-leb _ _ v.bit) (lt-ltb _ _ v.sample)) e)

  begun : is_undecided f r ≡ true → r.bit ≡ 0 → 1 ≤ r.sample.0
  unfolding is_undecided
  begun h e = leb-true 1 r.sample.0 (on-true (eqb r.bit 0) _ _ h (eq-eqb r.bit 0 e))

  pending : is_undecided f r ≡ true → r.bit ≡ word_bits f + 1 → r.sample.0 ≤ first_vote f + 1
  unfolding is_undecided
  pending h e =
      let n : r.bit ≡ 0 → ⊥ = λ z. omega arith in
      let k = on-false (eqb r.bit 0) _ _ h (ne_eqb r.bit 0 n) in
      leb-true r.sample.0 (first_vote f + 1) (on-true (eqb r.bit (word_bits f + 1)) _ _ k (eq-eqb r.bit (word_bits f + 1) e))

  first-valid : first_fits f r ≡ true → r.first ≡ true → (first_vote f ≤ r.sample.0) × (r.sample.0 < first_vote f + 2)
  unfolding first_fits
  first-valid h e =
      let p = and_both (leb (first_vote f) r.sample.0) (ltb r.sample.0 (first_vote f + 2)) (on-true r.first _ _ h e) in
      (leb-true _ _ p.0, ltb-true _ _ p.1)

  second-valid : second_fits f r ≡ true → r.second ≡ true → r.sample.0 ≡ first_vote f + 1
  unfolding second_fits
  second-valid h e = eqb-true _ _ (on-true r.second _ _ h e)

  reception-valid : reception_fits f r ≡ true → ValidReception f r
  unfolding reception_fits
  reception-valid h =
      let a = both (reception_within f r) _ h in
      let b = both (is_undecided f r) _ a.1 in
      let c = both (first_fits f r) _ b.1 in
      let d = both (second_fits f r) _ c.1 in
      let k = both (splits_fit f r) (rest_fits f r) d.1 in
      let w = three (ltb r.word (2 ^ word_bits f)) (leb r.bit (word_bits f + 1)) (ltb r.sample.0 (samples f)) a.0 in
      record {
        word = ltb-true _ _ w.0;
        bit = leb-true _ _ w.1.0;
        sample = ltb-true _ _ w.1.1;
        start = begun b.0;
        stop = pending b.0;
        rest = eqb-true _ _ k.1;
        first = first-valid c.0;
        second = second-valid d.0;
        splits = leb-true _ _ k.0;
      }

pub sampler-fits : (f : Format) (s : Sampler) → ValidSampler f s → sampler_fits f (is_receiving s) (remembered_in s) (reception_in s) ≡ true
unfolding sampler_fits
sampler-fits f (Idle last) v = refl
sampler-fits f (Receiving r) v = reception-fits f r v

pub sampler-valid : (f : Format) (receiving last : Bool) (r : Reception) → sampler_fits f receiving last r ≡ true → ValidSampler f (sampler_from receiving last r)
unfolding sampler_fits sampler_from
sampler-valid f true true r h = clash h refl
sampler-valid f true false r h = reception-valid f r h
sampler-valid f false last r h = tt

no-reception : (r : Reception) → is_no_reception r ≡ true → reception_in (Idle false) ≡ r
no-reception r h =
    let c = and_both (eqb r.bit 0 && eqb r.sample.0 0 && not r.first && not r.second && eqb r.word 0) (eqb r.splits 0) h in
    let a = and_both (eqb r.bit 0 && eqb r.sample.0 0 && not r.first && not r.second) (eqb r.word 0) c.0 in
    let b = and_both (eqb r.bit 0 && eqb r.sample.0 0 && not r.first) (not r.second) a.0 in
    let w = three (eqb r.bit 0) (eqb r.sample.0 0) (not r.first) b.0 in
    rw (
      eqb-true r.bit 0 w.0,
      eqb-true r.sample.0 0 w.1.0,
      not-true r.first w.1.1,
      not-true r.second b.1,
      eqb-true r.word 0 a.1,
      eqb-true r.splits 0 c.1,
    )

pub sampler-shown : (f : Format) (receiving last : Bool) (r : Reception) → sampler_fits f receiving last r ≡ true → let s = sampler_from receiving last r in
    (is_receiving s ≡ receiving) × ((remembered_in s ≡ last) × (reception_in s ≡ r))
unfolding sampler_fits sampler_from
sampler-shown f true true r h = clash h refl
sampler-shown f true false r h = (refl, (refl, refl))
sampler-shown f false last r h = (refl, (refl, no-reception r h))
