-- What a call answers and leaves, by what its record decodes to.
use Prim.Native.Nat.{ℕ, ◌<◌}
use mathlib.Core.Bool.{Bool, true, false}
use mathlib.Core.List.{List, [], ◌∷◌}
use mathlib.Core.Path.{◌≡◌, refl, sym, ap, ◌∙◌}
use lib.ListN.{length}
use borrow.Author.Tests.{eq-eqb, ne_eqb, lt-ltb}
use Rattle.std.proofs.Common.{Err, Ok, Result, IsErrAnd, MatchResult}
use Rattle.choice.specs.Pick.{pick}
use Rattle.answer.specs.Number.{number_of, number_in, value_or}
use Rattle.answer.specs.declared.Refusal.{Refusal}
use Rattle.answer.specs.declared.Refusal.TheVariants.{Record}
use Rattle.answer.specs.declared.Reading.{Reading}
use Rattle.device.specs.Outcome.{answer_of}
use Rattle.device.specs.Register.{write_of, read_of, vector_of}
use Rattle.device.specs.Run.{ran_of, outputs_of, are_levels, shown}
use Rattle.device.specs.Unit.{reset_device, clock_of, output_of, clocked_of}
use Rattle.device.specs.declared.unit.Device.{Device}
use Rattle.device.proofs.CountingLaws.{counted-clock, counted-output}
use Rattle.record.specs.Layout.{record_length}
use Rattle.record.specs.Lift.{device_at}
use Rattle.record.specs.Codec.{decode_of, record_of, stored_over}
use Rattle.record.specs.Kept.{kept, put_back, put_back_read}
use Rattle.record.specs.InPlace.{stepped_of, stepped_over}
use Rattle.record.specs.Accepts.{is_record}
use Rattle.record.specs.Report.{report_of}
use Rattle.record.specs.declared.in_place.Stepped.{Stepped}
use Rattle.record.specs.declared.in_place.Stepped.TheVariants.{Counted, Due}
use Rattle.record.proofs.Round.{decode-length, stored}
use Rattle.record.proofs.KeptLaws.{came, kept-as, kept-as-read}
use Rattle.record.proofs.StepLaws.{counted-from, due-from, refused-from}
use Rattle.warpmagpie.specs.Calls.{reset_on, reset_answer, record_after_reset, write_on, record_after_write, read_on, record_after_read, vector_on, record_after_vector, run_on, outputs_on, clock_on, output_in, run_answer, record_after_run, outputs_after_run, query_answer_on, query_value_on}

module _ (s : List ℕ) where
  module _ {t : Result Device Refusal} (p : t ≡ decode_of s) where
    pub written : (a v : ℕ) {w : Result Device Refusal} {P : Device → Type 0} → MatchResult t P (λ r. w ≡ Err r) → ((d : Device) → P d → w ≡ write_of d a v)
        → (w ≡ write_on (decode_of s) a v) × (put_back w s ≡ record_after_write s a v)
    unfolding write_on
    written a v m says =
        let e = came (λ x. write_on x a v) (λ r. refl) t p m says in
        (e, ap (λ x. put_back x s) e ∙ kept-as s (λ x. write_on x a v) (λ r. refl))

    pub read : {d : Device} → t ≡ Ok d → (a : ℕ) {g : Result (Reading Device) Refusal} → g ≡ read_of d a
        → (g ≡ read_on (decode_of s) a) × (put_back_read g s ≡ record_after_read s a)
    unfolding read_on
    read {d} q a {g} e =
        let k : g ≡ read_on (decode_of s) a = e ∙ ap (λ x. read_on x a) (sym q ∙ p) in
        (k, ap (λ x. put_back_read x s) k ∙ kept-as-read s (λ x. read_on x a) (λ r. refl))

    pub not-read : {r : Refusal} → t ≡ Err r → (a : ℕ) → ◌≡◌ {A = Result (Reading Device) Refusal} (Err r) (read_on (decode_of s) a)
    unfolding read_on
    not-read q a = ap (λ x. read_on x a) (sym q ∙ p)

    pub taken : (i : ℕ) {w : Result Device Refusal} {P : Device → Type 0} → MatchResult t P (λ r. w ≡ Err r) → ((d : Device) → P d → w ≡ vector_of d i)
        → (w ≡ vector_on (decode_of s) i) × (put_back w s ≡ record_after_vector s i)
    unfolding vector_on
    taken i m says =
        let e = came (λ x. vector_on x i) (λ r. refl) t p m says in
        (e, ap (λ x. put_back x s) e ∙ kept-as s (λ x. vector_on x i) (λ r. refl))

  pub run_kept : (ls os : List ℕ) → put_back (run_on (decode_of s) ls os) s ≡ record_after_run s ls os
  unfolding run_on
  run_kept ls os = kept-as s (λ x. run_on x ls os) (λ r. refl)

-- k is what a reset compares the length with
pub reset-refused : (s : List ℕ) {k n : ℕ} → (length s ≡ k → ⊥) → k ≡ record_length → n ≡ number_of Record → (n ≡ reset_answer s) × (s ≡ record_after_reset s)
unfolding reset_on
reset-refused s h e r = rw (ne_eqb (length s) record_length (λ z. h (z ∙ sym e))) (r, refl)

pub reset-done : (s : List ℕ) {s' : List ℕ} {d : Device} {k : ℕ} → length s ≡ k → k ≡ record_length → d ≡ reset_device → s' ≡ stored_over d s
    → (0 ≡ reset_answer s) × (s' ≡ record_after_reset s)
unfolding reset_on
reset-done s {s'} {d} h e hd hs = rw (eq-eqb (length s) record_length (h ∙ e)) (refl, hs ∙ stored d s (h ∙ e) ∙ ap record_of hd)

-- what one clock leaves of a record, and what it shows
abbrev pub ClockIs : List ℕ → ℕ → Result ℕ Refusal → List ℕ → Type 0
ClockIs s l r s' = (r ≡ output_in (clock_on (decode_of s) l) l) × (s' ≡ kept s (clock_on (decode_of s) l))

-- by what `count` came to
module _ (s : List ℕ) (l : ℕ) {r : Result Stepped Refusal} (p : r ≡ stepped_of s l) {s' : List ℕ} (hs : s' ≡ stepped_over s l) where
  passed : (d : Device) {o : ℕ} {s'' : List ℕ} → decode_of s ≡ Ok d → o ≡ output_of (clock_of d l) l → s'' ≡ record_of (clock_of d l) → ClockIs s l (Ok o) s''
  unfolding clock_on
  passed d e ho hs = rw e (ap Ok ho, hs)

  pub counted : {o : ℕ} → r ≡ Ok (Counted o) → ClockIs s l (Ok o) s'
  counted {o} q =
      let c = counted-from s l p q in
      let e = sym (counted-clock (device_at s) l c.counting) in
      passed (device_at s) c.decoded (c.output ∙ sym (counted-output (device_at s) l) ∙ ap (λ d. output_of d l) e) (hs ∙ c.after ∙ ap record_of e)

  pub due : {d : Device} {c : Reading Device} {s'' : List ℕ} → r ≡ Ok (Due d) → c ≡ clocked_of d l → s'' ≡ stored_over c.after s' → ClockIs s l (Ok c.value) s''
  due {d} {c} q hc hr =
      let f = due-from s l p q in
      let n : length s' ≡ record_length = ap length (hs ∙ f.1) ∙ decode-length s d f.0 in
      passed d f.0 (ap (λ (x : Reading Device). x.value) hc) (hr ∙ stored c.after s' n ∙ ap (λ (x : Reading Device). record_of x.after) hc)

  pub none : {why : Refusal} {x : Result ℕ Refusal} → r ≡ Err why → IsErrAnd x (λ e. e ≡ why) → ClockIs s l x s'
  unfolding clock_on
  none {why} {x} q e = let f = refused-from s l p q in rw f.0 (error x e, hs ∙ f.1)
    where
      error : (x : Result ℕ Refusal) → IsErrAnd x (λ e. e ≡ why) → x ≡ Err why
      error (Ok o) e = absurd e
      error (Err r) e = ap Err e

-- a run of one clock, whose level is one and whose output slice fits
pub one-clock : (s : List ℕ) (l o : ℕ) → l < 32 → {r : Result ℕ Refusal} {n o' : ℕ} {s' : List ℕ} → ClockIs s l r s' → n ≡ number_in r → o' ≡ value_or o r
    → (n ≡ run_answer s (l ∷ []) (o ∷ [])) × ((s' ≡ record_after_run s (l ∷ []) (o ∷ [])) × (o' ∷ [] ≡ outputs_after_run s (l ∷ []) (o ∷ [])))
unfolding run_on outputs_on clock_on are_levels ran_of outputs_of
one-clock s l o low {r} {n} {o'} {s'} c hn ho = by (decode_of s) c.0 c.1
  where
    by : (t : Result Device Refusal) → r ≡ output_in (clock_on t l) l → s' ≡ kept s (clock_on t l)
        → (n ≡ answer_of (run_on t (l ∷ []) (o ∷ []))) × ((s' ≡ kept s (run_on t (l ∷ []) (o ∷ []))) × (o' ∷ [] ≡ shown (o ∷ []) (outputs_on t (l ∷ [])) (run_on t (l ∷ []) (o ∷ []))))
    by (Ok d) e hs = rw (lt-ltb l 32 low) (hn ∙ ap number_in e, (hs, ap (λ x. x ∷ []) (ho ∙ ap (value_or o) e)))
    by (Err why) e hs = (hn ∙ ap number_in e, (hs, ap (λ x. x ∷ []) (ho ∙ ap (value_or o) e)))

-- a query: record and report are tested alike
pub told : (asked : Device → ℕ) (s : List ℕ)
    → (number_in (report_of asked s) ≡ query_answer_on (decode_of s)) × (value_or 0 (report_of asked s) ≡ query_value_on asked (decode_of s))
unfolding report_of decode_of query_answer_on query_value_on
told asked s = by (is_record s)
  where
    by : (t : Bool)
        → (number_in (pick t (Ok (asked (device_at s))) (Err Record)) ≡ query_answer_on (pick t (Ok (device_at s)) (Err Record)))
        × (value_or 0 (pick t (Ok (asked (device_at s))) (Err Record)) ≡ query_value_on asked (pick t (Ok (device_at s)) (Err Record)))
    by true = (refl, refl)
    by false = (refl, refl)

pub told_is : (asked : Device → ℕ) (s : List ℕ) {r : Result ℕ Refusal} {n v : ℕ} → r ≡ report_of asked s → n ≡ number_in r → v ≡ value_or 0 r
    → (n ≡ query_answer_on (decode_of s)) × (v ≡ query_value_on asked (decode_of s))
told_is asked s p hn hv = let t = told asked s in (hn ∙ ap number_in p ∙ t.0, hv ∙ ap (value_or 0) p ∙ t.1)
