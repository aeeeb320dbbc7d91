-- One call on an accepted record, and induction over a list of calls.
use Prim.Native.Nat.{ℕ}
use mathlib.Core.Bool.{Bool, true, false}
use mathlib.Core.List.{List, [], ◌∷◌}
use mathlib.Core.Path.{◌≡◌, refl, sym, ap, subst, ◌∙◌}
use lib.Dec.{eqb, ltb}
use lib.ListN.{length, replicate}
use borrow.Author.Tests.{eq-eqb}
use Rattle.std.proofs.Common.{Err, Ok, Result}
use Rattle.choice.specs.Pick.{pick}
use Rattle.answer.specs.declared.Refusal.TheVariants.{Record, Length, Level}
use Rattle.device.specs.Outcome.{answer_of, read_answer_of, settled, read_settled}
use Rattle.device.specs.Holding.{last_of}
use Rattle.device.specs.Unit.{reset_device}
use Rattle.device.specs.Register.{write_of, read_of, vector_of}
use Rattle.device.specs.Run.{ran_of, outputs_of, are_levels, shown}
use Rattle.device.specs.Valid.{Valid}
use Rattle.device.specs.declared.unit.Device.{Device}
use Rattle.device.proofs.ValidLaws.{valid-reset, valid-write, valid-read, valid-vector, valid-run}
use Rattle.record.specs.Layout.{record_length}
use Rattle.record.specs.Kept.{kept, kept_by_read}
use Rattle.record.specs.Codec.{record_of, decode_of}
use Rattle.record.proofs.Round.{decode-record, decode-valid, decode-length}
use Rattle.warpmagpie.specs.Calls.{reset_on, write_on, read_on, vector_on, run_on, outputs_on}
use Rattle.holding.specs.Hold.{hold_in, hold_on}
use Rattle.history.specs.Call.{Passing, run, hold, query, Call, reset, write, read, vector, pass, Effect, no_clocks, passed, effect, record_after, ByteCall, Bytes}
use Rattle.answer.specs.declared.Refusal.{Refusal}
use Rattle.answer.specs.declared.Reading.{Reading}

-- a call that comes to w leaves the record of the device that w leaves
kept-is : (s : List ℕ) (d : Device) (w : Result Device Refusal) → decode_of s ≡ Ok d → Valid (settled d w) → decode_of (kept s w) ≡ Ok (settled d w)
kept-is s d (Ok e) h v = decode-record e v
kept-is s d (Err r) h v = h

kept-by-read : (s : List ℕ) (d : Device) (g : Result (Reading Device) Refusal) → decode_of s ≡ Ok d → Valid (read_settled d g) → decode_of (kept_by_read s g) ≡ Ok (read_settled d g)
kept-by-read s d (Ok g) h v = decode-record g.after v
kept-by-read s d (Err r) h v = h

-- on a slice as long as a record reset is done
pub reset-done : (s : List ℕ) → length s ≡ record_length → reset_on s ≡ Ok reset_device
unfolding reset_on
reset-done s e = ap (λ (t : Bool). pick t (Ok reset_device) (Err Record)) (eq-eqb (length s) record_length e)

-- the device after a call
abbrev pub next_device : List ℕ → Device → Call → Device
next_device s d reset = reset_device
next_device s d (write a v) = settled d (write_of d a v)
next_device s d (read a) = read_settled d (read_of d a)
next_device s d (vector n) = settled d (vector_of d n)
next_device s d (pass p) = ran_of d (effect s (pass p)).levels

-- the one law of what passes clocks, on a record of d: it leaves the record of d run over its levels, whose outputs it
-- has
pub record Passes (d : Device) (e : Effect) : Type 0 where
  pub after : decode_of e.after ≡ Ok (ran_of d e.levels)
  pub outputs : e.outputs ≡ outputs_of d e.levels

-- what the calls come to on a record of d
module _ (s : List ℕ) (d : Device) (h : decode_of s ≡ Ok d) where
  pub write-on : (a v : ℕ) → write_on (decode_of s) a v ≡ write_of d a v
  unfolding write_on
  write-on a v = ap (λ (x : Result Device Refusal). write_on x a v) h

  pub read-on : (a : ℕ) → read_on (decode_of s) a ≡ read_of d a
  unfolding read_on
  read-on a = ap (λ (x : Result Device Refusal). read_on x a) h

  pub vector_on_lem : (n : ℕ) → vector_on (decode_of s) n ≡ vector_of d n
  unfolding vector_on
  vector_on_lem n = ap (λ (x : Result Device Refusal). vector_on x n) h

  abbrev valid : Valid d
  valid = decode-valid s d h

  -- a call that passes no clock, and one that has run d over ls
  none_passed : (n : ℕ) → Passes d (no_clocks n s)
  unfolding ran_of outputs_of
  none_passed n = record { after = h; outputs = refl }

  done-passed : (ls : List ℕ) → Passes d (passed 0 (record_of (ran_of d ls)) ls (outputs_of d ls))
  done-passed ls = record { after = decode-record (ran_of d ls) (valid-run d ls valid); outputs = refl }

  -- a run, by its tests: of the lengths, and of the levels
  ran : (ls os : List ℕ) (even low : Bool) (w : Result Device Refusal) → w ≡ pick even (pick low (Ok (ran_of d ls)) (Err Level)) (Err Length)
      → Passes d (passed (answer_of w) (kept s w) ls (shown os (outputs_of d ls) w))
  ran ls os true true w e = rw e (done-passed ls)
  ran ls os true false w e = rw e (none_passed 7)
  ran ls os false low w e = rw e (none_passed 6)

  -- a hold, by the test of its level
  held : (ls : List ℕ) (o : ℕ) (low : Bool) (g : Result (Reading Device) Refusal) → g ≡ pick low (Ok (record { value = o; after = ran_of d ls })) (Err Level)
      → Passes d (passed (read_answer_of g) (kept_by_read s g) ls (outputs_of d ls))
  held ls o true g e = rw e (done-passed ls)
  held ls o false g e = rw e (none_passed 7)

  pub passes : (p : Passing) → Passes d (effect s (pass p))
  unfolding run_on outputs_on hold_on hold_in
  passes (run ls os) =
      subst (λ (x : Result Device Refusal). Passes d (passed (answer_of (run_on x ls os)) (kept s (run_on x ls os)) ls (shown os (outputs_on x ls) (run_on x ls os)))) (sym h)
      (ran ls os (eqb (length os) (length ls)) (are_levels ls) (run_on (Ok d) ls os) refl)
  passes (hold l n) =
      let ls : List ℕ = replicate n l in
      subst (λ (x : Result Device Refusal). Passes d (passed (read_answer_of (hold_on x l n)) (kept_by_read s (hold_on x l n)) ls (outputs_on x ls))) (sym h)
      (held ls (last_of 0 (outputs_of d ls)) (ltb l 32) (hold_on (Ok d) l n) refl)
  passes (query q) = none_passed (q s)

  -- every call leaves a record of the next device
  pub step : (c : Call) → ByteCall c → decode_of (record_after s c) ≡ Ok (next_device s d c)
  step reset p = ap (λ (w : Result Device Refusal). decode_of (kept s w)) (reset-done s (decode-length s d h)) ∙ decode-record reset_device valid-reset
  step (write a v) p = ap (λ (w : Result Device Refusal). decode_of (kept s w)) (write-on a v) ∙ kept-is s d (write_of d a v) h (valid-write d a v p valid)
  step (read a) p = ap (λ (g : Result (Reading Device) Refusal). decode_of (kept_by_read s g)) (read-on a) ∙ kept-by-read s d (read_of d a) h (valid-read d a valid)
  step (vector n) p = ap (λ (w : Result Device Refusal). decode_of (kept s w)) (vector_on_lem n) ∙ kept-is s d (vector_of d n) h (valid-vector d n valid)
  step (pass p) q = (passes p).after

-- what holds of no call, and of a call if it holds of the rest from where the call ends, holds of every list
pub induct : (P : List ℕ → List Call → Type 0)
    → ((s : List ℕ) (d : Device) → decode_of s ≡ Ok d → P s [])
    → ((s : List ℕ) (d : Device) (h : decode_of s ≡ Ok d) (c : Call) (cs : List Call) → decode_of (record_after s c) ≡ Ok (next_device s d c) → P (record_after s c) cs → P s (c ∷ cs))
    → (s : List ℕ) (d : Device) (cs : List Call) → decode_of s ≡ Ok d → Bytes cs → P s cs
induct P nil cons s d [] h p = nil s d h
induct P nil cons s d (c ∷ cs) h p =
    let e = step s d h c p.0 in cons s d h c cs e (induct P nil cons (record_after s c) (next_device s d c) cs e p.1)
