-- The replay of a trace is the calls that the trace names, made on the record.
use Prim.Native.Nat.{ℕ, zero, suc, ◌≤◌}
use mathlib.Core.Bool.{true, false}
use mathlib.Core.List.{List, [], ◌∷◌, ◌++◌, map}
use mathlib.Core.Path.{◌≡◌, refl, sym, ap, ◌∙◌}
use native.Mathlib.Omega.{arith}
use lib.Dec.{eqb}
use lib.ListN.{length, replicate, length-replicate}
use borrow.Author.Tests.{eq-eqb, ne_eqb, lt-ltb}
use Rattle.std.proofs.Common.{Ok, Result}
use Rattle.choice.specs.Pick.{pick}
use Rattle.device.specs.Outcome.{answer_of, read_answer_of, value_of}
use Rattle.device.specs.Register.{write_of, read_of, vector_of}
use Rattle.device.specs.Run.{ran_of, are_levels}
use Rattle.device.specs.Unit.{reset_device}
use Rattle.device.specs.declared.unit.Device.{Device}
use Rattle.device.proofs.HoldingLaws.{held-ran}
use Rattle.trace.specs.Text.{InRange, AllInRange}
use Rattle.trace.specs.declared.item.Item.{Item}
use Rattle.trace.specs.declared.item.Item.TheVariants.{Write, Read, Vector, Clocks}
use Rattle.playback.specs.Replay.{step_of, replay_of, outcome_number, outcome_line}
use Rattle.playback.specs.Meaning.{after_items, Agrees, AllAgree}
use Rattle.playback.specs.declared.replaying.Replayed.{Replayed}
use Rattle.playback.proofs.ReplayLaws.{replays}
use Rattle.record.specs.Codec.{record_of, decode_of}
use Rattle.record.specs.Layout.{record_length}
use Rattle.record.proofs.Round.{record-decode}
use Rattle.warpmagpie.specs.Calls.{record_after_reset, write_answer, read_answer, read_value, vector_answer, run_on}
use Rattle.history.specs.Call.{pass, run, effect, record_after, final_record, ByteCall}
use Rattle.history.specs.Replaying.{call_of, Answered, AllAnswered, record_after_items, Answers, Replaying}
use Rattle.history.proofs.StepLaws.{write-on, read-on, vector_on_lem, step}
use Rattle.history.proofs.Reached.{reset-record}
use Rattle.answer.specs.declared.Refusal.{Refusal}

-- a run of equal level bytes is done
levels-low : (c l : ℕ) → l ≤ 31 → are_levels (replicate c l) ≡ true
unfolding are_levels
levels-low zero l h = refl
levels-low (suc c) l h = rw (lt-ltb l 32 (omega arith)) (levels-low c l h)

-- an item on the record s of the device d, and its call there
record Steps (s : List ℕ) (d : Device) (i : Item) : Type 0 where
  after : decode_of (record_after s (call_of i)) ≡ Ok (step_of d i).device
  agrees : Answered s i → Agrees d i
  answered : Agrees d i → Answered s i

byte-call : (i : Item) → InRange i → ByteCall (call_of i)
byte-call (Write a v n) r = omega (arith, r.1)
byte-call (Read a v n) r = tt
byte-call (Vector k n) r = tt
byte-call (Clocks l c) r = tt

module _ (s : List ℕ) (d : Device) (h : decode_of s ≡ Ok d) where
  run-passed : (l c : ℕ) → l ≤ 31 → (effect s (pass (run (replicate c l) (replicate c 0)))).levels ≡ replicate c l
  unfolding run_on
  run-passed l c r =
      let zeros : List ℕ = replicate c 0 in
      let even : length zeros ≡ length (replicate c l) = length-replicate c 0 ∙ sym (length-replicate c l) in
      let w : run_on (decode_of s) (replicate c l) (replicate c 0) ≡ Ok (ran_of d (replicate c l)) =
      ap (λ (x : Result Device Refusal). run_on x (replicate c l) (replicate c 0)) h ∙ (rw (eq-eqb _ _ even, levels-low c l r)) in
      ap (λ (x : Result Device Refusal). pick (eqb (answer_of x) 0) (replicate c l) []) w

  steps : (i : Item) → InRange i → Steps s d i
  unfolding step_of
  steps (Write a v n) r =
      let e : write_answer s a v ≡ answer_of (write_of d a v) = ap answer_of (write-on s d h a v) in
      record {
        after = step s d h (call_of (Write a v n)) (byte-call (Write a v n) r);
        agrees = λ q. sym e ∙ q;
        answered = λ q. e ∙ q;
      }
  steps (Read a v n) r =
      let e : read_answer s a ≡ read_answer_of (read_of d a) = ap read_answer_of (read-on s d h a) in
      let f : read_value s a ≡ value_of (read_of d a) = ap value_of (read-on s d h a) in
      record {
        after = step s d h (call_of (Read a v n)) tt;
        agrees = λ q. (sym e ∙ q.0, sym f ∙ q.1);
        answered = λ q. (e ∙ q.0, f ∙ q.1);
      }
  steps (Vector k n) r =
      let e : vector_answer s k ≡ answer_of (vector_of d k) = ap answer_of (vector_on_lem s d h k) in
      record {
        after = step s d h (call_of (Vector k n)) tt;
        agrees = λ q. sym e ∙ q;
        answered = λ q. e ∙ q;
      }
  steps (Clocks l c) r = record {
    after =
        step s d h (call_of (Clocks l c)) tt
        ∙ ap (λ (ls : List ℕ). Ok (ran_of d ls)) (run-passed l c r.0)
        ∙ ap Ok (sym (held-ran c d l));
    agrees = λ q. tt;
    answered = λ q. tt;
  }

-- items one after another
record Follows (s : List ℕ) (d : Device) (is : List Item) : Type 0 where
  after : decode_of (final_record s (map call_of is)) ≡ Ok (after_items d is)
  agree : AllAgree d is

follows : (s : List ℕ) (d : Device) → decode_of s ≡ Ok d → (is : List Item) → AllInRange is → AllAnswered s is → Follows s d is
follows s d h [] r a = record { after = h; agree = tt }
follows s d h (i ∷ is) r a =
    let x = steps s d h i r.0 in
    let f = follows (record_after s (call_of i)) (step_of d i).device x.after is r.1 a.1 in
    record { after = f.after; agree = (x.agrees a.0, f.agree) }

-- the ranges of a part
range_front : (is : List Item) (i : Item) (js : List Item) → AllInRange (is ++ i ∷ js) → AllInRange is × InRange i
range_front [] i js r = (tt, r.0)
range_front (k ∷ is) i js r = let f = range_front is i js r.1 in ((r.0, f.0), f.1)

-- what the call answers on a slice as long as a record, where the replay comes to r
answers_by : (s text : List ℕ) (r : Replayed) (after : List ℕ) → length s ≡ record_length → replay_of text ≡ r → record_of r.device ≡ after
    → Answers s text (outcome_number r.outcome) (outcome_line r.outcome) after
answers_by s text r after l e f =
    let t : eqb (length s) record_length ≡ true = eq-eqb (length s) record_length l in
    record { answer = rw (t, e); at = rw (t, e); left = rw (t, e) f }

pub replaying : (s text : List ℕ) → Replaying s text
replaying s text = record {
  no_record = λ n. let t : eqb (length s) record_length ≡ false = ne_eqb (length s) record_length n in record { answer = rw t; at = rw t; left = rw t };
  malformed = λ l line m. answers_by s text _ (record_after_reset s) l ((replays text).malformed line m) (record-decode (record_after_reset s) reset_device (reset-record s l));
  different = λ l is i js w a n.
      let r = range_front is i js w.range in
      let f = follows (record_after_reset s) reset_device (reset-record s l) is r.0 a in
      let x = steps (record_after_items s is) (after_items reset_device is) f.after i r.1 in
      answers_by s text _ (record_after (record_after_items s is) (call_of i)) l ((replays text).different is i js w f.agree (λ q. n (x.answered q)))
      (record-decode (record_after (record_after_items s is) (call_of i)) (step_of (after_items reset_device is) i).device x.after);
  done = λ l is w a.
      let f = follows (record_after_reset s) reset_device (reset-record s l) is w.range a in
      answers_by s text _ (record_after_items s is) l ((replays text).done is w f.agree) (record-decode (record_after_items s is) (after_items reset_device is) f.after);
}
