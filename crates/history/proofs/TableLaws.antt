-- Every call answers the number that the table gives it, and a refusal leaves everything as it was.
use Prim.Native.Nat.{ℕ, ◌+◌, ◌/◌, ◌<◌}
use mathlib.Core.Bool.{Bool, true, false, not, ◌&&◌, ◌||◌, true≢false}
use mathlib.Core.List.{List, [], ◌∷◌}
use mathlib.Core.Path.{◌≡◌, refl, sym, ap, ◌∙◌}
use native.Mathlib.Omega.{arith}
use lib.Dec.{eqb, ltb, leb}
use lib.IntN.{pos}
use lib.ListN.{length}
use lib.Pow.{are_bytes}
use borrow.Author.Tests.{eq-eqb, ne_eqb, eqb-true, lt-ltb, le-ltb, ltb-true, ltb-false, leb-true, leb-false}
use Rattle.std.proofs.Common.{Err, IfErr, None, Ok, Option, Result, Some}
use Rattle.choice.specs.Pick.{pick}
use Rattle.choice.proofs.Picks.{split, clash}
use Rattle.answer.specs.Number.{number_of}
use Rattle.planner.specs.Planning.{is_in_range, planned_of, plan_number_of, ubrr_of, tenths_of, checked_of, check_number_of, accepted_of}
use Rattle.planner.specs.declared.outcome.Plan.{Plan}
use Rattle.planner.proofs.PlanningLaws.{plans, checks, refuses}
use Rattle.trace.specs.Contents.{Check, contents_of}
use Rattle.trace.specs.Filling.{filled_of, buffer_of, buffer_written, is_well, buffer_shrunk}
use Rattle.trace.specs.Listing.{Listing, list_of, listing_of}
use Rattle.trace.specs.Meaning.{IsText}
use Rattle.trace.specs.Shrinking.{shrunk_of, shrunk_text}
use Rattle.trace.specs.Text.{AllInRange, text_of}
use Rattle.trace.specs.declared.item.Item.{Item}
use Rattle.trace.proofs.ListMeaning.{lists}
use Rattle.trace.proofs.Reading.{reads}
use Rattle.playback.specs.Replay.{step_of, stopped_at, ended, played_from, replay_by, replay_of, outcome_number}
use Rattle.playback.specs.declared.replaying.Replayed.{Replayed}
use Rattle.usart.specs.Unit.{txc_requested}
use Rattle.usart.specs.Write.{write_of as serial_write_of, vector_of as serial_vector_of}
use Rattle.usart.proofs.RefusalLaws.{write-number as serial-write, vector-number as serial-vector}
use Rattle.spi.specs.Register.{write_of as spi_write_of, vector_of as spi_vector_of}
use Rattle.spi.specs.Unit.{is_requested}
use Rattle.spi.proofs.RefusalLaws.{write-number as spi-write, vector-number as spi-vector}
use Rattle.device.specs.Address.{place_of}
use Rattle.device.specs.Outcome.{answer_of, read_answer_of, value_of}
use Rattle.device.specs.Register.{serial_written, spi_written, write_in, read_in, vector_of}
use Rattle.device.specs.Run.{ran_of, outputs_of, are_levels, shown}
use Rattle.device.specs.Unit.{reset_device, requests_of, split_votes}
use Rattle.answer.specs.declared.Refusal.TheVariants.{Unknown, Record, Length, Level, Different}
use Rattle.device.specs.declared.unit.Device.{Device}
use Rattle.device.proofs.RegisterLaws.{answer-serial, answer-spi}
use Rattle.record.specs.Layout.{record_length}
use Rattle.record.specs.Kept.{kept, kept_by_read}
use Rattle.record.specs.Codec.{decode_of}
use Rattle.record.specs.Refusing.{NoRecord}
use Rattle.record.proofs.BytesLaws.{refused-record}
use Rattle.record.proofs.Five.{five}
use Rattle.record.proofs.Round.{record-decode}
use Rattle.warpmagpie.specs.Calls.{reset_on, write_on, read_on, read_answer, read_value, vector_on, run_on, outputs_on, run_answer, record_after_run, outputs_after_run, query_answer_on, query_value_on, requests_answer, requests_value, split_votes_answer, split_votes_value}
use Rattle.holding.specs.Hold.{hold_in, hold_on, hold_answer, hold_output}
use Rattle.tracing.specs.Replay.{replay_answer}
use Rattle.recording.specs.Calls.{filled_number, filled_length, trace_write_answer, trace_write_length, trace_shrink_answer, trace_shrink_length}
use Rattle.warpmagpie.specs.Baud.{plan_answer, plan_ubrr, plan_tenths, check_answer, check_accepted}
use Rattle.history.specs.Call.{run, hold, query, Call, reset, write, read, vector, pass, effect, record_after, device_in}
use Rattle.history.specs.Table.{is_no_device, is_no_record, is_wrong_length, is_no_place, is_nowhere, is_no_vector, reserved_at, unmodelled_at, under_way_at, are_uneven, is_high_level, has_high_level, is_unrequested, is_bad, is_malformed, is_no_list, has_different, is_different, is_out_of_range, is_longer, Numbers}
use Rattle.answer.specs.declared.Refusal.{Refusal}
use Rattle.answer.specs.declared.Reading.{Reading}
use Rattle.device.specs.declared.address.Place.{Place}
use Rattle.device.specs.declared.address.Place.TheVariants.{Serial, Spi}

-- a decode refuses for the record alone
only : (s : List ℕ) (x : Result Device Refusal) → decode_of s ≡ x → IfErr x (λ r. r ≡ Record)
only s (Ok d) h = tt
only s (Err r) h = let e = refused-record s r h in cc

-- writes
write-in : (d : Device) (p : Option Place) (v : ℕ) → v < 256
    → answer_of (write_in d p v) ≡ pick (is_no_place p) 1 (pick (reserved_at d p v) 2 (pick (unmodelled_at d p v) 3 (pick (under_way_at d p v) 4 0)))
write-in d (Some (Serial r)) v b = answer-serial d (serial_write_of d.usart r v) ∙ serial-write d.usart r v b
write-in d (Some (Spi r)) v b = answer-spi d (spi_write_of d.spi r v) ∙ spi-write d.spi r v
write-in d None v b = refl

write-table : (x : Result Device Refusal) → IfErr x (λ r. r ≡ Record) → (a v : ℕ) → v < 256
    → answer_of (write_on x a v)
    ≡ pick (is_no_device x) 5 (pick (is_nowhere a) 1 (pick (reserved_at (device_in x) (place_of a) v) 2 (pick (unmodelled_at (device_in x) (place_of a) v) 3 (pick (under_way_at (device_in x) (place_of a) v) 4 0))))
unfolding write_on
write-table (Ok d) o a v b = write-in d (place_of a) v b
write-table (Err r) o a v b = ap number_of o

-- reads
read-in : (d : Device) (p : Option Place) → read_answer_of (read_in d p) ≡ pick (is_no_place p) 1 0
read-in d (Some (Serial r)) = refl
read-in d (Some (Spi r)) = refl
read-in d None = refl

read_table : (x : Result Device Refusal) → IfErr x (λ r. r ≡ Record) → (a : ℕ) → read_answer_of (read_on x a) ≡ pick (is_no_device x) 5 (pick (is_nowhere a) 1 0)
unfolding read_on
read_table (Ok d) o a = read-in d (place_of a)
read_table (Err r) o a = ap number_of o

-- vectors: no number is both 0 and 1
pick-not : (x y : ℕ) (t : Bool) → pick t x y ≡ pick (not t) y x
pick-not x y true = refl
pick-not x y false = refl

pick-or : (x y : ℕ) (t : Bool) → pick t x y ≡ pick (not t || false) y x
pick-or x y true = refl
pick-or x y false = refl

vector-by : (d : Device) (a b : Bool) → (a ≡ true → b ≡ false)
    → answer_of (pick a (serial_written d (serial_vector_of d.usart)) (pick b (spi_written d (spi_vector_of d.spi)) (Err Unknown)))
    ≡ pick (not a && not b) 1 (pick (a && not (txc_requested d.usart) || b && not (is_requested d.spi)) 8 0)
vector-by d true true h = absurd (true≢false (h refl))
vector-by d true false h = answer-serial d (serial_vector_of d.usart) ∙ serial-vector d.usart ∙ pick-or 0 8 (txc_requested d.usart)
vector-by d false true h = answer-spi d (spi_vector_of d.spi) ∙ spi-vector d.spi ∙ pick-not 0 8 (is_requested d.spi)
vector-by d false false h = refl

vector-in : (d : Device) (n : ℕ) → answer_of (vector_of d n) ≡ pick (is_no_vector n) 1 (pick (is_unrequested d n) 8 0)
unfolding vector_of
vector-in d n = vector-by d (eqb n 0) (eqb n 1) (λ h. ne_eqb n 1 (λ e. omega (arith, eqb-true n 0 h, e)))

vector-table : (x : Result Device Refusal) → IfErr x (λ r. r ≡ Record) → (n : ℕ) → answer_of (vector_on x n) ≡ pick (is_no_device x) 5 (pick (is_no_vector n) 1 (pick (is_unrequested (device_in x) n) 8 0))
unfolding vector_on
vector-table (Ok d) o n = vector-in d n
vector-table (Err r) o n = ap number_of o

-- runs and holds
low-level : (l : ℕ) → ltb l 32 ≡ eqb (l / 32) 0
low-level l =
    split (ltb l 32) (λ h. let k = ltb-true l 32 h in h ∙ sym (eq-eqb (l / 32) 0 (omega (arith, k))))
    (λ h. let k = ltb-false l 32 h in h ∙ sym (ne_eqb (l / 32) 0 (λ e. omega (arith, k, e))))

not-not : (t : Bool) → t ≡ not (not t)
not-not true = refl
not-not false = refl

levels-by : (t x y : Bool) → x ≡ not y → pick t x false ≡ not (not t || y)
levels-by true x y h = h
levels-by false x y h = refl

levels-are : (ls : List ℕ) → are_levels ls ≡ not (has_high_level ls)
unfolding are_levels has_high_level
levels-are [] = refl
levels-are (l ∷ ls) = ap (λ (t : Bool). pick t (are_levels ls) false) (low-level l) ∙ levels-by (eqb (l / 32) 0) (are_levels ls) (has_high_level ls) (levels-are ls)

run_by : (d : Device) (even low high : Bool) → low ≡ not high
    → answer_of (pick even (pick low (Ok d) (Err Level)) (Err Length)) ≡ pick (not even) 6 (pick high 7 0)
run_by d true low true h = ap (λ (t : Bool). answer_of (pick t (Ok d) (Err Level))) h
run_by d true low false h = ap (λ (t : Bool). answer_of (pick t (Ok d) (Err Level))) h
run_by d false low high h = refl

run-table : (x : Result Device Refusal) → IfErr x (λ r. r ≡ Record) → (ls os : List ℕ) → answer_of (run_on x ls os) ≡ pick (is_no_device x) 5 (pick (are_uneven ls os) 6 (pick (has_high_level ls) 7 0))
unfolding run_on
run-table (Ok d) o ls os = run_by (ran_of d ls) (eqb (length os) (length ls)) (are_levels ls) (has_high_level ls) (levels-are ls)
run-table (Err r) o ls os = ap number_of o

hold-by : (d : Device) (o : ℕ) (low high : Bool) → low ≡ not high → read_answer_of (pick low (Ok (record { value = o; after = d })) (Err Level)) ≡ pick high 7 0
hold-by d o low true h = ap (λ (t : Bool). read_answer_of (pick t (Ok (record { value = o; after = d })) (Err Level))) h
hold-by d o low false h = ap (λ (t : Bool). read_answer_of (pick t (Ok (record { value = o; after = d })) (Err Level))) h

hold-table : (x : Result Device Refusal) → IfErr x (λ r. r ≡ Record) → (l n : ℕ) → read_answer_of (hold_on x l n) ≡ pick (is_no_device x) 5 (pick (is_high_level l) 7 0)
unfolding hold_on hold_in
hold-table (Ok d) o l n = hold-by _ _ (ltb l 32) (is_high_level l) (low-level l ∙ not-not (eqb (l / 32) 0))
hold-table (Err r) o l n = ap number_of o

-- reset and queries
reset_by : (t : Bool) → answer_of (pick t (Ok reset_device) (Err Record)) ≡ pick (not t) 5 0
reset_by true = refl
reset_by false = refl

reset-table : (s : List ℕ) → answer_of (reset_on s) ≡ pick (is_wrong_length s) 5 0
unfolding reset_on
reset-table s = reset_by (eqb (length s) record_length)

query-table : (x : Result Device Refusal) → IfErr x (λ r. r ≡ Record) → query_answer_on x ≡ pick (is_no_device x) 5 0
unfolding query_answer_on
query-table (Ok d) o = refl
query-table (Err r) o = ap number_of o

-- replay
played-by : (t b : Bool) (r : Replayed) (d : Device) (line : ℕ) → outcome_number r.outcome ≡ pick b 10 0
    → outcome_number (pick t r (ended d (stopped_at Different line))).outcome ≡ pick (not t || b) 10 0
played-by true b r d line h = h
played-by false b r d line h = refl

played-table : (d : Device) (line : ℕ) (is : List Item) → outcome_number (played_from d line is).outcome ≡ pick (has_different d is) 10 0
unfolding played_from has_different
played-table d line [] = refl
played-table d line (i ∷ is) =
    played-by (step_of d i).same (has_different (step_of d i).device is) (played_from (step_of d i).device (line + 1) is) (step_of d i).device line
    (played-table (step_of d i).device (line + 1) is)

outcome-table : (c : Check) (is : List Item) → outcome_number (replay_by c is).outcome ≡ pick (is_bad c) 9 (pick (has_different reset_device is) 10 0)
outcome-table (Ok tt) is = played-table reset_device 2 is
outcome-table (Err bad) is = refl

replay-by : (t : Bool) (m n : ℕ) → m ≡ n → pick t m 5 ≡ pick (not t) 5 n
replay-by true m n h = h
replay-by false m n h = refl

replay-table : (s text : List ℕ) → replay_answer s text ≡ pick (is_wrong_length s) 5 (pick (is_malformed text) 9 (pick (is_different text) 10 0))
replay-table s text =
    replay-by (eqb (length s) record_length) (outcome_number (replay_of text).outcome) _ (outcome-table (contents_of text).check (contents_of text).items)

-- number 9 by itself
bad-by : (text : List ℕ) (c : Check) → (contents_of text).check ≡ c → ((is : List Item) → IsText text is → ⊥) → is_bad c ≡ true
bad-by text (Ok tt) e n = absurd (n (contents_of text).items ((reads text).well_formed e))
bad-by text (Err bad) e n = refl

malformed-table : (text : List ℕ)
    → (is_malformed text ≡ true → (is : List Item) → IsText text is → ⊥) × (((is : List Item) → IsText text is → ⊥) → is_malformed text ≡ true)
malformed-table text =
    (λ b is w. clash b (ap is_bad ((reads text).found is w).0), bad-by text (contents_of text).check refl)

-- .. and of a list
no-list : (list : List ℕ) → are_bytes list ≡ true → (b : Bool) → (listing_of list).sound ≡ b → ((is : List Item) → AllInRange is → list ≡ list_of is → ⊥)
    → not b ≡ true
no-list list w true e n = let t = (lists list w).taken e in absurd (n (listing_of list).items t.0 t.1)
no-list list w false e n = refl

no-list-table : (list : List ℕ) → are_bytes list ≡ true
    → (is_no_list list ≡ true → (is : List Item) → AllInRange is → list ≡ list_of is → ⊥)
    × (((is : List Item) → AllInRange is → list ≡ list_of is → ⊥) → is_no_list list ≡ true)
no-list-table list w =
    (λ b is h e. clash b (ap (λ (r : Listing). not r.sound) ((lists list w).found is h e)), no-list list w (listing_of list).sound refl)

-- a text in a lent buffer: 9 before 12
filled-table : (sound : Bool) (is : List Item) (buffer : List ℕ)
    → filled_number (filled_of sound is (length buffer)) ≡ pick (not sound) 9 (pick (is_longer (text_of is) buffer) 12 0)
unfolding filled_of
filled-table false is buffer = refl
filled-table true is buffer =
    split (leb (length (text_of is)) (length buffer))
    (λ h. rw (h, le-ltb (length buffer) (length (text_of is)) (leb-true (length (text_of is)) (length buffer) h)))
    (λ h. rw (h, lt-ltb (length buffer) (length (text_of is)) (leb-false (length (text_of is)) (length buffer) h)))

well-bad : (c : Check) → not (is_well c) ≡ is_bad c
well-bad (Ok tt) = refl
well-bad (Err bad) = refl

shrink-table : (text buffer : List ℕ) → trace_shrink_answer text buffer ≡ pick (is_malformed text) 9 (pick (is_longer (shrunk_text text) buffer) 12 0)
shrink-table text buffer =
    filled-table (is_well (contents_of text).check) (shrunk_of (contents_of text).items) buffer
    ∙ ap (λ (b : Bool). pick b 9 (pick (is_longer (shrunk_text text) buffer) 12 0)) (well-bad (contents_of text).check)

-- the baud setting: out of range by the four tests is not in range by theirs
least-one : (n : ℕ) → eqb n 0 ≡ not (leb 1 n)
least-one n =
    split (leb 1 n) (λ h. let k = leb-true 1 n h in ne_eqb n 0 (λ e. omega (arith, k, e)) ∙ ap not (sym h))
    (λ h. let k = leb-false 1 n h in eq-eqb n 0 (omega (arith, k)) ∙ ap not (sym h))

at_most : (m n : ℕ) → ltb m n ≡ not (leb n m)
at_most m n =
    split (leb n m) (λ h. le-ltb m n (leb-true n m h) ∙ ap not (sym h))
    (λ h. lt-ltb m n (leb-false n m h) ∙ ap not (sym h))

outside-by : (a b c d : Bool) → (not a || not b) || (not c || not d) ≡ not (pick a (pick b (pick c d false) false) false)
outside-by true true true d = refl
outside-by true true false d = refl
outside-by true false c d = refl
outside-by false b c d = refl

out_of_range : (clock rate : ℕ) → is_out_of_range clock rate ≡ not (is_in_range clock rate)
out_of_range clock rate =
    rw (least-one clock, at_most 20000000 clock, least-one rate, at_most 2500000 rate)
    (outside-by (leb 1 clock) (leb clock 20000000) (leb 1 rate) (leb rate 2500000))

range-by : (t : Bool) (n : ℕ) → (t ≡ true → n ≡ 0) → (t ≡ false → n ≡ 11) → n ≡ pick (not t) 11 0
range-by true n f g = f refl
range-by false n f g = g refl

plan-table : (clock rate u2x : ℕ) → plan_answer clock rate u2x ≡ pick (is_out_of_range clock rate) 11 0
plan-table clock rate u2x =
    range-by (is_in_range clock rate) (plan_answer clock rate u2x) (λ h. (plans clock rate u2x h).done) (λ h. (refuses clock rate u2x 0 h).planner)
    ∙ ap (λ (t : Bool). pick t 11 0) (sym (out_of_range clock rate))

check-table : (clock rate u2x ubrr : ℕ) → check_answer clock rate u2x ubrr ≡ pick (is_out_of_range clock rate) 11 0
check-table clock rate u2x ubrr =
    range-by (is_in_range clock rate) (check_answer clock rate u2x ubrr) (λ h. (checks clock rate u2x ubrr h).done) (λ h. (refuses clock rate u2x ubrr h).check)
    ∙ ap (λ (t : Bool). pick t 11 0) (sym (out_of_range clock rate))

-- number 5 by itself
refused_as : (x : Result Device Refusal) → IfErr x (λ r. r ≡ Record) → is_no_device x ≡ true → x ≡ Err Record
refused_as (Ok d) o e = clash e refl
refused_as (Err r) o e = ap Err o

no-record-table : (s : List ℕ) → (is_no_record s ≡ true → NoRecord s) × (NoRecord s → is_no_record s ≡ true)
no-record-table s = (λ e. (five s).0 (refused_as (decode_of s) (only s (decode_of s) refl) e), λ n. ap is_no_device ((five s).1 n))

-- each number is given exactly when the table says
pub numbered : (s : List ℕ) → Numbers s
numbered s = record {
  no_record = no-record-table s;
  reset = reset-table s;
  write = write-table (decode_of s) (only s (decode_of s) refl);
  read = read_table (decode_of s) (only s (decode_of s) refl);
  vector = vector-table (decode_of s) (only s (decode_of s) refl);
  run = run-table (decode_of s) (only s (decode_of s) refl);
  hold = hold-table (decode_of s) (only s (decode_of s) refl);
  report = query-table (decode_of s) (only s (decode_of s) refl);
  split_votes = query-table (decode_of s) (only s (decode_of s) refl);
  malformed = malformed-table;
  replay = replay-table s;
  no_list = no-list-table;
  trace_write = λ list buffer. filled-table (listing_of list).sound (listing_of list).items buffer;
  trace_shrink = shrink-table;
  plan = plan-table;
  check = check-table;
}

-- every refusal leaves the record untouched
kept-refused : (s : List ℕ) (w : Result Device Refusal) → (answer_of w ≡ 0 → ⊥) → kept s w ≡ s
kept-refused s (Ok d) f = absurd (f refl)
kept-refused s (Err r) f = refl

kept-unread : (s : List ℕ) (g : Result (Reading Device) Refusal) → (read_answer_of g ≡ 0 → ⊥) → kept_by_read s g ≡ s
kept-unread s (Ok g) f = absurd (f refl)
kept-unread s (Err r) f = refl

pub refused-keeps : (s : List ℕ) (c : Call) → ((effect s c).answer ≡ 0 → ⊥) → record_after s c ≡ s
refused-keeps s reset f = kept-refused s (reset_on s) f
refused-keeps s (write a v) f = kept-refused s (write_on (decode_of s) a v) f
refused-keeps s (read a) f = kept-unread s (read_on (decode_of s) a) f
refused-keeps s (vector n) f = kept-refused s (vector_on (decode_of s) n) f
refused-keeps s (pass (run ls os)) f = kept-refused s (run_on (decode_of s) ls os) f
refused-keeps s (pass (hold l n)) f = kept-unread s (hold_on (decode_of s) l n) f
refused-keeps s (pass (query q)) f = refl

-- .. and the output slice
shown-refused : (os new : List ℕ) (w : Result Device Refusal) → (answer_of w ≡ 0 → ⊥) → shown os new w ≡ os
shown-refused os new (Ok d) f = absurd (f refl)
shown-refused os new (Err r) f = refl

pub refused-outputs : (s ls os : List ℕ) → (run_answer s ls os ≡ 0 → ⊥) → outputs_after_run s ls os ≡ os
refused-outputs s ls os f = shown-refused os (outputs_on (decode_of s) ls) (run_on (decode_of s) ls os) f

-- a refused read, hold or query answers 0
no_value : (g : Result (Reading Device) Refusal) → (read_answer_of g ≡ 0 → ⊥) → value_of g ≡ 0
no_value (Ok g) f = absurd (f refl)
no_value (Err r) f = refl

pub refused-value : (s : List ℕ) (a : ℕ) → (read_answer s a ≡ 0 → ⊥) → read_value s a ≡ 0
refused-value s a f = no_value (read_on (decode_of s) a) f

pub refused-output : (s : List ℕ) (l n : ℕ) → (hold_answer s l n ≡ 0 → ⊥) → hold_output s l n ≡ 0
refused-output s l n f = no_value (hold_on (decode_of s) l n) f

unasked : (asked : Device → ℕ) (x : Result Device Refusal) → (query_answer_on x ≡ 0 → ⊥) → query_value_on asked x ≡ 0
unfolding query_answer_on query_value_on
unasked asked (Ok d) f = absurd (f refl)
unasked asked (Err _) f = refl

pub refused-report : (s : List ℕ) → (requests_answer s ≡ 0 → ⊥) → requests_value s ≡ 0
refused-report s f = unasked requests_of (decode_of s) f

pub refused-splits : (s : List ℕ) → (split_votes_answer s ≡ 0 → ⊥) → split_votes_value s ≡ 0
refused-splits s f = unasked split_votes (decode_of s) f

-- a trace that is not written or not shrunk leaves its buffer untouched and answers the length 0
not-filled : (sound : Bool) (is : List Item) (buffer : List ℕ) → (filled_number (filled_of sound is (length buffer)) ≡ 0 → ⊥)
    → (buffer_of sound is buffer ≡ buffer) × (filled_length (filled_of sound is (length buffer)) ≡ 0)
unfolding filled_of buffer_of
not-filled false is buffer f = (refl, refl)
not-filled true is buffer f =
    split (leb (length (text_of is)) (length buffer)) (λ h. absurd (f (rw h))) (λ h. rw h (refl, refl))

pub refused-write : (list buffer : List ℕ) → (trace_write_answer list buffer ≡ 0 → ⊥) → (buffer_written list buffer ≡ buffer) × (trace_write_length list buffer ≡ 0)
refused-write list = not-filled (listing_of list).sound (listing_of list).items

pub refused-shrink : (text buffer : List ℕ) → (trace_shrink_answer text buffer ≡ 0 → ⊥) → (buffer_shrunk text buffer ≡ buffer) × (trace_shrink_length text buffer ≡ 0)
refused-shrink text = not-filled (is_well (contents_of text).check) (shrunk_of (contents_of text).items)

-- .. and so do a refused planner and a refused check, of their values
no-plan : (p : Result Plan Refusal) → (plan_number_of p ≡ 0 → ⊥) → (ubrr_of p ≡ 0) × (tenths_of p ≡ pos 0)
no-plan (Ok p) f = absurd (f refl)
no-plan (Err r) f = (refl, refl)

pub refused-plan : (clock rate u2x : ℕ) → (plan_answer clock rate u2x ≡ 0 → ⊥) → (plan_ubrr clock rate u2x ≡ 0) × (plan_tenths clock rate u2x ≡ pos 0)
refused-plan clock rate u2x = no-plan (planned_of clock rate u2x)

no-check : (c : Result Bool Refusal) → (check_number_of c ≡ 0 → ⊥) → accepted_of c ≡ 0
no-check (Ok b) f = absurd (f refl)
no-check (Err r) f = refl

pub refused-check : (clock rate u2x ubrr : ℕ) → (check_answer clock rate u2x ubrr ≡ 0 → ⊥) → check_accepted clock rate u2x ubrr ≡ 0
refused-check clock rate u2x ubrr = no-check (checked_of clock rate u2x ubrr)

-- a run of no clocks is done and changes nothing
none-run : (s : List ℕ) (d : Device) → decode_of s ≡ Ok d → run_on (decode_of s) [] [] ≡ Ok d
unfolding run_on are_levels ran_of
none-run s d h = ap (λ (x : Result Device Refusal). run_on x [] []) h

none-shown : (x : Result Device Refusal) → outputs_on x [] ≡ []
unfolding outputs_on outputs_of
none-shown (Ok d) = refl
none-shown (Err _) = refl

pub no-clocks : (s : List ℕ) (d : Device) → decode_of s ≡ Ok d
    → (run_answer s [] [] ≡ 0) × ((record_after_run s [] [] ≡ s) × (outputs_after_run s [] [] ≡ []))
no-clocks s d h =
    let done = none-run s d h in
    (ap answer_of done, (ap (kept s) done ∙ record-decode s d h, ap (shown [] (outputs_on (decode_of s) [])) done ∙ none-shown (decode_of s)))
