-- The calls of the rig on a record: what each answers, and every byte of record, value and outputs after it.
use Rattle.std.specs.Prelude.{ℕ, List, [], eqb, length, Err, Ok, Result}
use Rattle.choice.specs.Pick.{pick}
use Rattle.answer.specs.Number.{number_of}
use Rattle.device.specs.Outcome.{answer_of, read_answer_of, value_of}
use Rattle.device.specs.Unit.{reset_device, clock_of, output_of, requests_of, split_votes}
use Rattle.device.specs.Register.{write_of, read_of, vector_of}
use Rattle.device.specs.Run.{outputs_of, run_of, shown}
use Rattle.answer.specs.declared.Refusal.TheVariants.{Record}
use Rattle.device.specs.declared.unit.Device.{Device}
use Rattle.record.specs.Layout.{record_length}
use Rattle.record.specs.Codec.{decode_of}
use Rattle.record.specs.Kept.{kept, kept_by_read}
use Rattle.answer.specs.declared.Refusal.{Refusal}
use Rattle.answer.specs.declared.Reading.{Reading}

-- reset ignores the old bytes and refuses only a wrong length
unfoldable pub reset_on : List ℕ → Result Device Refusal
reset_on s = pick (eqb (length s) record_length) (Ok reset_device) (Err Record)

abbrev pub reset_answer : List ℕ → ℕ
reset_answer s = answer_of (reset_on s)

abbrev pub record_after_reset : List ℕ → List ℕ
record_after_reset s = kept s (reset_on s)

-- a write of a register: 5 goes before the device's own refusals
unfoldable pub write_on : Result Device Refusal → ℕ → ℕ → Result Device Refusal
write_on (Ok d) a v = write_of d a v
write_on (Err r) a v = Err r

abbrev pub write_answer : List ℕ → ℕ → ℕ → ℕ
write_answer s a v = answer_of (write_on (decode_of s) a v)

abbrev pub record_after_write : List ℕ → ℕ → ℕ → List ℕ
record_after_write s a v = kept s (write_on (decode_of s) a v)

-- a read of a register: a refused one answers 0
unfoldable pub read_on : Result Device Refusal → ℕ → Result (Reading Device) Refusal
read_on (Ok d) a = read_of d a
read_on (Err r) a = Err r

abbrev pub read_answer : List ℕ → ℕ → ℕ
read_answer s a = read_answer_of (read_on (decode_of s) a)

abbrev pub read_value : List ℕ → ℕ → ℕ
read_value s a = value_of (read_on (decode_of s) a)

abbrev pub record_after_read : List ℕ → ℕ → List ℕ
record_after_read s a = kept_by_read s (read_on (decode_of s) a)

-- a vector taken: 5, 1, 8
unfoldable pub vector_on : Result Device Refusal → ℕ → Result Device Refusal
vector_on (Ok d) n = vector_of d n
vector_on (Err r) n = Err r

abbrev pub vector_answer : List ℕ → ℕ → ℕ
vector_answer s n = answer_of (vector_on (decode_of s) n)

abbrev pub record_after_vector : List ℕ → ℕ → List ℕ
record_after_vector s n = kept s (vector_on (decode_of s) n)

-- a run of clocks: 5, then 6 for the lengths, then 7 for the levels
unfoldable pub run_on : Result Device Refusal → List ℕ → List ℕ → Result Device Refusal
run_on (Ok d) ls os = run_of d ls os
run_on (Err r) ls os = Err r

unfoldable pub outputs_on : Result Device Refusal → List ℕ → List ℕ
outputs_on (Ok d) ls = outputs_of d ls
outputs_on (Err r) ls = []

-- a means, no rule: a run of one clock, whose level is one and whose output slice fits, and its output byte
unfoldable pub clock_on : Result Device Refusal → ℕ → Result Device Refusal
clock_on (Ok d) l = Ok (clock_of d l)
clock_on (Err r) l = Err r

abbrev pub output_in : Result Device Refusal → ℕ → Result ℕ Refusal
output_in (Ok d) l = Ok (output_of d l)
output_in (Err r) l = Err r

abbrev pub run_answer : List ℕ → List ℕ → List ℕ → ℕ
run_answer s ls os = answer_of (run_on (decode_of s) ls os)

abbrev pub record_after_run : List ℕ → List ℕ → List ℕ → List ℕ
record_after_run s ls os = kept s (run_on (decode_of s) ls os)

abbrev pub outputs_after_run : List ℕ → List ℕ → List ℕ → List ℕ
outputs_after_run s ls os = shown os (outputs_on (decode_of s) ls) (run_on (decode_of s) ls os)

-- a query: something is asked of the device, and the record stays as it is; a refused one answers 0
unfoldable pub query_answer_on : Result Device Refusal → ℕ
query_answer_on (Ok d) = 0
query_answer_on (Err r) = number_of r

unfoldable pub query_value_on : (Device → ℕ) → Result Device Refusal → ℕ
query_value_on asked (Ok d) = asked d
query_value_on asked (Err r) = 0

-- the report of the requests
abbrev pub requests_answer : List ℕ → ℕ
requests_answer s = query_answer_on (decode_of s)

abbrev pub requests_value : List ℕ → ℕ
requests_value s = query_value_on requests_of (decode_of s)

-- M-101: 'the oldest's asked for by a call of its own (0 if empty, refusal 5 only)'
abbrev pub split_votes_answer : List ℕ → ℕ
split_votes_answer s = query_answer_on (decode_of s)

abbrev pub split_votes_value : List ℕ → ℕ
split_votes_value s = query_value_on split_votes (decode_of s)
