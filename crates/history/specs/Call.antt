-- A history: a list of calls on a record. Each call gets the record that the last one left, each run slices of its own.
use Rattle.std.specs.Prelude.{ℕ, ◌+◌, ◌<◌, Bool, true, List, [], ◌∷◌, ◌++◌, map, ◌≡◌, eqb, length, replicate, Err, Ok, Result}
use Rattle.choice.specs.Pick.{pick}
use Rattle.usart.specs.declared.unit.Usart.{Usart}
use Rattle.device.specs.Address.{place_of}
use Rattle.device.specs.Serial.{is_serial}
use Rattle.device.specs.Unit.{reset_device, rxd_in}
use Rattle.device.specs.declared.unit.Device.{Device}
use Rattle.record.specs.Codec.{decode_of}
use Rattle.warpmagpie.specs.Calls.{reset_answer, record_after_reset, write_answer, record_after_write, read_answer, record_after_read, vector_answer, record_after_vector, run_answer, record_after_run, outputs_on, outputs_after_run, requests_answer, split_votes_answer}
use Rattle.holding.specs.Hold.{hold_answer, record_after_hold}
use Rattle.answer.specs.declared.Refusal.{Refusal}

-- what passes clocks, or none, and touches no register: a run, with its slices of levels and outputs; a hold of a level
-- byte for so many clocks; and any query, a call that leaves the record as it is, by the number that it answers
pub data Passing : Type 0 where
  run : List ℕ → List ℕ → Passing
  hold : ℕ → ℕ → Passing
  query : (List ℕ → ℕ) → Passing

-- reset; write an address and value; read an address; take a vector; or pass clocks
pub data Call : Type 0 where
  reset : Call
  write : ℕ → ℕ → Call
  read : ℕ → Call
  vector : ℕ → Call
  pass : Passing → Call

-- the report of requests is a query, and so is the call for split votes
abbrev pub report : Call
report = pass (query requests_answer)

abbrev pub split_votes : Call
split_votes = pass (query split_votes_answer)

-- what a call does: the number that it answers, the record that it leaves, the level bytes of the clocks that it
-- passed, and the output bytes after them: of a run those that it answers; of a hold, which answers the last alone,
-- those that the rules give
pub record Effect : Type 0 where
  pub answer : ℕ
  pub after : List ℕ
  pub levels : List ℕ
  pub outputs : List ℕ

-- no clock passed
abbrev pub no_clocks : ℕ → List ℕ → Effect
no_clocks n s = record { answer = n; after = s; levels = []; outputs = [] }

-- a clock for each level byte, or none where it is refused
abbrev pub passed : ℕ → List ℕ → List ℕ → List ℕ → Effect
passed n s ls os = record { answer = n; after = s; levels = pick (eqb n 0) ls []; outputs = pick (eqb n 0) os [] }

abbrev pub effect : List ℕ → Call → Effect
effect s reset = no_clocks (reset_answer s) (record_after_reset s)
effect s (write a v) = no_clocks (write_answer s a v) (record_after_write s a v)
effect s (read a) = no_clocks (read_answer s a) (record_after_read s a)
effect s (vector n) = no_clocks (vector_answer s n) (record_after_vector s n)
effect s (pass (run ls os)) = passed (run_answer s ls os) (record_after_run s ls os) ls (outputs_after_run s ls os)
effect s (pass (hold l n)) =
    passed (hold_answer s l n) (record_after_hold s l n) (replicate n l) (outputs_on (decode_of s) (replicate n l))
effect s (pass (query q)) = no_clocks (q s) s

abbrev pub record_after : List ℕ → Call → List ℕ
record_after s c = (effect s c).after

abbrev pub final_record : List ℕ → List Call → List ℕ
final_record s [] = s
final_record s (c ∷ cs) = final_record (record_after s c) cs

-- what each call of a list gives on the record that it finds, one after another: told how many clocks have passed
abbrev pub along : {A : Type 0} → (ℕ → List ℕ → Call → List A) → ℕ → List ℕ → List Call → List A
along f j s [] = []
along f j s (c ∷ cs) = f j s c ++ along f (j + length (effect s c).levels) (record_after s c) cs

-- .. or not told
abbrev pub gathered : {A : Type 0} → (List ℕ → Call → List A) → List ℕ → List Call → List A
gathered f s cs = along (λ j. f) 0 s cs

-- what holds of each call, on the record that it finds
abbrev pub Throughout : (List ℕ → Call → Type 0) → List ℕ → List Call → Type 0
Throughout P s [] = Unit {0}
Throughout P s (c ∷ cs) = P s c × Throughout P (record_after s c) cs

-- the value of a write is a byte, as C gives it; every other argument may be anything
abbrev pub ByteCall : Call → Type 0
ByteCall reset = Unit {0}
ByteCall (write a v) = v < 256
ByteCall (read a) = Unit {0}
ByteCall (vector n) = Unit {0}
ByteCall (pass p) = Unit {0}

abbrev pub Bytes : List Call → Type 0
Bytes [] = Unit {0}
Bytes (c ∷ cs) = ByteCall c × Bytes cs

-- the device of a record. One that is refused has none; the statements do not look at it then
abbrev pub device_in : Result Device Refusal → Device
device_in (Ok d) = d
device_in (Err _) = reset_device

abbrev pub device_of : List ℕ → Device
device_of s = device_in (decode_of s)

-- its serial half
abbrev pub usart_of : List ℕ → Usart
usart_of s = (device_of s).usart

-- no serial register but UDR0 is written, and no reset: a write of another one is not done
abbrev pub OnlyDataCall : List ℕ → Call → Type 0
OnlyDataCall s reset = ⊥
OnlyDataCall s (write a v) = write_answer s a v ≡ 0 → is_serial (place_of a) ≡ true → a ≡ 0xC6
OnlyDataCall s (read a) = Unit {0}
OnlyDataCall s (vector n) = Unit {0}
OnlyDataCall s (pass p) = Unit {0}

abbrev pub OnlyData : List ℕ → List Call → Type 0
OnlyData s cs = Throughout OnlyDataCall s cs

-- the RxD levels of the clocks, one after another
abbrev pub rxd_levels : List ℕ → List Call → List Bool
rxd_levels s cs = gathered (λ s c. map rxd_in (effect s c).levels) s cs
