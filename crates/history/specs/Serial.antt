-- SPI traffic never changes a serial answer (document 01, 'The line of demand 3', its end): what the serial side of a
-- history is, and what it is answered. A query is no part of it: it may stand anywhere, and bits 0 to 2 of a report,
-- and all of the split votes, are those of the serial side where it stands.
use Rattle.std.specs.Prelude.{ℕ, ◌%◌, List, [], ◌∷◌, map, ◌≡◌, eqb, Ok}
use Rattle.choice.specs.Pick.{pick}
use Rattle.usart.specs.Event.{Event}
use Rattle.device.specs.Address.{place_of}
use Rattle.device.specs.Unit.{txd_bits}
use Rattle.device.specs.declared.unit.Device.{Device}
use Rattle.device.specs.Serial.{is_serial, clocks_of, writes_at, reads_at, vectors_at}
use Rattle.warpmagpie.specs.Calls.{reset_answer, write_answer, read_answer, read_value, vector_answer, requests_value, split_votes_value}
use Rattle.record.specs.Codec.{decode_of}
use Rattle.history.specs.Call.{Call, reset, write, read, vector, pass, effect, final_record, gathered, Bytes, usart_of}

-- the serial calls as the serial unit has them (a serial register written or read, vector 0, and the clocks passed,
-- each with its level of RxD), and the resets
pub data Serial : Type 0 where
  event : Event → Serial
  resets : Serial

-- the serial part of a call: of SPI registers, of other addresses, of other vectors and of a query there is none
abbrev pub serial_part : List ℕ → Call → List Serial
serial_part s reset = resets ∷ []
serial_part s (write a v) = map event (writes_at (place_of a) v)
serial_part s (read a) = map event (reads_at (place_of a))
serial_part s (vector n) = map event (vectors_at n)
serial_part s (pass p) = map event (clocks_of (effect s (pass p)).levels)

abbrev pub serial_parts : List ℕ → List Call → List Serial
serial_parts s cs = gathered serial_part s cs

-- what the serial side is answered: a number, a number and a read's value, TxD and its driven mark after a clock (of a
-- hold, which answers the last output alone, as the rules give them)
pub data Answer : Type 0 where
  number : ℕ → Answer
  value : ℕ → ℕ → Answer
  txd : ℕ → Answer

abbrev pub serial_answer : List ℕ → Call → List Answer
serial_answer s reset = number (reset_answer s) ∷ []
serial_answer s (write a v) = pick (is_serial (place_of a)) (number (write_answer s a v) ∷ []) []
serial_answer s (read a) = pick (is_serial (place_of a)) (value (read_answer s a) (read_value s a) ∷ []) []
serial_answer s (vector n) = pick (eqb n 0) (number (vector_answer s n) ∷ []) []
serial_answer s (pass p) = map txd (map txd_bits (effect s (pass p)).outputs)

abbrev pub serial_answers : List ℕ → List Call → List Answer
serial_answers s cs = gathered serial_answer s cs

-- request bits 0 to 2, as a report on the record gives them
abbrev pub request_bits : List ℕ → ℕ
request_bits s = requests_value s % 8

-- two histories from one serial device, with the same serial calls and resets in order and the same clocks and RxD
-- levels between them, however split into runs and holds; what else is in them, queries too, and whose SPI is in which
-- state, is free
pub record Alike (d e : Device) (s t : List ℕ) (cs ds : List Call) : Type 0 where
  pub first : decode_of s ≡ Ok d
  pub second : decode_of t ≡ Ok e
  pub one : d.usart ≡ e.usart
  pub bytes : Bytes cs
  pub bytes_too : Bytes ds
  pub same : serial_parts s cs ≡ serial_parts t ds

-- they agree on all serial answers, TxD and, in queries after them, request bits 0 to 2 and the split votes, and end as
-- one serial device
pub record Agree (s t : List ℕ) (cs ds : List Call) : Type 0 where
  pub answers : serial_answers s cs ≡ serial_answers t ds
  pub requests : request_bits (final_record s cs) ≡ request_bits (final_record t ds)
  pub splits : split_votes_value (final_record s cs) ≡ split_votes_value (final_record t ds)
  pub final : usart_of (final_record s cs) ≡ usart_of (final_record t ds)
