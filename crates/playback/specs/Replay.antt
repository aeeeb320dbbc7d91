-- The replay of a trace (document 02, M-100): 'replay starts by a reset', then item by item.
use Rattle.std.specs.Prelude.{ℕ, ◌+◌, true, ◌&&◌, List, [], ◌∷◌, eqb, Result, Ok, Err}
use Rattle.choice.specs.Pick.{pick}
use Rattle.answer.specs.Number.{number_of}
use Rattle.answer.specs.declared.Refusal.{Refusal}
use Rattle.answer.specs.declared.Refusal.TheVariants.{Malformed, Different}
use Rattle.device.specs.Unit.{reset_device}
use Rattle.device.specs.Register.{write_of, read_of, vector_of}
use Rattle.device.specs.Outcome.{answer_of, settled, read_answer_of, value_of, read_settled}
use Rattle.device.specs.Holding.{held_of}
use Rattle.device.specs.declared.unit.Device.{Device}
use Rattle.trace.specs.Contents.{Check, contents_of}
use Rattle.trace.specs.declared.item.Item.{Item}
use Rattle.trace.specs.declared.item.Item.TheVariants.{Write, Read, Vector, Clocks}
use Rattle.playback.specs.declared.step.Step.{Step}
use Rattle.playback.specs.declared.replaying.Replayed.{Replayed}
use Rattle.answer.specs.declared.Reading.{Reading}
use Rattle.playback.specs.declared.replaying.Stopped.{Stopped}

-- after a write or a vector, and whether it answered n
abbrev pub written_step : Device → Result Device Refusal → ℕ → Step
written_step d w n = record { device = settled d w; same = eqb (answer_of w) n }

-- after a read, and whether it answered n with the value v; a refused read answers 0
abbrev pub read_step : Device → Result (Reading Device) Refusal → ℕ → ℕ → Step
read_step d g v n = record { device = read_settled d g; same = eqb (read_answer_of g) n && eqb (value_of g) v }

-- one item
unfoldable pub step_of : Device → Item → Step
step_of d (Write a v n) = written_step d (write_of d a v) n
step_of d (Read a v n) = read_step d (read_of d a) v n
step_of d (Vector k n) = written_step d (vector_of d k) n
step_of d (Clocks l c) = record { device = held_of d l c; same = true }

-- how a replay ended
abbrev pub Outcome : Type 0
Outcome = Result (Unit {0}) Stopped

abbrev pub finished : Outcome
finished = Ok tt

abbrev pub stopped_at : Refusal → ℕ → Outcome
stopped_at why line = Err (record { why = why; line = line })

abbrev pub ended : Device → Outcome → Replayed
ended d o = record { device = d; outcome = o }

-- the items, of which the first stands in this line: 10 for the first one 'answered otherwise than recorded', which
-- 'leaves the device as after that call'
unfoldable pub played_from : Device → ℕ → List Item → Replayed
played_from d line [] = ended d finished
played_from d line (i ∷ is) =
    pick (step_of d i).same (played_from (step_of d i).device (line + 1) is) (ended (step_of d i).device (stopped_at Different line))

-- 9 for a malformed text, which leaves it 'as at reset'
abbrev pub replay_by : Check → List Item → Replayed
replay_by (Ok tt) is = played_from reset_device 2 is
replay_by (Err bad) is = ended reset_device (stopped_at Malformed bad.line)

abbrev pub replay_of : List ℕ → Replayed
replay_of text = replay_by (contents_of text).check (contents_of text).items

-- the number and the line that the rig sees; a done replay answers line 0
abbrev pub outcome_number : Outcome → ℕ
outcome_number (Ok tt) = 0
outcome_number (Err stop) = number_of stop.why

abbrev pub outcome_line : Outcome → ℕ
outcome_line (Ok tt) = 0
outcome_line (Err stop) = stop.line
