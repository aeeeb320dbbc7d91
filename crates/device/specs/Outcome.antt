-- What a call comes to, and its number (document 01, 'Numbers the rig sees').
use Rattle.std.specs.Prelude.{ℕ, Err, Ok, Result}
use Rattle.answer.specs.Number.{number_in}
use Rattle.device.specs.declared.unit.Device.{Device}
use Rattle.answer.specs.declared.Refusal.{Refusal}
use Rattle.answer.specs.declared.Reading.{Reading}

abbrev pub answer_of : Result Device Refusal → ℕ
answer_of w = number_in w

-- a refusal leaves the device as it was
abbrev pub settled : Device → Result Device Refusal → Device
settled d (Ok e) = e
settled d (Err r) = d

abbrev pub read_answer_of : Result (Reading Device) Refusal → ℕ
read_answer_of g = number_in g

-- a refused read answers 0
abbrev pub value_of : Result (Reading Device) Refusal → ℕ
value_of (Ok g) = g.value
value_of (Err r) = 0

abbrev pub read_settled : Device → Result (Reading Device) Refusal → Device
read_settled d (Ok g) = g.after
read_settled d (Err r) = d
