-- What a query answers of a record's device: its requests (document 01, 'Receiver', last paragraph), or the split votes
-- of its oldest frame (document 02, M-101).
use Rattle.std.specs.Prelude.{ℕ, List, Err, Ok, Result}
use Rattle.choice.specs.Pick.{pick}
use Rattle.device.specs.declared.unit.Device.{Device}
use Rattle.record.specs.Lift.{device_at}
use Rattle.record.specs.Accepts.{is_record}
use Rattle.answer.specs.declared.Refusal.{Refusal}
use Rattle.answer.specs.declared.Refusal.TheVariants.{Record}

-- by what is asked
unfoldable pub report_of : (Device → ℕ) → List ℕ → Result ℕ Refusal
report_of asked s = pick (is_record s) (Ok (asked (device_at s))) (Err Record)
