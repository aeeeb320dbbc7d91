-- Which records are accepted, and the device of each (document 01, 'Numbers the rig sees', 5: 'record not 64 bytes, a
-- field out of its range (also against the format), or an unused byte not zero').
use Rattle.std.specs.Prelude.{ℕ, List, eqb, length, Err, Ok, Result}
use Rattle.choice.specs.Pick.{pick}
use Rattle.device.specs.declared.unit.Device.{Device}
use Rattle.record.specs.Layout.{record_length}
use Rattle.record.specs.Image.{image_of}
use Rattle.record.specs.Lift.{device_at}
use Rattle.record.specs.Accepts.{is_record}
use Rattle.answer.specs.declared.Refusal.{Refusal}
use Rattle.answer.specs.declared.Refusal.TheVariants.{Record}

-- the record of a device
unfoldable pub record_of : Device → List ℕ
record_of d = image_of d

unfoldable pub decode_of : List ℕ → Result Device Refusal
decode_of s = pick (is_record s) (Ok (device_at s)) (Err Record)

-- a slice after a device was stored in it: one that is not as long as a record is left as it is
unfoldable pub stored_over : Device → List ℕ → List ℕ
stored_over d s = pick (eqb (length s) record_length) (record_of d) s
