-- Every device reached from reset has a record: whatever calls follow a reset, their record is accepted, and its device
-- is valid.
use Prim.Native.Nat.{ℕ}
use mathlib.Core.List.{List}
use mathlib.Core.Path.{◌≡◌, ap, ◌∙◌}
use lib.ListN.{length}
use Rattle.std.proofs.Common.{Ok, Result}
use Rattle.device.specs.Unit.{reset_device}
use Rattle.device.specs.Valid.{Valid}
use Rattle.device.specs.declared.unit.Device.{Device}
use Rattle.device.proofs.ValidLaws.{valid-reset}
use Rattle.record.specs.Layout.{record_length}
use Rattle.record.specs.Codec.{decode_of}
use Rattle.record.proofs.Round.{decode-record, decode-valid}
use Rattle.record.specs.Kept.{kept}
use Rattle.warpmagpie.specs.Calls.{record_after_reset}
use Rattle.history.specs.Call.{Call, final_record, Bytes}
use Rattle.history.proofs.StepLaws.{reset-done, induct}
use Rattle.answer.specs.declared.Refusal.{Refusal}

-- the record is that of a valid device
abbrev pub HasDevice : List ℕ → Type 0
HasDevice s = (d : Device) × ((decode_of s ≡ Ok d) × Valid d)

pub keeps-device : (s : List ℕ) (d : Device) (cs : List Call) → decode_of s ≡ Ok d → Bytes cs → HasDevice (final_record s cs)
keeps-device =
    induct (λ s cs. HasDevice (final_record s cs)) (λ s d h. (d, (h, decode-valid s d h))) (λ s d h c cs e k. k)

pub reset-record : (s : List ℕ) → length s ≡ record_length → decode_of (record_after_reset s) ≡ Ok reset_device
reset-record s e = ap (λ (w : Result Device Refusal). decode_of (kept s w)) (reset-done s e) ∙ decode-record reset_device valid-reset

pub reached : (s : List ℕ) (cs : List Call) → length s ≡ record_length → Bytes cs → HasDevice (final_record (record_after_reset s) cs)
reached s cs e p = keeps-device (record_after_reset s) reset_device cs (reset-record s e) p
