-- What a call leaves of a record, by what it came to: every refusal leaves it untouched.
use Rattle.std.specs.Prelude.{ℕ, List, Err, Ok, Result}
use Rattle.record.specs.Codec.{record_of, stored_over}
use Rattle.device.specs.declared.unit.Device.{Device}
use Rattle.answer.specs.declared.Refusal.{Refusal}
use Rattle.answer.specs.declared.Reading.{Reading}

abbrev pub kept : List ℕ → Result Device Refusal → List ℕ
kept s (Ok d) = record_of d
kept s (Err r) = s

-- .. of a call that answers a value too
abbrev pub kept_by_read : List ℕ → Result (Reading Device) Refusal → List ℕ
kept_by_read s (Ok g) = record_of g.after
kept_by_read s (Err r) = s

-- a means, no rule: what is put back over any slice, which over one as long as a record is what is kept
abbrev pub put_back : Result Device Refusal → List ℕ → List ℕ
put_back (Ok d) s = stored_over d s
put_back (Err r) s = s

abbrev pub put_back_read : Result (Reading Device) Refusal → List ℕ → List ℕ
put_back_read (Ok g) s = stored_over g.after s
put_back_read (Err r) s = s
