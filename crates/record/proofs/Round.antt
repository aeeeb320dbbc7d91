-- Devices and records, one for one: the record of a valid device is accepted as that device, what is accepted is the
-- record of its device, which is valid, and each byte of it is below its limit. Assumes nothing.
use Prim.Native.Nat.{ℕ, zero, suc, ◌<◌}
use mathlib.Core.Bool.{Bool, true, false}
use mathlib.Core.List.{List, [], ◌∷◌, map}
use mathlib.Core.Path.{◌≡◌, refl, sym, ap, subst, ◌∙◌}
use native.Mathlib.Omega.{arith}
use lib.Dec.{eqb}
use lib.ListN.{length, get_or}
use borrow.Author.Tests.{eqb-true, eq-eqb, ne_eqb}
use Rattle.std.proofs.Common.{Err, Ok, Result}
use Rattle.choice.specs.Pick.{pick}
use Rattle.choice.proofs.Picks.{pick_true, pick-false, both}
use Rattle.device.specs.Valid.{Valid}
use Rattle.device.specs.declared.unit.Device.{Device}
use Rattle.record.specs.Layout.{record_length, most, limits}
use Rattle.record.specs.Image.{image_of}
use Rattle.record.specs.Lift.{device_at}
use Rattle.record.specs.Accepts.{accepts, is_record}
use Rattle.record.specs.Codec.{record_of, decode_of, stored_over}
use Rattle.record.proofs.LiftLaws.{lifted}
use Rattle.record.proofs.ImageLaws.{image-accepted}
use Rattle.record.proofs.BytesLaws.{limit, valid-device, image-again, refused-record}
use Rattle.answer.specs.declared.Refusal.{Refusal}
use Rattle.answer.specs.declared.Refusal.TheVariants.{Record}

record-lifted : (d : Device) → Valid d → device_at (record_of d) ≡ d
unfolding record_of
record-lifted d v = lifted d v

pub record-length : (d : Device) → length (record_of d) ≡ record_length
unfolding record_of
record-length d = refl

record-accepted : (d : Device) → Valid d → is_record (record_of d) ≡ true
unfolding record_of is_record
record-accepted d v = image-accepted d v

pub decode-record : (d : Device) → Valid d → decode_of (record_of d) ≡ Ok d
unfolding decode_of
decode-record d v = sym (pick_true _ _ _ _ (record-accepted d v) (ap Ok (sym (record-lifted d v))))

-- what is accepted, and as which device
record Source (s : List ℕ) (d : Device) : Type 0 where
  tested : accepts s ≡ true
  size : length s ≡ record_length
  device : device_at s ≡ d

pick-accepted : (t : Bool) (a d : Device) → pick t (Ok a) (Err Record) ≡ Ok d → (t ≡ true) × (a ≡ d)
pick-accepted true a d h = (refl, cc)
pick-accepted false a d h = absurd (let z : ◌≡◌ {A = ℕ} 0 1 = cc in omega arith)

accepted-source : (s : List ℕ) (d : Device) → decode_of s ≡ Ok d → Source s d
unfolding decode_of is_record
accepted-source s d h =
    let a = pick-accepted (is_record s) (device_at s) d h in
    let b = both (eqb (length s) record_length) (accepts s) a.0 in
    record { tested = b.1; size = eqb-true (length s) record_length b.0; device = a.1 }

pub record-decode : (s : List ℕ) (d : Device) → decode_of s ≡ Ok d → record_of d ≡ s
unfolding record_of
record-decode s d h =
    let q = accepted-source s d h in ap image_of (sym q.device) ∙ image-again s q.tested q.size

pub decode-valid : (s : List ℕ) (d : Device) → decode_of s ≡ Ok d → Valid d
decode-valid s d h = let q = accepted-source s d h in subst Valid q.device (valid-device s q.tested)

pub decode-length : (s : List ℕ) (d : Device) → decode_of s ≡ Ok d → length s ≡ record_length
decode-length s d h = ap length (sym (record-decode s d h)) ∙ record-length d

pub one-device : (d e : Device) → Valid d → Valid e → record_of d ≡ record_of e → d ≡ e
one-device d e v w h = sym (record-lifted d v) ∙ ap device_at h ∙ record-lifted e w

pub stored : (d : Device) (s : List ℕ) → length s ≡ record_length → stored_over d s ≡ record_of d
unfolding stored_over
stored d s h = sym (pick_true _ _ _ _ (eq-eqb (length s) record_length h) refl)

pub not-stored : (d : Device) (s : List ℕ) → (length s ≡ record_length → ⊥) → stored_over d s ≡ s
unfolding stored_over
not-stored d s h = sym (pick-false _ _ _ _ (ne_eqb (length s) record_length h) refl)

-- accepted or refused, as a case
absurd-case : (d : Device) → ◌≡◌ {A = Result Device Refusal} (Err Record) (Ok d) → ⊥
absurd-case d h = let z : ◌≡◌ {A = ℕ} 0 1 = cc in omega arith

-- refused exactly when no valid device has this image
pub refused : (s : List ℕ) → decode_of s ≡ (Err Record) → (d : Device) → Valid d → record_of d ≡ s → ⊥
refused s h d v e = absurd-case d (sym h ∙ ap decode_of (sym e) ∙ decode-record d v)

none-refused : (s : List ℕ) (r : Result Device Refusal) → decode_of s ≡ r → ((d : Device) → Valid d → record_of d ≡ s → ⊥) → r ≡ (Err Record)
none-refused s (Err r) h f = refused-record s r h
none-refused s (Ok d) h f = absurd (f d (decode-valid s d h) (record-decode s d h))

pub refused_none : (s : List ℕ) → ((d : Device) → Valid d → record_of d ≡ s → ⊥) → decode_of s ≡ (Err Record)
refused_none s f = none-refused s (decode_of s) refl f

suc-at : (ms : List ℕ) (i : ℕ) → i < length ms → get_or (map suc ms) i 0 ≡ suc (get_or ms i 0)
suc-at [] i h = absurd (omega arith)
suc-at (m ∷ ms) zero h = refl
suc-at (m ∷ ms) (suc i) h = suc-at ms i (omega arith)

pub bytes-in-range : (s : List ℕ) (d : Device) → decode_of s ≡ Ok d → (i : ℕ) → i < record_length → get_or s i 0 < get_or limits i 0
bytes-in-range s d h i l =
    let m = limit s (accepted-source s d h).tested i l in
    let e = suc-at most i l in
    omega arith
