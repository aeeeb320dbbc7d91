-- What a call on a record comes to, by what the record decodes to. On a slice as long as a record, what is put back
-- is what is kept.
use Prim.Native.Nat.{ℕ}
use mathlib.Core.List.{List}
use mathlib.Core.Path.{◌≡◌, refl, sym, ap, ◌∙◌}
use lib.ListN.{length}
use Rattle.std.proofs.Common.{Err, Ok, Result, MatchResult}
use Rattle.record.specs.Layout.{record_length}
use Rattle.record.specs.Codec.{decode_of}
use Rattle.record.specs.Kept.{kept, kept_by_read, put_back, put_back_read}
use Rattle.record.proofs.Round.{decode-length, stored}
use Rattle.device.specs.declared.unit.Device.{Device}
use Rattle.answer.specs.declared.Refusal.{Refusal}
use Rattle.answer.specs.declared.Reading.{Reading}

pub put-back : (s : List ℕ) (w : Result Device Refusal) → length s ≡ record_length → put_back w s ≡ kept s w
put-back s (Ok d) h = stored d s h
put-back s (Err r) h = refl

pub put-back-read : (s : List ℕ) (g : Result (Reading Device) Refusal) → length s ≡ record_length → put_back_read g s ≡ kept_by_read s g
put-back-read s (Ok g) h = stored g.after s h
put-back-read s (Err r) h = refl

-- `and_then`: what the record's device came to, or the record's own refusal; P is what a closure says of a device
pub came : {B : Type 0} (on : Result Device Refusal → Result B Refusal) → ((r : Refusal) → on (Err r) ≡ Err r) → {w : Result B Refusal} (t : Result Device Refusal) {t' : Result Device Refusal}
    → t ≡ t' → {P : Device → Type 0} → MatchResult t P (λ r. w ≡ Err r) → ((d : Device) → P d → w ≡ on (Ok d)) → w ≡ on t'
came on f (Ok d) p m says = says d m ∙ ap on p
came on f (Err r) p m says = m ∙ sym (f r) ∙ ap on p

-- what is put back over a record is what is kept: one that is refused is not touched
module _ (s : List ℕ) where
  pub kept-as : (on : Result Device Refusal → Result Device Refusal) → ((r : Refusal) → on (Err r) ≡ Err r) → put_back (on (decode_of s)) s ≡ kept s (on (decode_of s))
  kept-as on f = by (decode_of s) refl
    where
      by : (t : Result Device Refusal) → decode_of s ≡ t → put_back (on t) s ≡ kept s (on t)
      by (Ok d) e = put-back s (on (Ok d)) (decode-length s d e)
      by (Err r) e = rw (f r) refl

  pub kept-as-read : (on : Result Device Refusal → Result (Reading Device) Refusal) → ((r : Refusal) → on (Err r) ≡ Err r) → put_back_read (on (decode_of s)) s ≡ kept_by_read s (on (decode_of s))
  kept-as-read on f = by (decode_of s) refl
    where
      by : (t : Result Device Refusal) → decode_of s ≡ t → put_back_read (on t) s ≡ kept_by_read s (on t)
      by (Ok d) e = put-back-read s (on (Ok d)) (decode-length s d e)
      by (Err r) e = rw (f r) refl
