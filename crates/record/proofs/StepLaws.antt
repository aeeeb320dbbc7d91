-- What a call of `count` says of the record that it was given. Assumes nothing.
use Prim.Native.Nat.{ℕ}
use mathlib.Core.Bool.{Bool, true, false}
use mathlib.Core.List.{List}
use mathlib.Core.Path.{◌≡◌, refl, sym, ap, subst, ◌∙◌}
use Rattle.std.proofs.Common.{Err, Ok, Result}
use Rattle.choice.specs.Pick.{pick}
use Rattle.choice.proofs.Picks.{pick_true, pick-false}
use Rattle.device.specs.Unit.{output_of}
use Rattle.device.specs.Counting.{is_counting, counted_device}
use Rattle.device.specs.declared.unit.Device.{Device}
use Rattle.record.specs.Lift.{device_at}
use Rattle.record.specs.Accepts.{is_record}
use Rattle.record.specs.Codec.{record_of, decode_of}
use Rattle.record.specs.InPlace.{stepped_of, stepped_over}
use Rattle.answer.specs.declared.Refusal.{Refusal}
use Rattle.record.specs.declared.in_place.Stepped.{Stepped}
use Rattle.answer.specs.declared.Refusal.TheVariants.{Record}
use Rattle.record.specs.declared.in_place.Stepped.TheVariants.{Counted, Due}

-- the record is no device's, or it is that of the device that its bytes say
accepted-as : (s : List ℕ) → is_record s ≡ true → decode_of s ≡ Ok (device_at s)
unfolding decode_of
accepted-as s h = sym (pick_true _ _ _ _ h refl)

refused_as : (s : List ℕ) → is_record s ≡ false → decode_of s ≡ (Err Record)
unfolding decode_of
refused_as s h = sym (pick-false _ _ _ _ h refl)

-- a clock that only counted
pub record CountedFrom (s : List ℕ) (level o : ℕ) : Type 0 where
  pub decoded : decode_of s ≡ Ok (device_at s)
  pub counting : is_counting (device_at s) level ≡ true
  pub output : o ≡ output_of (device_at s) level
  pub after : stepped_over s level ≡ record_of (counted_device (device_at s))

abbrev Says : List ℕ → ℕ → Bool → Bool → Result Stepped Refusal → List ℕ → Type 0
Says s level t c (Err r) s' = (t ≡ false) × ((r ≡ Record) × (s' ≡ s))
Says s level t c (Ok (Counted o)) s' = (t ≡ true) × ((c ≡ true) × ((o ≡ output_of (device_at s) level) × (s' ≡ record_of (counted_device (device_at s)))))
Says s level t c (Ok (Due d)) s' = (t ≡ true) × ((c ≡ false) × ((d ≡ device_at s) × (s' ≡ s)))

says : (s : List ℕ) (level : ℕ) (t c : Bool)
    → Says s level t c (pick t (pick c (Ok (Counted (output_of (device_at s) level))) (Ok (Due (device_at s)))) (Err Record)) (pick t (pick c (record_of (counted_device (device_at s))) s) s)
says s level true true = (refl, (refl, (refl, refl)))
says s level true false = (refl, (refl, (refl, refl)))
says s level false c = (refl, (refl, refl))

stepped-says : (s : List ℕ) (level : ℕ) (r : Result Stepped Refusal) → r ≡ stepped_of s level → Says s level (is_record s) (is_counting (device_at s) level) r (stepped_over s level)
unfolding stepped_of stepped_over
stepped-says s level r e =
    subst (λ (x : Result Stepped Refusal). Says s level (is_record s) (is_counting (device_at s) level) x (stepped_over s level)) (sym e)
    (says s level (is_record s) (is_counting (device_at s) level))

module _ (s : List ℕ) (level : ℕ) {r : Result Stepped Refusal} (e : r ≡ stepped_of s level) where
  pub counted-from : {o : ℕ} → r ≡ Ok (Counted o) → CountedFrom s level o
  counted-from {o} h =
      let q = stepped-says s level (Ok (Counted o)) (sym h ∙ e) in
      record { decoded = accepted-as s q.0; counting = q.1.0; output = q.1.1.0; after = q.1.1.1 }

  pub due-from : {d : Device} → r ≡ Ok (Due d) → (decode_of s ≡ Ok d) × (stepped_over s level ≡ s)
  due-from {d} h =
      let q = stepped-says s level (Ok (Due d)) (sym h ∙ e) in (accepted-as s q.0 ∙ ap Ok (sym q.1.1.0), q.1.1.1)

  pub refused-from : {why : Refusal} → r ≡ Err why → (decode_of s ≡ Err why) × (stepped_over s level ≡ s)
  refused-from {why} h =
      let q = stepped-says s level (Err why) (sym h ∙ e) in (refused_as s q.0 ∙ ap Err (sym q.1.0), q.1.1)
