-- What a hold answers and leaves, by the test of its level and by what its record decodes to.
use Prim.Native.Nat.{ℕ, ◌≤◌, ◌<◌}
use mathlib.Core.List.{List}
use mathlib.Core.Path.{◌≡◌, refl, ap, ◌∙◌}
use borrow.Author.Tests.{lt-ltb, le-ltb}
use Rattle.std.proofs.Common.{Err, MatchResult, Ok, Result}
use Rattle.answer.specs.declared.Refusal.TheVariants.{Level}
use Rattle.device.specs.Outcome.{read_answer_of, value_of}
use Rattle.device.specs.Holding.{hold_of}
use Rattle.device.specs.declared.unit.Device.{Device}
use Rattle.device.proofs.HoldingLaws.{held-ran, held-last}
use Rattle.record.specs.Codec.{decode_of}
use Rattle.record.specs.Kept.{put_back_read}
use Rattle.record.proofs.KeptLaws.{came, kept-as-read}
use Rattle.holding.specs.Hold.{hold_in, hold_on, hold_answer, hold_output, record_after_hold}
use Rattle.answer.specs.declared.Refusal.{Refusal}
use Rattle.answer.specs.declared.Reading.{Reading}

-- by the test of its level
pub hold_low : (d : Device) (l n : ℕ) {c : Reading Device} → l < 32 → c ≡ hold_of d l n → Ok c ≡ hold_in d l n
unfolding hold_in
hold_low d l n h e = rw (e, lt-ltb l 32 h, held-last n d l, held-ran n d l)

pub hold_high : (d : Device) (l n : ℕ) → 32 ≤ l → Err Level ≡ hold_in d l n
unfolding hold_in
hold_high d l n h = rw (le-ltb l 32 h)

-- what the record's device came to, or the record's own refusal
module _ (s : List ℕ) (l n : ℕ) where
  abbrev pub Came : Result Device Refusal → Result (Reading Device) Refusal → Type 0
  Came t g = MatchResult t (λ d. g ≡ hold_in d l n) (λ r. g ≡ Err r)

  pub held : (t : Result Device Refusal) (g : Result (Reading Device) Refusal) {k o : ℕ} {after : List ℕ} → t ≡ decode_of s → Came t g → k ≡ read_answer_of g → o ≡ value_of g → after ≡ put_back_read g s
      → (k ≡ hold_answer s l n) × ((o ≡ hold_output s l n) × (after ≡ record_after_hold s l n))
  unfolding hold_on
  held t g p m hk ho hs =
      let e = came (λ x. hold_on x l n) (λ r. refl) t p m (λ d h. h) in
      (hk ∙ ap read_answer_of e, (ho ∙ ap value_of e, hs ∙ ap (λ (x : Result (Reading Device) Refusal). put_back_read x s) e ∙ kept-as-read s (λ x. hold_on x l n) (λ r. refl)))
