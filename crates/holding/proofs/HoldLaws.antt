-- Holds after each other are one hold, and no clocks change nothing.
use Prim.Native.Nat.{ℕ, ◌+◌}
use mathlib.Core.Bool.{true, false}
use mathlib.Core.List.{List}
use mathlib.Core.Path.{◌≡◌, refl, sym, ap, ◌∙◌}
use lib.Dec.{ltb}
use lib.ListN.{replicate}
use Rattle.std.proofs.Common.{Err, Ok, Result}
use Rattle.choice.proofs.Picks.{split}
use Rattle.device.specs.Holding.{held_of, last_of, held_output}
use Rattle.device.specs.Outcome.{read_answer_of, value_of}
use Rattle.device.specs.Run.{ran_of, outputs_of}
use Rattle.device.specs.declared.unit.Device.{Device}
use Rattle.device.proofs.HoldingLaws.{held-ran, held-last, held-add, held-output-add}
use Rattle.device.proofs.ValidLaws.{valid-run}
use Rattle.record.specs.Codec.{decode_of, record_of}
use Rattle.record.specs.Kept.{kept_by_read}
use Rattle.record.proofs.Round.{decode-record, decode-valid, record-decode}
use Rattle.holding.specs.Hold.{hold_in, hold_on, hold_output, record_after_hold, Adds}
use Rattle.answer.specs.declared.Refusal.{Refusal}
use Rattle.answer.specs.declared.Reading.{Reading}

module _ (l : ℕ) where
  -- with a level byte that is none everything is refused
  high : (x : Result Device Refusal) (n m : ℕ) → ltb l 32 ≡ false → hold_on x l n ≡ hold_on x l m
  unfolding hold_on hold_in
  high (Ok d) n m h = rw h
  high (Err _) n m h = refl

  refused : (x : Result Device Refusal) (n : ℕ) (s : List ℕ) → ltb l 32 ≡ false → kept_by_read s (hold_on x l n) ≡ s
  unfolding hold_on hold_in
  refused (Ok d) n s h = rw h
  refused (Err _) n s h = refl

  -- with any other, on a record of d
  module _ (low : ltb l 32 ≡ true) (s : List ℕ) (d : Device) (h : decode_of s ≡ Ok d) where
    abbrev came : ℕ → Result (Reading Device) Refusal
    came n = Ok (record { value = held_output d l n; after = held_of d l n })

    done : (n : ℕ) → hold_on (decode_of s) l n ≡ came n
    unfolding hold_on hold_in
    done n = rw (h, low, held-ran n d l, held-last n d l)

    left : (n : ℕ) → record_after_hold s l n ≡ record_of (held_of d l n)
    left n = ap (kept_by_read s) (done n)

    left-device : (n : ℕ) → decode_of (record_after_hold s l n) ≡ Ok (held_of d l n)
    left-device n =
        ap decode_of (left n ∙ ap record_of (held-ran n d l))
        ∙ decode-record (ran_of d (replicate n l)) (valid-run d (replicate n l) (decode-valid s d h))
        ∙ ap Ok (sym (held-ran n d l))

  adds-done : (low : ltb l 32 ≡ true) (s : List ℕ) (d : Device) → decode_of s ≡ Ok d → (n m : ℕ) → Adds s l n m
  adds-done low s d h n m =
      let t : List ℕ = record_after_hold s l n in
      let then = done low t (held_of d l n) (left-device low s d h n) m in
      let once = done low s d h (n + m) in
      record {
        after = ap (kept_by_read t) then ∙ ap record_of (sym (held-add d l n m)) ∙ sym (ap (kept_by_read s) once);
        answer = ap read_answer_of then ∙ sym (ap read_answer_of once);
        output = λ z. ap value_of then ∙ sym (held-output-add d l n m z) ∙ sym (ap value_of once);
      }

  adds-refused : (s : List ℕ) → ((n : ℕ) → record_after_hold s l n ≡ s) → ((n m : ℕ) → hold_on (decode_of s) l n ≡ hold_on (decode_of s) l m)
      → (n m : ℕ) → Adds s l n m
  adds-refused s k e n m =
      let same : hold_on (decode_of (record_after_hold s l n)) l m ≡ hold_on (decode_of s) l (n + m) = ap (λ (t : List ℕ). hold_on (decode_of t) l m) (k n) ∙ e m (n + m) in
      record {
        after = ap (λ (t : List ℕ). record_after_hold t l m) (k n) ∙ k m ∙ sym (k (n + m));
        answer = ap read_answer_of same;
        output = λ z. ap value_of same;
      }

  adds-by : (s : List ℕ) (x : Result Device Refusal) → decode_of s ≡ x → (n m : ℕ) → Adds s l n m
  unfolding hold_on
  adds-by s (Ok d) h n m =
      split (ltb l 32) (λ low. adds-done low s d h n m)
      (λ no. adds-refused s (λ k. refused (decode_of s) k s no) (λ j k. high (decode_of s) j k no) n m)
  adds-by s (Err _) h n m = adds-refused s (λ k. rw h) (λ j k. rw h) n m

  -- n clocks and then m are n + m, on any bytes
  pub hold-adds : (s : List ℕ) (n m : ℕ) → Adds s l n m
  hold-adds s = adds-by s (decode_of s) refl

  none-by : (s : List ℕ) (x : Result Device Refusal) → decode_of s ≡ x → (record_after_hold s l 0 ≡ s) × (hold_output s l 0 ≡ 0)
  unfolding hold_on hold_in ran_of outputs_of last_of
  none-by s (Ok d) h =
      split (ltb l 32) (λ low. rw (h, low) (record-decode s d h, refl))
      (λ no. rw (h, no) (refl, refl))
  none-by s (Err _) h = rw h (refl, refl)

  -- no clocks change nothing, and answer no output
  pub hold-none : (s : List ℕ) → (record_after_hold s l 0 ≡ s) × (hold_output s l 0 ≡ 0)
  hold-none s = none-by s (decode_of s) refl
