-- A hold is as many runs of one clock.
use Prim.Native.Nat.{ℕ, zero, suc, ◌+◌}
use mathlib.Core.Bool.{true}
use mathlib.Core.List.{List, [], ◌∷◌, ◌++◌}
use mathlib.Core.Path.{◌≡◌, refl, sym, ap, ap₂, ◌∙◌}
use lib.Dec.{ltb}
use lib.ListN.{length, replicate}
use Rattle.std.proofs.Common.{Err, Ok, Result}
use Rattle.choice.proofs.Picks.{split}
use Rattle.device.specs.Holding.{last_of}
use Rattle.device.specs.Run.{ran_of, outputs_of, are_levels}
use Rattle.device.specs.Unit.{clock_of, output_of}
use Rattle.device.specs.declared.unit.Device.{Device}
use Rattle.device.proofs.ValidLaws.{valid-clock}
use Rattle.record.proofs.BytesLaws.{refused-record}
use Rattle.record.specs.Codec.{decode_of, record_of}
use Rattle.record.proofs.Round.{decode-record, decode-valid, record-decode}
use Rattle.warpmagpie.specs.Calls.{run_on, outputs_on}
use Rattle.holding.specs.Hold.{hold_in, hold_on, hold_output, record_after_hold}
use Rattle.history.specs.Call.{Call, pass, hold, effect, record_after, final_record, along}
use Rattle.history.specs.Holding.{single_clock, single_clocks, Holding}
use Rattle.answer.specs.declared.Refusal.{Refusal}

-- the bytes that the calls show, told how many clocks have passed
abbrev shown : ℕ → List ℕ → List Call → List ℕ
shown j s cs = along (λ j s c. (effect s c).outputs) j s cs

module _ (l : ℕ) where
  -- a level byte that is one, on a record of d
  module _ (low : ltb l 32 ≡ true) where
    one-after : (s : List ℕ) (d : Device) → decode_of s ≡ Ok d → record_after s (single_clock l) ≡ record_of (clock_of d l)
    unfolding run_on are_levels ran_of
    one-after s d h = rw (h, low)

    one-shown : (s : List ℕ) (d : Device) → decode_of s ≡ Ok d → (effect s (single_clock l)).outputs ≡ output_of (clock_of d l) l ∷ []
    unfolding run_on outputs_on are_levels outputs_of
    one-shown s d h = rw (h, low)

    one-device : (s : List ℕ) (d : Device) → decode_of s ≡ Ok d → decode_of (record_after s (single_clock l)) ≡ Ok (clock_of d l)
    one-device s d h = ap decode_of (one-after s d h) ∙ decode-record (clock_of d l) (valid-clock d l (decode-valid s d h))

    singles-after : (n : ℕ) (s : List ℕ) (d : Device) → decode_of s ≡ Ok d → final_record s (single_clocks l n) ≡ record_of (ran_of d (replicate n l))
    unfolding ran_of
    singles-after zero s d h = sym (record-decode s d h)
    singles-after (suc n) s d h = singles-after n (record_after s (single_clock l)) (clock_of d l) (one-device s d h)

    singles-shown : (n j : ℕ) (s : List ℕ) (d : Device) → decode_of s ≡ Ok d → shown j s (single_clocks l n) ≡ outputs_of d (replicate n l)
    unfolding outputs_of
    singles-shown zero j s d h = refl
    singles-shown (suc n) j s d h =
        ap₂ (◌++◌) (one-shown s d h)
        (singles-shown n (j + length (effect s (single_clock l)).levels) (record_after s (single_clock l)) (clock_of d l) (one-device s d h))

    done : (s : List ℕ) (d : Device) → decode_of s ≡ Ok d → (n : ℕ) → Holding s l n
    unfolding hold_on hold_in outputs_on
    done s d h n = record {
      after = rw (h, low) (sym (singles-after n s d h));
      output = rw (h, low) (ap (last_of 0) (sym (singles-shown n 0 s d h)));
      outputs = rw (h, low) (sym (singles-shown n 0 s d h));
    }

  -- a single clock that is refused
  module _ (s : List ℕ) (same : record_after s (single_clock l) ≡ s) (none : (effect s (single_clock l)).outputs ≡ []) where
    kept-after : (n : ℕ) → final_record s (single_clocks l n) ≡ s
    kept-after zero = refl
    kept-after (suc n) = ap (λ (t : List ℕ). final_record t (single_clocks l n)) same ∙ kept-after n

    kept-shown : (n j : ℕ) → shown j s (single_clocks l n) ≡ []
    kept-shown zero j = refl
    kept-shown (suc n) j =
        let k = j + length (effect s (single_clock l)).levels in
        ap₂ (◌++◌) none (ap (λ (t : List ℕ). shown k t (single_clocks l n)) same ∙ kept-shown n k)

    refused : (n : ℕ) → record_after_hold s l n ≡ s → hold_output s l n ≡ 0 → (effect s (pass (hold l n))).outputs ≡ [] → Holding s l n
    unfolding last_of
    refused n a o e = record {
      after = a ∙ sym (kept-after n);
      output = o ∙ ap (last_of 0) (sym (kept-shown n 0));
      outputs = e ∙ sym (kept-shown n 0);
    }

  by : (s : List ℕ) (x : Result Device Refusal) → decode_of s ≡ x → (n : ℕ) → Holding s l n
  unfolding hold_on hold_in run_on outputs_on are_levels
  by s (Ok d) h n =
      split (ltb l 32) (λ low. done low s d h n) (λ no. refused s (rw (h, no)) (rw (h, no)) n (rw (h, no)) (rw (h, no)) (rw (h, no)))
  by s (Err r) h n = let e = h ∙ refused-record s r h in refused s (rw e) (rw e) n (rw e) (rw e) (rw e)

pub holds : (s : List ℕ) (l n : ℕ) → Holding s l n
holds s l = by l s (decode_of s) refl
