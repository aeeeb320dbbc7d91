-- A run of clocks, a level byte and an output byte for each (document 01, 'Numbers the rig sees': for a run 5, 6, 7).
use Rattle.std.specs.Prelude.{ℕ, Bool, true, false, List, [], ◌∷◌, eqb, ltb, length, Err, Ok, Result}
use Rattle.answer.specs.declared.Refusal.TheVariants.{Length, Level}
use Rattle.choice.specs.Pick.{pick}
use Rattle.device.specs.Unit.{clock_of, output_of}
use Rattle.device.specs.declared.unit.Device.{Device}
use Rattle.answer.specs.declared.Refusal.{Refusal}

-- the device after the run
unfoldable pub ran_of : Device → List ℕ → Device
ran_of d [] = d
ran_of d (l ∷ ls) = ran_of (clock_of d l) ls

-- the output byte after each clock
unfoldable pub outputs_of : Device → List ℕ → List ℕ
outputs_of d [] = []
outputs_of d (l ∷ ls) = output_of (clock_of d l) l ∷ outputs_of (clock_of d l) ls

-- no level byte has bit 5, 6 or 7 set
unfoldable pub are_levels : List ℕ → Bool
are_levels [] = true
are_levels (l ∷ ls) = pick (ltb l 32) (are_levels ls) false

-- 6 for the lengths, then 7 for the levels, before any clock passes
abbrev pub run_of : Device → List ℕ → List ℕ → Result Device Refusal
run_of d ls os = pick (eqb (length os) (length ls)) (pick (are_levels ls) (Ok (ran_of d ls)) (Err Level)) (Err Length)

-- a refusal leaves the output slice untouched
abbrev pub shown : List ℕ → List ℕ → Result Device Refusal → List ℕ
shown os new (Ok d) = new
shown os new (Err r) = os
