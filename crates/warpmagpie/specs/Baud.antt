-- The calls that choose a baud setting (document 02, M-104): what each answers. They take no record, and stand in no
-- list of calls.
use Rattle.std.specs.Prelude.{ℕ, ℤ}
use Rattle.planner.specs.Planning.{planned_of, plan_number_of, ubrr_of, tenths_of, checked_of, check_number_of, accepted_of}

-- by clock in Hz, rate, and U2X as a byte, of which 0 is normal speed and any other double
abbrev pub plan_answer : ℕ → ℕ → ℕ → ℕ
plan_answer clock rate u2x = plan_number_of (planned_of clock rate u2x)

abbrev pub plan_ubrr : ℕ → ℕ → ℕ → ℕ
plan_ubrr clock rate u2x = ubrr_of (planned_of clock rate u2x)

abbrev pub plan_tenths : ℕ → ℕ → ℕ → ℤ
plan_tenths clock rate u2x = tenths_of (planned_of clock rate u2x)

-- .. and a UBRR, anybody's
abbrev pub check_answer : ℕ → ℕ → ℕ → ℕ → ℕ
check_answer clock rate u2x ubrr = check_number_of (checked_of clock rate u2x ubrr)

abbrev pub check_accepted : ℕ → ℕ → ℕ → ℕ → ℕ
check_accepted clock rate u2x ubrr = accepted_of (checked_of clock rate u2x ubrr)
