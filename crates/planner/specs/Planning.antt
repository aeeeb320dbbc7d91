-- What planner and check answer (document 02, M-104).
use Rattle.std.specs.Prelude.{◌≡◌, Bool, false, ◌↔◌, ℕ, ◌≤◌, leb, ℤ, pos, Result, Ok, Err}
use Rattle.choice.specs.Pick.{pick, digit}
use Rattle.answer.specs.Number.{number_in}
use Rattle.answer.specs.declared.Refusal.{Refusal}
use Rattle.answer.specs.declared.Refusal.TheVariants.{Range}
use Rattle.planner.specs.Setting.{samples, total, Best, Chosen}
use Rattle.planner.specs.Neighbour.{is_best_at, ubrr_at}
use Rattle.planner.specs.Figure.{Nearest, tenths_at}
use Rattle.planner.specs.declared.outcome.Plan.{Plan}

-- 'For a clock of 1 to 20,000,000 Hz and a rate of 1 to 2,500,000'
abbrev pub is_in_range : ℕ → ℕ → Bool
is_in_range clock rate = pick (leb 1 clock) (pick (leb clock 20000000) (pick (leb 1 rate) (leb rate 2500000) false) false) false

-- a UBRR and its error
abbrev pub plan_at : ℕ → ℕ → ℕ → Plan
plan_at clock S rate = let u = ubrr_at clock S rate in record { ubrr = u; tenths = tenths_at clock (total S rate u) }

-- the planner
unfoldable pub planned_of : ℕ → ℕ → ℕ → Result Plan Refusal
planned_of clock rate u2x =
    pick (is_in_range clock rate) (Ok (plan_at clock (samples u2x) rate)) (Err Range)

-- the check: yes or no
unfoldable pub checked_of : ℕ → ℕ → ℕ → ℕ → Result Bool Refusal
checked_of clock rate u2x ubrr = pick (is_in_range clock rate) (Ok (is_best_at clock (samples u2x) rate ubrr)) (Err Range)

-- 'else number 11 from planner and check alike, and all answers 0'
abbrev pub plan_number_of : Result Plan Refusal → ℕ
plan_number_of p = number_in p

abbrev pub ubrr_of : Result Plan Refusal → ℕ
ubrr_of (Ok plan) = plan.ubrr
ubrr_of (Err r) = 0

abbrev pub tenths_of : Result Plan Refusal → ℤ
tenths_of (Ok plan) = plan.tenths
tenths_of (Err r) = pos 0

abbrev pub check_number_of : Result Bool Refusal → ℕ
check_number_of c = number_in c

abbrev pub accepted_of : Result Bool Refusal → ℕ
accepted_of (Ok accepted) = digit accepted
accepted_of (Err r) = 0

-- The promise, for every clock and rate in range, any byte for U2X and any proposal.
pub record Plans (clock rate u2x : ℕ) : Type 0 where
  pub done : plan_number_of (planned_of clock rate u2x) ≡ 0
  pub chosen : Chosen clock (samples u2x) rate (ubrr_of (planned_of clock rate u2x))
  pub accepted : accepted_of (checked_of clock rate u2x (ubrr_of (planned_of clock rate u2x))) ≡ 1
  pub nearest : Nearest clock (total (samples u2x) rate (ubrr_of (planned_of clock rate u2x))) (tenths_of (planned_of clock rate u2x))

pub record Checks (clock rate u2x ubrr : ℕ) : Type 0 where
  pub done : check_number_of (checked_of clock rate u2x ubrr) ≡ 0
  pub told : accepted_of (checked_of clock rate u2x ubrr) ≤ 1
  pub exactly : (accepted_of (checked_of clock rate u2x ubrr) ≡ 1) ↔ Best clock (samples u2x) rate ubrr

-- .. and of every other
pub record Refuses (clock rate u2x ubrr : ℕ) : Type 0 where
  pub planner : plan_number_of (planned_of clock rate u2x) ≡ 11
  pub no_ubrr : ubrr_of (planned_of clock rate u2x) ≡ 0
  pub no_tenths : tenths_of (planned_of clock rate u2x) ≡ pos 0
  pub check : check_number_of (checked_of clock rate u2x ubrr) ≡ 11
  pub no : accepted_of (checked_of clock rate u2x ubrr) ≡ 0
