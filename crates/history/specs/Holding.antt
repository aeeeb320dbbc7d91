-- A hold among the calls (document 02, M-106: 'It must equal that many single clocks'): on any bytes it leaves what as
-- many runs of one clock leave, and answers the last of their output bytes.
use Rattle.std.specs.Prelude.{ℕ, List, [], ◌∷◌, ◌≡◌, replicate}
use Rattle.device.specs.Holding.{last_of}
use Rattle.holding.specs.Hold.{hold_output}
use Rattle.history.specs.Call.{Call, pass, run, hold, effect, record_after, final_record, gathered}

abbrev pub single_clock : ℕ → Call
single_clock level = pass (run (level ∷ []) (0 ∷ []))

abbrev pub single_clocks : ℕ → ℕ → List Call
single_clocks level clocks = replicate clocks (single_clock level)

-- the output bytes that calls show, one after another
abbrev pub shown_by : List ℕ → List Call → List ℕ
shown_by s cs = gathered (λ s c. (effect s c).outputs) s cs

pub record Holding (s : List ℕ) (level clocks : ℕ) : Type 0 where
  pub after : record_after s (pass (hold level clocks)) ≡ final_record s (single_clocks level clocks)
  pub output : hold_output s level clocks ≡ last_of 0 (shown_by s (single_clocks level clocks))
  -- what stands in a list of calls for the output bytes that it does not answer
  pub outputs : (effect s (pass (hold level clocks))).outputs ≡ shown_by s (single_clocks level clocks)
