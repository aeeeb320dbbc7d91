-- The replay of a trace on a record (document 02, M-100): what it answers, the line, and every byte of the record after
-- it. It begins by a reset, refuses as a reset does, and stands in no list of calls.
use Rattle.std.specs.Prelude.{ℕ, Bool, List, eqb, length}
use Rattle.choice.specs.Pick.{pick}
use Rattle.answer.specs.Number.{number_of}
use Rattle.answer.specs.declared.Refusal.TheVariants.{Record}
use Rattle.playback.specs.Replay.{replay_of, outcome_number, outcome_line}
use Rattle.record.specs.Codec.{record_of}
use Rattle.record.specs.Layout.{record_length}

abbrev pub has_length : List ℕ → Bool
has_length s = eqb (length s) record_length

abbrev pub replay_answer : List ℕ → List ℕ → ℕ
replay_answer s text = pick (has_length s) (outcome_number (replay_of text).outcome) (number_of Record)

-- 5 answers no line
abbrev pub replay_line : List ℕ → List ℕ → ℕ
replay_line s text = pick (has_length s) (outcome_line (replay_of text).outcome) 0

-- 9 and 10 leave a record too: 'in replay, by these two alone, a refusal changes the record'
abbrev pub record_after_replay : List ℕ → List ℕ → List ℕ
record_after_replay s text = pick (has_length s) (record_of (replay_of text).device) s
