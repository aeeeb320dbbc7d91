-- What the two calls answer (document 02, M-109: 'writer and shrink answer number and length, no line'), to a list or a
-- text and the buffer that is lent. Every byte of the buffer is `buffer_written` or `buffer_shrunk` of `trace`.
use Rattle.std.specs.Prelude.{ℕ, Result, List, length}
use Rattle.answer.specs.Number.{number_in, value_or}
use Rattle.answer.specs.declared.Refusal.{Refusal}
use Rattle.trace.specs.Filling.{written_by, shrunk_by}

abbrev pub filled_number : Result ℕ Refusal → ℕ
filled_number r = number_in r

-- a refusal answers 0
abbrev pub filled_length : Result ℕ Refusal → ℕ
filled_length r = value_or 0 r

abbrev pub trace_write_answer : List ℕ → List ℕ → ℕ
trace_write_answer list buffer = filled_number (written_by list (length buffer))

abbrev pub trace_write_length : List ℕ → List ℕ → ℕ
trace_write_length list buffer = filled_length (written_by list (length buffer))

abbrev pub trace_shrink_answer : List ℕ → List ℕ → ℕ
trace_shrink_answer text buffer = filled_number (shrunk_by text (length buffer))

abbrev pub trace_shrink_length : List ℕ → List ℕ → ℕ
trace_shrink_length text buffer = filled_length (shrunk_by text (length buffer))
