-- The replay of a trace is the calls that the trace names (document 02, M-100), made on the record one after another:
-- their own answers are compared, and the record that it leaves is theirs.
use Rattle.std.specs.Prelude.{ℕ, ◌+◌, List, [], ◌∷◌, ◌++◌, map, ◌≡◌, length, replicate}
use Rattle.record.specs.Layout.{record_length}
use Rattle.trace.specs.Meaning.{IsText, MalformedAt}
use Rattle.trace.specs.declared.item.Item.{Item}
use Rattle.trace.specs.declared.item.Item.TheVariants.{Write, Read, Vector, Clocks}
use Rattle.warpmagpie.specs.Calls.{record_after_reset, write_answer, read_answer, read_value, vector_answer}
use Rattle.tracing.specs.Replay.{replay_answer, replay_line, record_after_replay}
use Rattle.history.specs.Call.{Call, write, read, vector, pass, run, record_after, final_record}

-- the call of an item; `C` is a run of as many equal level bytes
abbrev pub call_of : Item → Call
call_of (Write a v n) = write a v
call_of (Read a v n) = read a
call_of (Vector k n) = vector k
call_of (Clocks l c) = pass (run (replicate c l) (replicate c 0))

-- on this record it answers what was recorded
abbrev pub Answered : List ℕ → Item → Type 0
Answered s (Write a v n) = write_answer s a v ≡ n
Answered s (Read a v n) = (read_answer s a ≡ n) × (read_value s a ≡ v)
Answered s (Vector k n) = vector_answer s k ≡ n
Answered s (Clocks l c) = Unit {0}

abbrev pub AllAnswered : List ℕ → List Item → Type 0
AllAnswered s [] = Unit {0}
AllAnswered s (i ∷ is) = Answered s i × AllAnswered (record_after s (call_of i)) is

-- the record after the calls of items that follow a reset
abbrev pub record_after_items : List ℕ → List Item → List ℕ
record_after_items s is = final_record (record_after_reset s) (map call_of is)

-- number, line and record of a replay
pub record Answers (s text : List ℕ) (number line : ℕ) (after : List ℕ) : Type 0 where
  pub answer : replay_answer s text ≡ number
  pub at : replay_line s text ≡ line
  pub left : record_after_replay s text ≡ after

pub record Replaying (s text : List ℕ) : Type 0 where
  -- 5 'for a wrong length alone': the record keeps its bytes
  pub no_record : (length s ≡ record_length → ⊥) → Answers s text 5 0 s
  -- 9: the record is 'as at reset'
  pub malformed : length s ≡ record_length → (line : ℕ) → MalformedAt text line → Answers s text 9 line (record_after_reset s)
  -- 10: the record is 'as after that call'
  pub different : length s ≡ record_length → (is : List Item) (i : Item) (js : List Item) → IsText text (is ++ i ∷ js)
      → AllAnswered (record_after_reset s) is → (Answered (record_after_items s is) i → ⊥)
      → Answers s text 10 (2 + length is) (record_after (record_after_items s is) (call_of i))
  pub done : length s ≡ record_length → (is : List Item) → IsText text is → AllAnswered (record_after_reset s) is
      → Answers s text 0 0 (record_after_items s is)
