-- What a replay keeps to, in the request's words (document 02, M-100).
use Rattle.std.specs.Prelude.{ℕ, ◌+◌, List, [], ◌∷◌, ◌++◌, ◌≡◌, length}
use Rattle.answer.specs.declared.Refusal.TheVariants.{Malformed, Different}
use Rattle.device.specs.Outcome.{answer_of, read_answer_of, value_of}
use Rattle.device.specs.Register.{write_of, read_of, vector_of}
use Rattle.device.specs.Unit.{reset_device}
use Rattle.device.specs.declared.unit.Device.{Device}
use Rattle.trace.specs.Meaning.{IsText, MalformedAt}
use Rattle.trace.specs.declared.item.Item.{Item}
use Rattle.trace.specs.declared.item.Item.TheVariants.{Write, Read, Vector, Clocks}
use Rattle.playback.specs.Replay.{step_of, finished, stopped_at, ended, replay_of}

-- the device after items
abbrev pub after_items : Device → List Item → Device
after_items d [] = d
after_items d (i ∷ is) = after_items (step_of d i).device is

-- the device answers an item as it was recorded; of a read, number and value. Clocks have no answer
abbrev pub Agrees : Device → Item → Type 0
Agrees d (Write a v n) = answer_of (write_of d a v) ≡ n
Agrees d (Read a v n) = (read_answer_of (read_of d a) ≡ n) × (value_of (read_of d a) ≡ v)
Agrees d (Vector k n) = answer_of (vector_of d k) ≡ n
Agrees d (Clocks l c) = Unit {0}

abbrev pub AllAgree : Device → List Item → Type 0
AllAgree d [] = Unit {0}
AllAgree d (i ∷ is) = Agrees d i × AllAgree (step_of d i).device is

-- every text is well-formed or malformed at one line (`Reads`), so one of the three applies
pub record Replays (text : List ℕ) : Type 0 where
  -- all answered as recorded
  pub done : (is : List Item) → IsText text is → AllAgree reset_device is → replay_of text ≡ ended (after_items reset_device is) finished
  -- the first that is not: its line, and the device as after it
  pub different : (is : List Item) (i : Item) (js : List Item) → IsText text (is ++ i ∷ js) → AllAgree reset_device is
      → (Agrees (after_items reset_device is) i → ⊥)
      → replay_of text ≡ ended (step_of (after_items reset_device is) i).device (stopped_at Different (2 + length is))
  -- no item is played
  pub malformed : (line : ℕ) → MalformedAt text line → replay_of text ≡ ended reset_device (stopped_at Malformed line)
