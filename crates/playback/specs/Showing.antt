-- What a replay shows (document 02, M-109: 'replay ends in the same device with the same outputs and number'): the
-- output byte after each of its clocks, which its calls do not answer.
use Rattle.std.specs.Prelude.{ℕ, Ok, Err, List, [], ◌∷◌, ◌++◌, ◌≡◌, replicate}
use Rattle.choice.specs.Pick.{pick}
use Rattle.device.specs.Run.{outputs_of}
use Rattle.device.specs.Unit.{reset_device}
use Rattle.device.specs.declared.unit.Device.{Device}
use Rattle.trace.specs.Contents.{Check, contents_of}
use Rattle.trace.specs.declared.item.Item.{Item}
use Rattle.trace.specs.declared.item.Item.TheVariants.{Write, Read, Vector, Clocks}
use Rattle.playback.specs.Replay.{step_of, replay_of, outcome_number}

-- of one item: a call passes no clock
abbrev pub shown_at : Device → Item → List ℕ
shown_at d (Write a v n) = []
shown_at d (Read a v n) = []
shown_at d (Vector k n) = []
shown_at d (Clocks l c) = outputs_of d (replicate c l)

-- of items, up to one that is answered otherwise
unfoldable pub shown_from : Device → List Item → List ℕ
shown_from d [] = []
shown_from d (i ∷ is) = shown_at d i ++ pick (step_of d i).same (shown_from (step_of d i).device is) []

-- a malformed text plays no item
abbrev pub shown_by : Check → List Item → List ℕ
shown_by (Ok tt) is = shown_from reset_device is
shown_by (Err bad) is = []

abbrev pub shown_of : List ℕ → List ℕ
shown_of text = shown_by (contents_of text).check (contents_of text).items

-- two texts replay alike; 'the line of a refusal 10 may differ'
pub record Alike (text other : List ℕ) : Type 0 where
  pub device : (replay_of text).device ≡ (replay_of other).device
  pub outputs : shown_of text ≡ shown_of other
  pub number : outcome_number (replay_of text).outcome ≡ outcome_number (replay_of other).outcome
