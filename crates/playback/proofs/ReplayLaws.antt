-- A replay keeps to the request's words.
use Prim.Native.Nat.{ℕ, ◌+◌}
use mathlib.Core.Path.{◌≡◌, refl, ap, ap₂, ◌∙◌}
use mathlib.Core.Bool.{true, false, ◌&&◌}
use mathlib.Core.List.{List, [], ◌∷◌, ◌++◌}
use native.Mathlib.Omega.{arith}
use lib.Dec.{eqb}
use lib.ListN.{length}
use borrow.Author.Tests.{eq-eqb, eqb-true, ne_eqb}
use Rattle.choice.proofs.Picks.{split}
use Rattle.answer.specs.declared.Refusal.TheVariants.{Different}
use Rattle.device.specs.Outcome.{answer_of, read_answer_of, value_of}
use Rattle.device.specs.Register.{write_of, read_of, vector_of}
use Rattle.device.specs.Unit.{reset_device}
use Rattle.device.specs.declared.unit.Device.{Device}
use Rattle.trace.specs.Contents.{Check, contents_of}
use Rattle.trace.specs.Meaning.{IsText}
use Rattle.trace.specs.declared.item.Item.{Item}
use Rattle.trace.specs.declared.item.Item.TheVariants.{Write, Read, Vector, Clocks}
use Rattle.trace.proofs.Reading.{reads}
use Rattle.playback.specs.Replay.{step_of, finished, stopped_at, ended, played_from, replay_by, replay_of}
use Rattle.playback.specs.Meaning.{after_items, Agrees, AllAgree, Replays}
use Rattle.playback.proofs.Playing.{played-same, played-other, played-end}

-- the comparison says whether the device agrees
module _ (d : Device) where
  same_read : (a v n : ℕ) → (Agrees d (Read a v n) → ⊥) → eqb (read_answer_of (read_of d a)) n && eqb (value_of (read_of d a)) v ≡ false
  same_read a v n h =
      split (eqb (read_answer_of (read_of d a)) n)
      (λ t. rw (t, ne_eqb (value_of (read_of d a)) v (λ e. h (eqb-true (read_answer_of (read_of d a)) n t, e))))
      (λ t. rw t)

  pub disagrees-other : (i : Item) → (Agrees d i → ⊥) → (step_of d i).same ≡ false
  unfolding step_of
  disagrees-other (Write a v n) h = ne_eqb (answer_of (write_of d a v)) n h
  disagrees-other (Read a v n) h = same_read a v n h
  disagrees-other (Vector k n) h = ne_eqb (answer_of (vector_of d k)) n h
  disagrees-other (Clocks l c) h = absurd (h tt)

  pub agrees-same : (i : Item) → Agrees d i → (step_of d i).same ≡ true
  unfolding step_of
  agrees-same (Write a v n) e = eq-eqb (answer_of (write_of d a v)) n e
  agrees-same (Read a v n) e = rw (eq-eqb (read_answer_of (read_of d a)) n e.0, eq-eqb (value_of (read_of d a)) v e.1)
  agrees-same (Vector k n) e = eq-eqb (answer_of (vector_of d k)) n e
  agrees-same (Clocks l c) e = refl

played-all : (d : Device) (line : ℕ) (is : List Item) → AllAgree d is → played_from d line is ≡ ended (after_items d is) finished
played-all d line [] a = played-end d line
played-all d line (i ∷ is) a = played-same d line i is (agrees-same d i a.0) ∙ played-all (step_of d i).device (line + 1) is a.1

played-first : (d : Device) (line : ℕ) (is : List Item) (i : Item) (js : List Item) → AllAgree d is → (Agrees (after_items d is) i → ⊥)
    → played_from d line (is ++ i ∷ js) ≡ ended (step_of (after_items d is) i).device (stopped_at Different (line + length is))
played-first d line [] i js a h = let z : line ≡ line + 0 = omega arith in played-other d line i js (disagrees-other d i h) ∙ ap (λ (n : ℕ). ended (step_of d i).device (stopped_at Different n)) z
played-first d line (k ∷ is) i js a h =
    let z : line + 1 + length is ≡ line + length (k ∷ is) = omega arith in
    played-same d line k (is ++ i ∷ js) (agrees-same d k a.0) ∙ played-first (step_of d k).device (line + 1) is i js a.1 h
    ∙ ap (λ (n : ℕ). ended (step_of (after_items (step_of d k).device is) i).device (stopped_at Different n)) z

-- a well-formed text is played
well-played : (text : List ℕ) (is : List Item) → IsText text is → replay_of text ≡ played_from reset_device 2 is
well-played text is w = let f = (reads text).found is w in ap₂ replay_by f.0 f.1

pub replays : (text : List ℕ) → Replays text
replays text = record {
  done = λ is w a. well-played text is w ∙ played-all reset_device 2 is a;
  different = λ is i js w a h. well-played text (is ++ i ∷ js) w ∙ played-first reset_device 2 is i js a h;
  malformed = λ line m. ap (λ (c : Check). replay_by c (contents_of text).items) ((reads text).refused line m);
}
