-- What the code of a replay is proved from. The loop: what is left of the text gives what the whole gives.
use Prim.Native.Nat.{ℕ, ◌+◌, ◌-◌, ◌≤◌}
use mathlib.Core.Path.{◌≡◌, refl, ap, sym, ◌∙◌}
use mathlib.Core.Bool.{true, false}
use mathlib.Core.List.{List, [], ◌∷◌}
use native.Mathlib.Omega.{arith}
use lib.ListN.{length}
use Rattle.std.specs.Prelude.{Result, Ok, Err}
use Rattle.answer.specs.declared.Refusal.TheVariants.{Malformed as BadText, Different}
use Rattle.device.specs.Unit.{reset_device}
use Rattle.device.specs.declared.unit.Device.{Device}
use Rattle.trace.specs.Contents.{Check, passed, malformed_at, items_in, contents_at, contents_of}
use Rattle.trace.specs.Lines.{lines_from}
use Rattle.trace.specs.declared.item.Item.{Item}
use Rattle.trace.specs.declared.line.NoItem.{NoItem}
use Rattle.trace.proofs.ContentsLaws.{well-contents}
use Rattle.trace.proofs.LinesLaws.{lines-most}
use Rattle.playback.specs.Replay.{step_of, finished, stopped_at, ended, played_from, replay_by, replay_of}
use Rattle.playback.specs.declared.replaying.Replayed.{Replayed}
use Rattle.playback.specs.declared.step.Step.{Step}

pub played-same : (d : Device) (line : ℕ) (i : Item) (is : List Item) → (step_of d i).same ≡ true
    → played_from d line (i ∷ is) ≡ played_from (step_of d i).device (line + 1) is
unfolding played_from
played-same d line i is h = rw h

pub played-other : (d : Device) (line : ℕ) (i : Item) (is : List Item) → (step_of d i).same ≡ false
    → played_from d line (i ∷ is) ≡ ended (step_of d i).device (stopped_at Different line)
unfolding played_from
played-other d line i is h = rw h

pub played-end : (d : Device) (line : ℕ) → played_from d line [] ≡ ended d finished
unfolding played_from
played-end d line = refl

abbrev whole : List ℕ → Replayed
whole text = played_from reset_device 2 (contents_at text 8 2).items

-- after n lines, these are left; every line has a byte
pub record Playing (text : List ℕ) (d : Device) (n : ℕ) (lines : List (Result Item NoItem)) : Type 0 where
  pub small : n + length lines ≤ length text - 8
  pub left : played_from d (n + 2) (items_in lines) ≡ whole text

pub playing-start : (text : List ℕ) (d : Device) → d ≡ reset_device → Playing text d 0 (lines_from text 8)
playing-start text d e = record {
  small = omega (arith, lines-most text 8);
  left = ap (λ (x : Device). played_from x 2 (items_in (lines_from text 8))) e;
}

module _ (text : List ℕ) (d : Device) (n : ℕ) (lines : List (Result Item NoItem)) (p : Playing text d n lines) where
  -- with the lines that stand there
  left_by : (others : List (Result Item NoItem)) → lines ≡ others → played_from d (n + 2) (items_in others) ≡ whole text
  left_by others e = ap (λ (l : List (Result Item NoItem)). played_from d (n + 2) (items_in l)) (sym e) ∙ p.left

  module _ (line : Result Item NoItem) (rest : List (Result Item NoItem)) (e : lines ≡ line ∷ rest) (i : Item) (o : line ≡ Ok i) (s : Step) (q : s ≡ step_of d i) where
    next-item : played_from d (n + 2) (i ∷ items_in rest) ≡ whole text
    unfolding items_in
    next-item = left_by (Ok i ∷ rest) (e ∙ ap (λ (l : Result Item NoItem). l ∷ rest) o)

    pub playing-small : n + 9 ≤ length text
    playing-small = omega (arith, ap length e, p.small)

    pub playing-on : s.same ≡ true → Playing text s.device (n + 1) rest
    playing-on h =
        let k : n + 1 + 2 ≡ n + 2 + 1 = omega arith in
        record {
          small = omega (arith, ap length e, p.small);
          left =
              ap (λ (m : ℕ). played_from s.device m (items_in rest)) k
              ∙ ap (λ (x : Step). played_from x.device (n + 2 + 1) (items_in rest)) q
              ∙ sym (played-same d (n + 2) i (items_in rest) (ap (λ (x : Step). x.same) (sym q) ∙ h)) ∙ next-item;
        }

    pub playing-other : s.same ≡ false → ended s.device (stopped_at Different (n + 2)) ≡ whole text
    playing-other h =
        ap (λ (x : Step). ended x.device (stopped_at Different (n + 2))) q
        ∙ sym (played-other d (n + 2) i (items_in rest) (ap (λ (x : Step). x.same) (sym q) ∙ h)) ∙ next-item

  pub playing-malformed : (line : Result Item NoItem) (rest : List (Result Item NoItem)) → lines ≡ line ∷ rest → (bad : NoItem) → line ≡ Err bad
      → ended d finished ≡ whole text
  unfolding items_in
  playing-malformed line rest e bad o =
      sym (played-end d (n + 2)) ∙ left_by (Err bad ∷ rest) (e ∙ ap (λ (l : Result Item NoItem). l ∷ rest) o)

  pub playing-over : lines ≡ [] → ended d finished ≡ whole text
  unfolding items_in
  playing-over e = sym (played-end d (n + 2)) ∙ left_by [] e

-- the two ways that the code goes
pub replay-well : (text : List ℕ) (c : Check) (r : Replayed) → c ≡ (contents_of text).check → c ≡ passed
    → r ≡ played_from reset_device 2 (contents_at text 8 2).items → r ≡ replay_of text
replay-well text c r p q e =
    let w : (contents_of text).check ≡ passed = sym p ∙ q in
    e ∙ ap (λ (is : List Item). played_from reset_device 2 is) (ap (λ (x : _). x.items) (sym (well-contents text w)))
    ∙ ap (λ (x : Check). replay_by x (contents_of text).items) (sym w)

pub replay-malformed : (text : List ℕ) (c : Check) (line : ℕ) (d : Device) → c ≡ (contents_of text).check → c ≡ malformed_at line → d ≡ reset_device
    → ended d (stopped_at BadText line) ≡ replay_of text
replay-malformed text c line d p q e =
    ap (λ (x : Device). ended x (stopped_at BadText line)) e ∙ ap (λ (x : Check). replay_by x (contents_of text).items) (sym q ∙ p)
