-- A replay depends on nothing but the clocks and calls in order, so a shrunk text replays as the text does.
use Prim.Native.Nat.{ℕ, zero, suc, ◌+◌}
use mathlib.Core.Path.{◌≡◌, refl, ap, sym, ◌∙◌}
use mathlib.Core.Bool.{true, false}
use mathlib.Core.List.{List, [], ◌∷◌, ◌++◌, append_assoc}
use native.Mathlib.Omega.{arith}
use lib.ListN.{replicate}
use Rattle.choice.proofs.Picks.{split}
use Rattle.choice.proofs.TimesLaws.{times-add}
use Rattle.choice.specs.Times.{times}
use Rattle.device.specs.Holding.{clock_at, held_of}
use Rattle.device.specs.Run.{outputs_of}
use Rattle.device.specs.Unit.{reset_device}
use Rattle.device.specs.declared.unit.Device.{Device}
use Rattle.trace.specs.Contents.{Check, passed, contents_of}
use Rattle.trace.specs.Promises.{units_of, expanded_of, SameText}
use Rattle.trace.specs.Shrinking.{shrunk_text}
use Rattle.trace.specs.declared.item.Item.{Item}
use Rattle.trace.specs.declared.item.Item.TheVariants.{Write, Read, Vector, Clocks}
use Rattle.trace.proofs.Promised.{shrinks}
use Rattle.playback.specs.Replay.{step_of, played_from, replay_by, replay_of, outcome_number}
use Rattle.playback.specs.Showing.{shown_at, shown_from, shown_by, shown_of, Alike}
use Rattle.playback.specs.declared.replaying.Replayed.{Replayed}
use Rattle.playback.proofs.Playing.{played-same, played-other, played-end}

-- what is seen of a replay but the line
record Seen : Type 0 where
  device : Device
  number : ℕ
  outputs : List ℕ

abbrev seen_of : Replayed → List ℕ → Seen
seen_of r os = record { device = r.device; number = outcome_number r.outcome; outputs = os }

abbrev seen : Device → ℕ → List Item → Seen
seen d line is = seen_of (played_from d line is) (shown_from d is)

-- after the output bytes of an item
abbrev after : List ℕ → Seen → Seen
after os s = record { device = s.device; number = s.number; outputs = os ++ s.outputs }

seen_same : (d : Device) (line : ℕ) (i : Item) (is : List Item) → (step_of d i).same ≡ true
    → seen d line (i ∷ is) ≡ after (shown_at d i) (seen (step_of d i).device (line + 1) is)
unfolding shown_from
seen_same d line i is h = ap (λ (r : Replayed). seen_of r (shown_from d (i ∷ is))) (played-same d line i is h) ∙ rw h

seen_other : (d : Device) (line : ℕ) (i : Item) (is : List Item) → (step_of d i).same ≡ false
    → seen d line (i ∷ is) ≡ record { device = (step_of d i).device; number = 10; outputs = shown_at d i ++ [] }
unfolding shown_from
seen_other d line i is h = ap (λ (r : Replayed). seen_of r (shown_from d (i ∷ is))) (played-other d line i is h) ∙ rw h

-- the same item before what is seen alike, in any line
seen-before : (i : Item) (is js : List Item) → ((d : Device) (a b : ℕ) → seen d a is ≡ seen d b js)
    → (d : Device) (a b : ℕ) → seen d a (i ∷ is) ≡ seen d b (i ∷ js)
seen-before i is js alike d a b =
    split (step_of d i).same
    (λ h. seen_same d a i is h ∙ ap (after (shown_at d i)) (alike (step_of d i).device (a + 1) (b + 1)) ∙ sym (seen_same d b i js h))
    (λ h. seen_other d a i is h ∙ sym (seen_other d b i js h))

seen_end : (d : Device) (a b : ℕ) → seen d a [] ≡ seen d b []
seen_end d a b = ap (λ (r : Replayed). seen_of r (shown_from d [])) (played-end d a ∙ sym (played-end d b))

any-line : (is : List Item) (d : Device) (a b : ℕ) → seen d a is ≡ seen d b is
any-line [] d a b = seen_end d a b
any-line (i ∷ is) d a b = seen-before i is is (any-line is) d a b

-- ---- clocks one by one
seen-clocks : (d : Device) (line l c : ℕ) (is : List Item)
    → seen d line (Clocks l c ∷ is) ≡ after (outputs_of d (replicate c l)) (seen (held_of d l c) (line + 1) is)
unfolding step_of
seen-clocks d line l c is = seen_same d line (Clocks l c) is refl

outputs-more : (d : Device) (l c : ℕ) → outputs_of d (replicate 1 l) ++ outputs_of (held_of d l 1) (replicate c l) ≡ outputs_of d (replicate (suc c) l)
unfolding outputs_of times
outputs-more d l c = refl

after-after : (os ps : List ℕ) (s : Seen) → after os (after ps s) ≡ after (os ++ ps) s
after-after os ps s = ap (λ (x : List ℕ). record { device = s.device; number = s.number; outputs = x }) (sym (append_assoc os ps s.outputs))

seen-units : (l c : ℕ) (is : List Item) (d : Device) (a b : ℕ) → seen d a (replicate c (Clocks l 1) ++ is) ≡ seen d b (Clocks l c ∷ is)
unfolding outputs_of times
seen-units l zero is d a b = any-line is d a (b + 1) ∙ sym (seen-clocks d b l 0 is)
seen-units l (suc c) is d a b =
    let e : 1 + c ≡ suc c = omega arith in
    let held : held_of (held_of d l 1) l c ≡ held_of d l (suc c) = sym (times-add (clock_at l) 1 c d) ∙ ap (λ (k : ℕ). held_of d l k) e in
    seen-clocks d a l 1 (replicate c (Clocks l 1) ++ is)
    ∙ ap (after (outputs_of d (replicate 1 l))) (seen-units l c is (held_of d l 1) (a + 1) b ∙ seen-clocks (held_of d l 1) b l c is)
    ∙ after-after (outputs_of d (replicate 1 l)) (outputs_of (held_of d l 1) (replicate c l)) (seen (held_of (held_of d l 1) l c) (b + 1) is)
    ∙ ap (λ (os : List ℕ). after os (seen (held_of (held_of d l 1) l c) (b + 1) is)) (outputs-more d l c)
    ∙ ap (λ (x : Device). after (outputs_of d (replicate (suc c) l)) (seen x (b + 1) is)) held
    ∙ sym (seen-clocks d b l (suc c) is)

seen-item : (i : Item) (is : List Item) (d : Device) (a b : ℕ) → seen d a (units_of i ++ is) ≡ seen d b (i ∷ is)
unfolding units_of
seen-item (Write x v n) is d a b = any-line (Write x v n ∷ is) d a b
seen-item (Read x v n) is d a b = any-line (Read x v n ∷ is) d a b
seen-item (Vector k n) is d a b = any-line (Vector k n ∷ is) d a b
seen-item (Clocks l c) is d a b = seen-units l c is d a b

seen-expanded : (is : List Item) (d : Device) (a b : ℕ) → seen d a (expanded_of is) ≡ seen d b is
unfolding expanded_of
seen-expanded [] d a b = seen_end d a b
seen-expanded (i ∷ is) d a b = seen-item i (expanded_of is) d a b ∙ seen-before i (expanded_of is) is (seen-expanded is) d b b

-- ---- texts
abbrev seen_by : List ℕ → Seen
seen_by text = seen_of (replay_of text) (shown_of text)

well-seen : (text : List ℕ) → (contents_of text).check ≡ passed → seen_by text ≡ seen reset_device 2 (contents_of text).items
well-seen text w = ap (λ (c : Check). seen_of (replay_by c (contents_of text).items) (shown_by c (contents_of text).items)) w

module _ (text other : List ℕ) (w : (contents_of text).check ≡ passed) (v : (contents_of other).check ≡ passed) (e : SameText text other) where
  seen_alike : seen reset_device 2 (contents_of text).items ≡ seen reset_device 2 (contents_of other).items
  seen_alike =
      sym (seen-expanded (contents_of text).items reset_device 2 2) ∙ ap (seen reset_device 2) e ∙ seen-expanded (contents_of other).items reset_device 2 2

  -- two well-formed texts with the same clocks and calls in order replay alike
  pub replay-alike : Alike text other
  replay-alike = record {
    device = ap (λ (s : Seen). s.device) all;
    outputs = ap (λ (s : Seen). s.outputs) all;
    number = ap (λ (s : Seen). s.number) all;
  }
    where
      all : seen_by text ≡ seen_by other
      all = well-seen text w ∙ seen_alike ∙ sym (well-seen other v)

pub shrunk-replay : (text : List ℕ) → (contents_of text).check ≡ passed → Alike (shrunk_text text) text
shrunk-replay text w = let s = shrinks text w in replay-alike (shrunk_text text) text s.well w s.same
