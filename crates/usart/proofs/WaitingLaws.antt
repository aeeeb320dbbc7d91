-- No frame waits once the next one's start bit is decided: accepted, it has lost the one that waited.
use Prim.Native.Nat.{◌+◌, ◌-◌, ◌≤◌}
use mathlib.Core.Bool.{Bool, true, false}
use mathlib.Core.List.{[]}
use mathlib.Core.Path.{◌≡◌, refl}
use native.Mathlib.Omega.{arith}
use lib.Dec.{eqb, ltb, leb}
use borrow.Author.Tests.{eqb-false, ltb-true, ltb-false}
use Rattle.choice.proofs.Picks.{pick_ind, split, clash}
use Rattle.frame.specs.Format.{samples, first_vote, word_bits}
use Rattle.frame.specs.declared.format.Format.{Format}
use Rattle.frame.proofs.FormatLaws.{samples-half, first-vote-range}
use Rattle.usart.specs.Sampler.{is_receiving, first_low, idle_of, cast_of, next_bit_of, shifted_of, decided_of, voted_of, sampled_of, sampler_of}
use Rattle.usart.specs.Queue.{waiting_in, started_from, started_of, taken_from}
use Rattle.usart.specs.Valid.{voted_bits, ValidWaiting}
use Rattle.usart.specs.declared.sample.Sample.{Sample}
use Rattle.usart.specs.declared.sampler.Reception.{Reception}
use Rattle.usart.specs.declared.sampler.Sampler.{Sampler}
use Rattle.usart.specs.declared.sampler.Sampler.TheVariants.{Idle, Receiving}
use Rattle.usart.specs.declared.sampler.Outcome.{Outcome}
use Rattle.usart.specs.declared.sampler.Outcome.TheVariants.{Nothing, Started, Complete}
use Rattle.usart.specs.declared.sampler.Sampled.{Sampled}
use Rattle.usart.specs.declared.queue.Places.{Places}
use Rattle.usart.specs.declared.queue.Places.TheVariants.{Empty, One, Two, Three}
use Rattle.usart.specs.declared.queue.Queue.{Queue}
use Rattle.usart.proofs.TallyLaws.{voted-before, voted-after}

pub none-waiting : (f : Format) (s : Sampler) (p : Places) → waiting_in p ≡ [] → ValidWaiting f s p
none-waiting f (Idle last) p h = tt
none-waiting f (Receiving r) p h = λ _. h

-- with no frame under way any one may wait
pub idle-waiting : (f : Format) (s : Sampler) (p : Places) → is_receiving s ≡ false → ValidWaiting f s p
idle-waiting f (Idle last) p e = tt
idle-waiting f (Receiving r) p e = clash refl e

-- an accepted start loses it
pub started_none : (q : Queue) → waiting_in (started_of q).places ≡ []
started_none q = by q.places refl
  where
    by : (p : Places) → q.places ≡ p → waiting_in (started_from p q).places ≡ []
    by Empty e = rw e
    by (One a) e = rw e
    by (Two a b) e = rw e
    by (Three a b c) e = refl

-- a read moves it in
pub taken_none : (p : Places) → waiting_in (taken_from p) ≡ []
taken_none Empty = refl
taken_none (One a) = refl
taken_none (Two a b) = refl
taken_none (Three a b c) = refl

-- after a tick that leads to s with this outcome; a frame that completes finds none waiting, and leaves the sampler
-- idle
abbrev pub WaitingFor : Format → Sampler → Places → Outcome → Type 0
WaitingFor f s p Nothing = ValidWaiting f s p
WaitingFor f s p Started = Unit {0}
WaitingFor f s p (Complete word stop splits) = (waiting_in p ≡ []) × ((q : Places) → ValidWaiting f s q)

module _ (f : Format) (p : Places) where
  abbrev After : Sampled → Type 0
  After o = WaitingFor f o.sampler p o.outcome

  -- the start bit is decided: a later bit is sampled, or the start's last vote is taken; as one difference, for omega
  decided-past : (r : Reception) → 1 ≤ voted_bits f r → 1 ≤ r.bit + (r.sample.0 - (first_vote f + 1))
  decided-past r h = split (ltb r.sample.0 (first_vote f + 2))
      (λ e. omega (arith, h, voted-before f r (ltb-true r.sample.0 (first_vote f + 2) e)))
      (λ e. omega (arith, ltb-false r.sample.0 (first_vote f + 2) e))

  past-decided : (r : Reception) → 1 ≤ r.bit + (r.sample.0 - (first_vote f + 1)) → 1 ≤ voted_bits f r
  past-decided r h = split (ltb r.sample.0 (first_vote f + 2))
      (λ e.
      let b = ltb-true r.sample.0 (first_vote f + 2) e in
      omega (arith, h, b, voted-before f r b))
      (λ e. omega (arith, voted-after f r (ltb-false r.sample.0 (first_vote f + 2) e)))

  waiting-idle : (last l : Bool) → After (idle_of last l)
  unfolding idle_of
  waiting-idle true true = tt
  waiting-idle true false = λ h. absurd (omega (arith, decided-past first_low h, first-vote-range f))
  waiting-idle false l = tt

  cast-at : (r : Reception) (n : Sample) (l : Bool) → ((cast_of f r n l).bit ≡ r.bit) × ((cast_of f r n l).sample.0 ≡ n.0)
  unfolding cast_of
  cast-at r n l =
      let At : Reception → Type 0 = λ q. (q.bit ≡ r.bit) × (q.sample.0 ≡ n.0) in
      pick_ind At (eqb n.0 (first_vote f)) _ _ (λ _. (refl, refl))
      (λ _. pick_ind At (eqb n.0 (first_vote f + 1)) _ _ (λ _. (refl, refl)) (λ _. (refl, refl)))

  waiting-decided : (r : Reception) (l m : Bool) → (1 ≤ r.bit → waiting_in p ≡ []) → After (decided_of f r l m)
  unfolding decided_of shifted_of
  waiting-decided r l m c =
      pick_ind After (eqb r.bit 0) _ _ (λ _. pick_ind After m _ _ (λ _. tt) (λ _. tt))
      (λ e.
      let none : waiting_in p ≡ [] = c (omega (arith, eqb-false r.bit 0 e)) in
      pick_ind After (leb r.bit (word_bits f)) _ _
      (λ _. pick_ind (λ (q : Reception). ValidWaiting f (Receiving q) p) m _ _ (λ _ _. none) (λ _ _. none))
      (λ _. (none, λ q. tt)))

  waiting-sampled : (r : Reception) (l : Bool) → ValidWaiting f (Receiving r) p → After (sampled_of f r l)
  unfolding sampled_of voted_of next_bit_of
  waiting-sampled r l c =
      let n : Sample = record { 0 = r.sample.0 + 1 } in
      let at = cast-at r n l in
      pick_ind After (ltb r.sample.0 (samples f - 1)) _ _
      (λ _. pick_ind After (eqb (r.sample.0 + 1) (first_vote f + 2)) _ _
      (λ _. waiting-decided _ l _ (λ h. c (past-decided r (omega (arith, h)))))
      (λ e h. c (past-decided r (omega (arith, decided-past (cast_of f r n l) h, at.0, at.1, eqb-false (r.sample.0 + 1) (first_vote f + 2) e)))))
      (λ e. pick_ind (λ (q : Reception). ValidWaiting f (Receiving q) p) (leb r.bit (word_bits f)) _ _
      (λ _ _. c (past-decided r (omega (arith, ltb-false r.sample.0 (samples f - 1) e, samples-half f, first-vote-range f)))) (λ _. c))

  -- a tick keeps it so
  pub waiting-tick : (s : Sampler) (l : Bool) → ValidWaiting f s p → After (sampler_of f s l)
  unfolding sampler_of
  waiting-tick (Idle last) l c = waiting-idle last l
  waiting-tick (Receiving r) l c = waiting-sampled r l c
