-- With a place free whenever a frame completes, which is document 01's room, none ever waits: M-103's room asks less.
use Prim.Native.Nat.{ℕ, zero, suc, ◌<◌}
use mathlib.Core.Bool.{Bool, true, false}
use mathlib.Core.List.{List, [], ◌∷◌}
use mathlib.Core.Path.{◌≡◌, refl, ◌∙◌, ap}
use native.Mathlib.Omega.{arith}
use lib.ListN.{length}
use Rattle.frame.specs.declared.format.Format.{Format}
use Rattle.usart.specs.Sampler.{sampler_of}
use Rattle.usart.specs.Queue.{held_in, waiting_in, stored_in}
use Rattle.usart.specs.Receiver.{put_of, listened_of}
use Rattle.usart.specs.Unit.{clock_of}
use Rattle.usart.specs.Event.{Event, clock, write, read, vector, next_of, OnlyData}
use Rattle.usart.specs.Receiving.{held_by, waiting_by, outcome_at, NoneWaits}
use Rattle.usart.specs.declared.sampler.Outcome.{Outcome}
use Rattle.usart.specs.declared.sampler.Outcome.TheVariants.{Nothing, Started, Complete}
use Rattle.usart.specs.declared.queue.Frame.{Frame}
use Rattle.usart.specs.declared.queue.Places.{Places}
use Rattle.usart.specs.declared.queue.Places.TheVariants.{Empty, One, Two, Three}
use Rattle.usart.specs.declared.queue.Queue.{Queue}
use Rattle.usart.specs.declared.unit.Usart.{Usart}
use Rattle.usart.proofs.WaitingLaws.{started_none, taken_none}
use Rattle.usart.proofs.ReadLaws.{each_read}
use Rattle.usart.proofs.EventLaws.{OnlySender, only-write, only-vector}
use Rattle.usart.proofs.ClockLaws.{clock-tick, clock-wait, listened-on, outcome-tick}

abbrev is_complete : Outcome → Bool
is_complete Nothing = false
is_complete Started = false
is_complete (Complete word stop splits) = true

-- a place is free whenever a frame completes: fewer than two are held
abbrev pub Free : Usart → List Event → Type 0
Free u [] = Unit {0}
Free u (clock rxd ∷ es) = (is_complete (outcome_at u rxd) ≡ true → length (held_by u) < 2) × Free (clock_of u rxd) es
Free u (write r v ∷ es) = Free (next_of u (write r v)) es
Free u (read r ∷ es) = Free (next_of u (read r)) es
Free u (vector ∷ es) = Free (next_of u vector) es

stored-none : (p : Places) (lost : Bool) (x : Frame) → length (held_in p) < 2 → waiting_in (stored_in p lost x).places ≡ []
stored-none Empty lost x h = refl
stored-none (One a) lost x h = refl
stored-none (Two a b) lost x h = absurd (omega arith)
stored-none (Three a b c) lost x h = absurd (omega arith)

put-none : (f : Format) (q : Queue) (o : Outcome) → waiting_in q.places ≡ [] → (is_complete o ≡ true → length (held_in q.places) < 2)
    → waiting_in (put_of f q o).places ≡ []
put-none f q Nothing w h = w
put-none f q Started w h = started_none q
put-none f q (Complete word stop splits) w h = stored-none q.places q.lost _ (h refl)

clock-none : (u : Usart) (l : Bool) → waiting_by u ≡ [] → (is_complete (outcome_at u l) ≡ true → length (held_by u) < 2) → waiting_by (clock_of u l) ≡ []
unfolding listened_of
clock-none u l w h = by u.baud.left.0 refl
  where
    listened : u.baud.left.0 ≡ 0 → (rxen : Bool) → u.control.rxen ≡ rxen
        → waiting_in (listened_of u.control.rxen u.format u.receiver l).queue.places ≡ []
    listened e true on =
        rw (listened-on u.control.rxen u.format u.receiver l on)
        (put-none u.format u.receiver.queue (sampler_of u.format u.receiver.sampler l).outcome w
        (λ c. h (ap is_complete (outcome-tick u l e on) ∙ c)))
    listened e false off = rw off w

    by : (k : ℕ) → u.baud.left.0 ≡ k → waiting_by (clock_of u l) ≡ []
    by zero e = ap waiting_by (clock-tick u l e) ∙ listened e u.control.rxen refl
    by (suc k) e = ap waiting_by (clock-wait u l k e) ∙ w

sender-none : (u v : Usart) → OnlySender u v → waiting_by u ≡ [] → waiting_by v ≡ []
sender-none u v (s, e) w = ap waiting_by e ∙ w

pub free-none-waits : (u : Usart) (es : List Event) → waiting_by u ≡ [] → OnlyData u es → Free u es → NoneWaits u es
free-none-waits u [] w o f = tt
free-none-waits u (clock l ∷ es) w o f = (λ _. w, free-none-waits (clock_of u l) es (clock-none u l w f.0) o f.1)
free-none-waits u (write r v ∷ es) w o f =
    free-none-waits (next_of u (write r v)) es (sender-none u (next_of u (write r v)) (only-write u r v o.0) w) o.1 f
free-none-waits u (read r ∷ es) w o f =
    free-none-waits (next_of u (read r)) es
    (each_read (λ (v : Usart). waiting_by v ≡ []) u r (λ _. w) (λ _. taken_none u.receiver.queue.places)) o f
free-none-waits u (vector ∷ es) w o f = free-none-waits (next_of u vector) es (sender-none u (next_of u vector) (only-vector u) w) o f
