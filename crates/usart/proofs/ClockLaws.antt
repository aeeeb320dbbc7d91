-- One clock of the unit, by the baud counter: the receiver's part.
use mathlib.Core.Path.{◌≡◌, refl, ap}
use mathlib.Core.Bool.{Bool, true, false}
use mathlib.Core.List.{[], ◌∷◌, ◌++◌}
use Prim.Native.Nat.{ℕ, suc, ◌-◌}
use native.Mathlib.Omega.{arith}
use lib.ListN.{length}
use borrow.Author.Tests.{eq-eqb, ne_eqb}
use Rattle.frame.specs.declared.format.Format.{Format}
use Rattle.usart.specs.Baud.{left_of}
use Rattle.usart.specs.Sender.{sender_of}
use Rattle.usart.specs.Sampler.{sampler_of}
use Rattle.usart.specs.Queue.{waiting_in, kept_in, marked_of, stored_in, started_of}
use Rattle.usart.specs.Receiver.{receiver_of, listened_of}
use Rattle.usart.specs.Unit.{clock_of}
use Rattle.usart.specs.Receiving.{outcome_at}
use Rattle.usart.specs.Votes.{cast_in, cast_by}
use Rattle.usart.specs.declared.queue.Frame.{Frame}
use Rattle.usart.specs.declared.queue.Places.{Places}
use Rattle.usart.specs.declared.queue.Places.TheVariants.{Empty, One, Two, Three}
use Rattle.usart.specs.declared.queue.Queue.{Queue}
use Rattle.usart.specs.declared.baud.Baud.{Baud}
use Rattle.usart.specs.declared.sender.Sender.{Sender}
use Rattle.usart.specs.declared.receiver.Receiver.{Receiver}
use Rattle.usart.specs.declared.unit.Usart.{Usart}

-- the unit with other parts
abbrev pub with : Usart → Baud → Sender → Receiver → Usart
with u b s r = record { baud = b; format = u.format; control = u.control; sender = s; receiver = r }

pub same_parts : (u : Usart) {a b : Baud} {s t : Sender} {q r : Receiver} → a ≡ b → s ≡ t → q ≡ r → with u a s q ≡ with u b t r
same_parts u p q r = cc

-- the unit after a clock, with k left to the next tick
abbrev pub clocked_as : Usart → ℕ → Sender → Receiver → Usart
clocked_as u k s r = with u (record { ubrr = u.baud.ubrr; left = record { 0 = k } }) s r

-- which was a tick of its baud clock
abbrev pub ticked_as : Usart → Receiver → Usart
ticked_as u r = clocked_as u u.baud.ubrr (sender_of u.format u.sender) r

-- or none
abbrev pub waited_as : Usart → ℕ → Usart
waited_as u k = clocked_as u k u.sender u.receiver

pub clock-tick : (u : Usart) (l : Bool) → u.baud.left.0 ≡ 0 → clock_of u l ≡ ticked_as u (listened_of u.control.rxen u.format u.receiver l)
unfolding clock_of left_of
clock-tick u l e = rw (eq-eqb u.baud.left.0 0 e)

pub clock-wait : (u : Usart) (l : Bool) (k : ℕ) → u.baud.left.0 ≡ suc k → clock_of u l ≡ waited_as u k
unfolding clock_of left_of
clock-wait u l k e =
    let one : u.baud.left.0 - 1 ≡ k = omega arith in
    rw (ne_eqb u.baud.left.0 0 (λ q. omega arith), one)

pub listened-on : (rxen : Bool) (f : Format) (r : Receiver) (l : Bool) → rxen ≡ true → listened_of rxen f r l ≡ receiver_of f r l
unfolding listened_of
listened-on rxen f r l e = rw e

pub outcome-tick : (u : Usart) (l : Bool) → u.baud.left.0 ≡ 0 → u.control.rxen ≡ true
    → outcome_at u l ≡ (sampler_of u.format u.receiver.sampler l).outcome
outcome-tick u l e r = rw (eq-eqb u.baud.left.0 0 e, r)

-- what a clock casts: at a tick the sampler's, else nothing
pub cast-tick : (j : ℕ) (u : Usart) (l : Bool) → u.baud.left.0 ≡ 0 → u.control.rxen ≡ true → cast_by j u l ≡ cast_in u.format j u.receiver.sampler l
cast-tick j u l e o = rw (eq-eqb u.baud.left.0 0 e, o)

pub cast-wait : (j : ℕ) (u : Usart) (l : Bool) (k : ℕ) → u.baud.left.0 ≡ suc k → cast_by j u l ≡ []
cast-wait j u l k e = rw (ne_eqb u.baud.left.0 0 (λ q. omega arith))

pub one-waits : (c : Frame) → c ∷ [] ≡ [] → ⊥
one-waits c h = omega (arith, ap length h)

-- a frame that completes while none waits is kept, last
pub stored-kept : (p : Places) (lost : Bool) (x : Frame) → waiting_in p ≡ []
    → (kept_in (stored_in p lost x).places ≡ kept_in p ++ (marked_of x lost ∷ [])) × ((stored_in p lost x).lost ≡ false)
stored-kept Empty lost x h = (refl, refl)
stored-kept (One a) lost x h = (refl, refl)
stored-kept (Two a b) lost x h = (refl, refl)
stored-kept (Three a b c) lost x h = absurd (one-waits c h)

-- a start that is accepted while none waits changes nothing
pub started-same : (q : Queue) → waiting_in q.places ≡ [] → started_of q ≡ q
started-same q = by q.places refl
  where
    by : (p : Places) → q.places ≡ p → waiting_in p ≡ [] → started_of q ≡ q
    by Empty e h = rw e
    by (One a) e h = rw e
    by (Two a b) e h = rw e
    by (Three a b c) e h = absurd (one-waits c h)
