-- What a closed list shows, what it drives, and that none waits in it when a start is accepted, found by computing:
-- tests, and what they say.
use mathlib.Core.Path.{◌≡◌, refl, sym}
use mathlib.Core.Bool.{Bool, true, false}
use mathlib.Core.List.{List, [], ◌∷◌}
use Prim.Native.Nat.{ℕ, suc, ◌+◌}
use lib.Dec.{eqb}
use borrow.Author.Tests.{eqb-true}
use Rattle.choice.specs.Pick.{pick, digit}
use Rattle.choice.proofs.Picks.{both, clash}
use Rattle.usart.specs.Unit.{clock_of}
use Rattle.usart.specs.Event.{Event, clock, write, read, vector, next_of}
use Rattle.usart.specs.Line.{Shows}
use Rattle.usart.specs.Receiving.{waiting_by, is_start, outcome_at, NoneWaits}
use Rattle.usart.specs.Sending.{Drives}
use Rattle.usart.specs.declared.queue.Frame.{Frame}
use Rattle.usart.specs.declared.unit.Usart.{Usart}

unfoldable pub bool-eqb : Bool → Bool → Bool
bool-eqb true b = b
bool-eqb false true = false
bool-eqb false false = true

bool_eq : (a b : Bool) → bool-eqb a b ≡ true → a ≡ b
unfolding bool-eqb
bool_eq true b e = sym e
bool_eq false false e = refl
bool_eq false true e = e

unfoldable pub shown : (ℕ → Bool) → ℕ → List Bool → Bool
shown w j [] = true
shown w j (l ∷ ls) = pick (bool-eqb l (w j)) (shown w (suc j) ls) false

pub shown-shows : (w : ℕ → Bool) (j : ℕ) (ls : List Bool) → shown w j ls ≡ true → Shows w j ls
unfolding shown
shown-shows w j [] e = tt
shown-shows w j (l ∷ ls) e =
    let b = both (bool-eqb l (w j)) (shown w (suc j) ls) e in (bool_eq l (w j) b.0, shown-shows w (suc j) ls b.1)

unfoldable pub driven : (ℕ → Bool) → ℕ → List ℕ → Bool
driven w j [] = true
driven w j (o ∷ os) = pick (eqb o (digit (w j) + 16)) (driven w (suc j) os) false

pub driven-drives : (w : ℕ → Bool) (j : ℕ) (os : List ℕ) → driven w j os ≡ true → Drives w j os
unfolding driven
driven-drives w j [] e = tt
driven-drives w j (o ∷ os) e =
    let b = both (eqb o (digit (w j) + 16)) (driven w (suc j) os) e in (eqb-true o (digit (w j) + 16) b.0, driven-drives w (suc j) os b.1)

unfoldable pub none : List Frame → Bool
none [] = true
none (a ∷ bs) = false

none-nil : (bs : List Frame) → none bs ≡ true → bs ≡ []
unfolding none
none-nil [] e = refl
none-nil (a ∷ bs) e = clash e refl

unfoldable pub room : Usart → Bool → Bool
room u l = pick (is_start (outcome_at u l)) (none (waiting_by u)) true

room-none : (u : Usart) (l : Bool) → room u l ≡ true → is_start (outcome_at u l) ≡ true → waiting_by u ≡ []
unfolding room
room-none u l e c = none-nil (waiting_by u) (rw c at e)

unfoldable pub none_waits : Usart → List Event → Bool
none_waits u [] = true
none_waits u (clock l ∷ es) = pick (room u l) (none_waits (clock_of u l) es) false
none_waits u (write r v ∷ es) = none_waits (next_of u (write r v)) es
none_waits u (read r ∷ es) = none_waits (next_of u (read r)) es
none_waits u (vector ∷ es) = none_waits (next_of u vector) es

pub none-waits : (u : Usart) (es : List Event) → none_waits u es ≡ true → NoneWaits u es
unfolding none_waits
none-waits u [] e = tt
none-waits u (clock l ∷ es) e =
    let b = both (room u l) (none_waits (clock_of u l) es) e in (room-none u l b.0, none-waits (clock_of u l) es b.1)
none-waits u (write r v ∷ es) e = none-waits (next_of u (write r v)) es e
none-waits u (read r ∷ es) e = none-waits (next_of u (read r)) es e
none-waits u (vector ∷ es) e = none-waits (next_of u vector) es e
