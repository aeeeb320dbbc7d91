-- What a closed history meets, found by computing on its record: tests, and what they say of the calls.
use Prim.Native.Nat.{ℕ}
use mathlib.Core.Bool.{Bool, true, false}
use mathlib.Core.List.{List, [], ◌∷◌}
use mathlib.Core.Path.{◌≡◌, refl}
use lib.Dec.{eqb}
use borrow.Author.Tests.{eqb-true}
use Rattle.choice.specs.Pick.{pick}
use Rattle.choice.proofs.Picks.{clash, both}
use Rattle.usart.proofs.ClosedLists.{none_waits, none-waits}
use Rattle.device.specs.Address.{place_of}
use Rattle.device.specs.Serial.{is_serial, clocks_of}
use Rattle.warpmagpie.specs.Calls.{write_answer}
use Rattle.history.specs.Call.{Call, reset, write, read, vector, pass, effect, record_after, Throughout, usart_of, OnlyDataCall, OnlyData}
use Rattle.history.specs.Receiving.{NoneWaits}

-- a test of each call, on the record that it finds
unfoldable pub throughout : (List ℕ → Call → Bool) → List ℕ → List Call → Bool
throughout t s [] = true
throughout t s (c ∷ cs) = pick (t s c) (throughout t (record_after s c) cs) false

all_of : (P : List ℕ → Call → Type 0) (t : List ℕ → Call → Bool) → ((s : List ℕ) (c : Call) → t s c ≡ true → P s c)
    → (s : List ℕ) (cs : List Call) → throughout t s cs ≡ true → Throughout P s cs
unfolding throughout
all_of P t f s [] e = tt
all_of P t f s (c ∷ cs) e =
    let b = both (t s c) (throughout t (record_after s c) cs) e in (f s c b.0, all_of P t f (record_after s c) cs b.1)

-- no serial register but UDR0 is written
unfoldable pub only : List ℕ → Call → Bool
only s reset = false
only s (write a v) = pick (eqb (write_answer s a v) 0) (pick (is_serial (place_of a)) (eqb a 0xC6) true) true
only s (read a) = true
only s (vector n) = true
only s (pass p) = true

only-write : (n : ℕ) (t : Bool) (a : ℕ) → pick (eqb n 0) (pick t (eqb a 0xC6) true) true ≡ true → n ≡ 0 → t ≡ true → a ≡ 0xC6
only-write n t a e hn ht = eqb-true a 0xC6 (rw (hn, ht) at e)

only-call : (s : List ℕ) (c : Call) → only s c ≡ true → OnlyDataCall s c
unfolding only
only-call s reset e = clash e refl
only-call s (write a v) e = only-write (write_answer s a v) (is_serial (place_of a)) a e
only-call s (read a) e = tt
only-call s (vector n) e = tt
only-call s (pass p) e = tt

pub only-all : (s : List ℕ) (cs : List Call) → throughout only s cs ≡ true → OnlyData s cs
only-all = all_of OnlyDataCall only only-call

-- none waits when a start bit is accepted
unfoldable pub roomy : List ℕ → Call → Bool
roomy s c = none_waits (usart_of s) (clocks_of (effect s c).levels)

pub roomy-all : (s : List ℕ) (cs : List Call) → throughout roomy s cs ≡ true → NoneWaits s cs
unfolding roomy
roomy-all = all_of _ roomy (λ s c e. none-waits (usart_of s) (clocks_of (effect s c).levels) e)
