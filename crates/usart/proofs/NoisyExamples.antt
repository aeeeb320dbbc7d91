-- The line with M-112's noise that witness and cases have: two frames at UBRR 2, hit in start, data, parity and stop bits.
use Prim.Native.Nat.{ℕ, zero, suc}
use mathlib.Core.Bool.{Bool}
use mathlib.Core.List.{List, [], ◌∷◌}
use lib.Dec.{eqb}
use Rattle.choice.specs.Pick.{pick}
use Rattle.usart.specs.Event.{Event, clock, read}
use Rattle.usart.specs.Line.{Sent}
use Rattle.usart.specs.Noise.{Noise, noisy_level}
use Rattle.usart.specs.declared.unit.Usart.{Usart}
use Rattle.usart.specs.declared.write.Register.TheVariants.{Udr0}
use Rattle.usart.proofs.Examples.{listening}

-- the levels w for n clocks, the first of them at clock j
unfoldable pub run : (ℕ → Bool) → ℕ → ℕ → List Event → List Event
run w j zero es = es
run w j (suc n) es = clock (w j) ∷ run w (suc j) n es

-- the same receiver with UBRR 2, so that a bit is 24 clocks, and with ticks at clocks 1, 4, 7 and so on
unfoldable pub slower : Usart
slower = record {
  baud = record { ubrr = 2; left = record { 0 = 1 } };
  format = listening.format;
  control = listening.control;
  sender = listening.sender;
  receiver = listening.receiver;
}

-- two frames; a bit of the sender is 24.4 clocks. The first tick in each comes one and two clocks after its start
unfoldable pub two_frames : List Sent
two_frames = record { start = 3; «data» = 21 } ∷ record { start = 200; «data» = 10 } ∷ []

-- which vote of each bit is turned over, start bit first, then five data bits, parity and stop bit: four bits of the
-- first frame are hit, and five of the second
unfoldable pub first_hits : List ℕ
first_hits = 1 ∷ 0 ∷ 0 ∷ 3 ∷ 0 ∷ 0 ∷ 2 ∷ 2 ∷ []

unfoldable pub second_hits : List ℕ
second_hits = 3 ∷ 1 ∷ 0 ∷ 0 ∷ 2 ∷ 0 ∷ 1 ∷ 1 ∷ []

unfoldable pub hit_of : List ℕ → ℕ → ℕ
hit_of [] b = 0
hit_of (v ∷ vs) zero = v
hit_of (v ∷ vs) (suc b) = hit_of vs b

unfoldable pub noise : Noise
noise n b = pick (eqb n 3) (hit_of first_hits b) (pick (eqb n 200) (hit_of second_hits b) 0)

unfoldable pub noisy : ℕ → Bool
noisy j = noisy_level slower.format slower.baud 2440 100 noise two_frames j

-- the first frame is read when both are held
unfoldable pub noisy_received : List Event
noisy_received = run noisy 0 390 (read Udr0 ∷ run noisy 390 10 [])
