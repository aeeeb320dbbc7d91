-- Closed units and lists of events. The cases (`Cases.antt`), the witnesses (`Witness.antt`) and the refutations of
-- wrong programs (refutations/) are about these.
use Prim.Native.Nat.{ℕ, zero, suc}
use mathlib.Core.Bool.{Bool, true, false, not}
use mathlib.Core.List.{List, [], ◌∷◌}
use lib.Dec.{eqb}
use Rattle.std.proofs.Common.{None, Some}
use Rattle.choice.specs.Pick.{pick}
use Rattle.frame.specs.declared.format.Size.TheVariants.{Five}
use Rattle.frame.specs.declared.format.Parity.TheVariants.{Off, Even}
use Rattle.usart.specs.Receiver.{stopped}
use Rattle.usart.specs.Event.{Event, clock, write, read, vector}
use Rattle.usart.specs.Line.{Sent, line_level}
use Rattle.usart.specs.declared.sampler.Sampler.TheVariants.{Idle}
use Rattle.usart.specs.declared.queue.Places.TheVariants.{Empty}
use Rattle.usart.specs.declared.unit.Usart.{Usart}
use Rattle.usart.specs.declared.write.Register.TheVariants.{Ucsr0a, Ucsr0c, Ubrr0l, Udr0}

-- a receiver: 5 data bits, even parity, double speed, UBRR 0, so that D = 6 and a bit of the receiver is 8 clocks
unfoldable pub listening : Usart
listening = record {
  baud = record { ubrr = 0; left = record { 0 = 0 } };
  format = record { size = Five; parity = Even; usbs = false; u2x = true };
  control = record { rxcie = false; txcie = false; udrie = false; rxen = true; txen = true; txb8 = false };
  sender = record { buffer = None; shifter = None; txc = false };
  receiver = record { sampler = Idle true; queue = record { places = Empty; lost = false } };
}

-- five frames, one after the other; a bit of the sender is 8.13 clocks
unfoldable pub frames : List Sent
frames =
    record { start = 3; «data» = 21 } ∷ record { start = 70; «data» = 10 } ∷ record { start = 137; «data» = 31 }
    ∷ record { start = 204; «data» = 0 } ∷ record { start = 271; «data» = 9 } ∷ []

unfoldable pub level : ℕ → Bool
level j = line_level listening.format 813 100 frames j

unfoldable pub run : ℕ → ℕ → List Event → List Event
run j zero es = es
run j (suc n) es = clock (level j) ∷ run (suc j) n es

-- in mid-frame: a refused baud setting, a refused mode, a look at UCSR0A, a byte to send, a vector without request. The
-- first frame is read when the third waits, in the start bit of the fourth, one clock before it is accepted; the second
-- while the fourth is on the line. The fifth still waits at the end
unfoldable pub received : List Event
received =
    run 0 20 (write Ubrr0l 7 ∷ write Ucsr0c 192 ∷ read Ucsr0a ∷ write Udr0 85 ∷ vector ∷ read Udr0 ∷ run 20 189 (read Udr0 ∷ run 209 21 (read Udr0 ∷ run 230 110 [])))

-- noise turns over one vote of each of five bits: of the start, a data, the parity and the stop bit of the first frame,
-- and of the start bit of the second. A bit's votes are samples 4, 5 and 6, the first sample being the start clock's
unfoldable pub is_hit : ℕ → List ℕ → Bool
is_hit j [] = false
is_hit j (k ∷ ks) = pick (eqb j k) true (is_hit j ks)

unfoldable pub hit_clocks : List ℕ
hit_clocks = 6 ∷ 23 ∷ 56 ∷ 62 ∷ 74 ∷ []

unfoldable pub noisy_run : ℕ → ℕ → List Event
noisy_run j zero = []
noisy_run j (suc n) = clock (pick (is_hit j hit_clocks) (not (level j)) (level j)) ∷ noisy_run (suc j) n

-- of two frames, neither is read
unfoldable pub noisy : List Event
noisy = noisy_run 0 140

-- a sender: 5 data bits, two stop bits, double speed, UBRR 1, so that a bit is 16 clocks and a frame 128. The buffer
-- holds 21, and the first tick is at clock 1
unfoldable pub loaded : Usart
loaded = record {
  baud = record { ubrr = 1; left = record { 0 = 1 } };
  format = record { size = Five; parity = Off; usbs = true; u2x = true };
  control = record { rxcie = false; txcie = false; udrie = false; rxen = false; txen = true; txb8 = false };
  sender = record { buffer = Some 21; shifter = None; txc = false };
  receiver = stopped;
}

unfoldable pub clocks : ℕ → List Event → List Event
clocks zero es = es
clocks (suc n) es = clock true ∷ clocks n es

-- a byte that is taken while 21 is on the line, and one that is ignored; the list ends in 21's second stop bit
unfoldable pub handed : List Event
handed = clocks 4 (write Udr0 10 ∷ write Udr0 3 ∷ clocks 116 [])
