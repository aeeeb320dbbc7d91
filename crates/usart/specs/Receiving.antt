-- Demand 3 at the serial unit, as M-103 of document 02 changes it: what is asked of the unit, the list and the line,
-- and what comes of them.
use Rattle.std.specs.Prelude.{ℕ, suc, ◌+◌, ◌-◌, ◌*◌, ◌%◌, ◌≤◌, ◌<◌, Bool, true, false, List, [], ◌∷◌, ◌++◌, map, ◌≡◌, eqb, ltb, length}
use Rattle.choice.specs.Bit.{bit_at}
use Rattle.choice.specs.Pick.{pick, digit}
use Rattle.frame.specs.Format.{word_bits}
use Rattle.frame.specs.declared.format.Format.{Format}
use Rattle.usart.specs.Limit.{limit, Within}
use Rattle.usart.specs.Baud.{ticks}
use Rattle.usart.specs.Sampler.{sampler_of}
use Rattle.usart.specs.Queue.{held_in, waiting_in, kept_in}
use Rattle.usart.specs.Unit.{bit_length, clock_of}
use Rattle.usart.specs.Read.{read_of, split_votes}
use Rattle.usart.specs.Event.{Event, clock, write, read, vector, next_of, is_udr0, OnlyData, levels_of}
use Rattle.usart.specs.Line.{Sent, line_level, Fits, Spaced, EndedBy, Shows}
use Rattle.usart.specs.declared.sampler.Sampler.TheVariants.{Idle}
use Rattle.usart.specs.declared.sampler.Outcome.{Outcome}
use Rattle.usart.specs.declared.sampler.Outcome.TheVariants.{Nothing, Started, Complete}
use Rattle.usart.specs.declared.queue.Frame.{Frame}
use Rattle.usart.specs.declared.queue.Places.{Places}
use Rattle.usart.specs.declared.queue.Places.TheVariants.{Empty}
use Rattle.usart.specs.declared.unit.Usart.{Usart}
use Rattle.usart.specs.declared.write.Register.TheVariants.{Ucsr0a, Ucsr0b, Udr0}

-- enabled, idle, the last sample high, nothing held, none waiting, no loss pending; any baud counter not above UBRR
pub record Ready (u : Usart) : Type 0 where
  pub enabled : u.control.rxen ≡ true
  pub idle : u.receiver.sampler ≡ Idle true
  pub empty : u.receiver.queue.places ≡ Empty
  pub no_loss : u.receiver.queue.lost ≡ false
  pub counter : u.baud.left.0 ≤ u.baud.ubrr

-- the frames held, oldest first
abbrev pub held_by : Usart → List Frame
held_by u = held_in u.receiver.queue.places

-- the frame that waits for a place
abbrev pub waiting_by : Usart → List Frame
waiting_by u = waiting_in u.receiver.queue.places

-- what the sampler makes of a clock
abbrev pub outcome_at : Usart → Bool → Outcome
outcome_at u rxd = pick (ticks u.baud) (pick u.control.rxen (sampler_of u.format u.receiver.sampler rxd).outcome Nothing) Nothing

-- a start bit is accepted: its last vote came out low
abbrev pub is_start : Outcome → Bool
is_start Nothing = false
is_start Started = true
is_start (Complete word stop splits) = false

-- M-103's room: none waits when a start bit is accepted
abbrev pub NoneWaits : Usart → List Event → Type 0
NoneWaits u [] = Unit {0}
NoneWaits u (clock rxd ∷ es) = (is_start (outcome_at u rxd) ≡ true → waiting_by u ≡ []) × NoneWaits (clock_of u rxd) es
NoneWaits u (write r v ∷ es) = NoneWaits (next_of u (write r v)) es
NoneWaits u (read r ∷ es) = NoneWaits (next_of u (read r)) es
NoneWaits u (vector ∷ es) = NoneWaits (next_of u vector) es

-- the line of the frames fs, of bits P/Q clocks long, is what the levels show a receiver of this format and UBRR, whose
-- bit, S·(UBRR + 1) clocks, differs within the recommended limit
pub record LineOn (P Q : ℕ) (fs : List Sent) (f : Format) (ubrr : ℕ) (levels : List Bool) : Type 0 where
  pub p1 : 1 ≤ P
  pub q1 : 1 ≤ Q
  pub within : Within (limit f.u2x (word_bits f)) (bit_length f ubrr * Q) P
  pub fits : Fits f fs
  pub spaced : Spaced (word_bits f) P Q fs
  pub shows : Shows (line_level f P Q fs) 0 levels
  pub ended : EndedBy (word_bits f) P Q (length levels) fs

-- the unit's list of events shows it this line
pub record Hears (P Q : ℕ) (fs : List Sent) (u : Usart) (es : List Event) : Type 0 where
  pub ready : Ready u
  pub only_data : OnlyData u es
  pub line : LineOn P Q fs u.format u.baud.ubrr (levels_of es)
  pub none_waits : NoneWaits u es

-- a frame as firmware and rig see it: UDR0, RXB8, FE, DOR and UPE, and its split votes
pub record Seen : Type 0 where
  pub value : ℕ
  pub rxb8 : ℕ
  pub fe : ℕ
  pub dor : ℕ
  pub upe : ℕ
  pub splits : ℕ

-- what a read of UDR0 answers, and what UCSR0B and UCSR0A read, and the split votes are, just before it
abbrev pub seen_by : Usart → Seen
seen_by u = record {
  value = (read_of u Udr0).value;
  rxb8 = bit_at (read_of u Ucsr0b).value 1;
  fe = bit_at (read_of u Ucsr0a).value 4;
  dor = bit_at (read_of u Ucsr0a).value 3;
  upe = bit_at (read_of u Ucsr0a).value 2;
  splits = split_votes u;
}

-- a UDR0 read with RXC set takes a frame
abbrev pub taken_by : Usart → Event → List Seen
taken_by u (clock rxd) = []
taken_by u (write r v) = []
taken_by u (read r) = pick (is_udr0 r) (pick (eqb (bit_at (read_of u Ucsr0a).value 7) 1) (seen_by u ∷ []) []) []
taken_by u vector = []

-- the frames read, in order
abbrev pub reads_of : Usart → List Event → List Seen
reads_of u [] = []
reads_of u (e ∷ es) = taken_by u e ++ reads_of (next_of u e) es

-- a frame still held, or waiting, has the same in it
abbrev pub seen_in : Frame → Seen
seen_in f = record {
  value = f.«data» % 256;
  rxb8 = bit_at f.«data» 8;
  fe = digit f.fe;
  dor = digit f.dor;
  upe = digit f.upe;
  splits = f.splits;
}

-- data bits 0 to 7, the ninth, 0 where there is none, FE, DOR and UPE clear, and (M-101: 'that count is 0 for every
-- frame') no vote split
abbrev pub clean : Sent → Seen
clean s = record { value = s.«data» % 256; rxb8 = bit_at s.«data» 8; fe = 0; dor = 0; upe = 0; splits = 0 }

-- a frame that completes at a clock: whether a place was free just before it, and whether, after it, one more is held,
-- or one more waits
pub record Arrival : Type 0 where
  pub at : ℕ
  pub free : Bool
  pub held : Bool
  pub waits : Bool

-- what completes at clock j, by the frames before it and after it: a place is free when fewer than two are held
abbrev pub arrived_in : ℕ → Places → Places → List Arrival
arrived_in j p q =
    pick (ltb (length (kept_in p)) (length (kept_in q)))
    (record {
      at = j;
      free = ltb (length (held_in p)) 2;
      held = ltb (length (held_in p)) (length (held_in q));
      waits = ltb (length (waiting_in p)) (length (waiting_in q));
    } ∷ [])
    []

abbrev pub arrived_by : ℕ → Usart → Usart → List Arrival
arrived_by j u v = arrived_in j u.receiver.queue.places v.receiver.queue.places

-- the frames that complete, in order, the first clock of the list being j
abbrev pub arrivals_of : ℕ → Usart → List Event → List Arrival
arrivals_of j u [] = []
arrivals_of j u (clock rxd ∷ es) = arrived_by j u (clock_of u rxd) ++ arrivals_of (suc j) (clock_of u rxd) es
arrivals_of j u (write r v ∷ es) = arrivals_of j (next_of u (write r v)) es
arrivals_of j u (read r ∷ es) = arrivals_of j (next_of u (read r)) es
arrivals_of j u (vector ∷ es) = arrivals_of j (next_of u vector) es

-- the frame s completes at a clock n+t with t·Q < (D+2)·P, before its first stop bit has ended. It is held then if it
-- finds a place free, else it waits then
pub record Arrives (D P Q : ℕ) (a : Arrival) (s : Sent) : Type 0 where
  pub began : s.start ≤ a.at
  pub in_time : (a.at - s.start) * Q < (D + 2) * P
  pub held : a.free ≡ true → a.held ≡ true
  pub waits : a.free ≡ false → a.waits ≡ true

abbrev pub InTime : ℕ → ℕ → ℕ → List Arrival → List Sent → Type 0
InTime D P Q [] [] = Unit {0}
InTime D P Q [] (s ∷ ss) = ⊥
InTime D P Q (a ∷ bs) [] = ⊥
InTime D P Q (a ∷ bs) (s ∷ ss) = Arrives D P Q a s × InTime D P Q bs ss

-- the frames read, in order, then those held at the end, oldest first, then one that still waits, are the line's, each
-- once, and each in time
pub record Delivered (P Q : ℕ) (fs : List Sent) (f : Format) (reads : List Seen) (held waiting : List Frame) (arrivals : List Arrival) : Type 0 where
  pub frames : reads ++ map seen_in (held ++ waiting) ≡ map clean fs
  pub in_time : InTime (word_bits f) P Q arrivals fs
