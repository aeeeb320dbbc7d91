-- Demand 3 at the serial unit with M-112's noise: what is asked of the unit, the list and the wire, and what comes of
-- them. Without noise it is demand 3 as `Receiving.antt` has it, which is proved.
use Rattle.std.specs.Prelude.{ℕ, ◌+◌, ◌*◌, ◌%◌, ◌≤◌, Bool, List, ◌++◌, map, ◌≡◌, length}
use Rattle.choice.specs.Bit.{bit_at}
use Rattle.frame.specs.Format.{word_bits}
use Rattle.frame.specs.declared.format.Format.{Format}
use Rattle.usart.specs.Limit.{limit, Within}
use Rattle.usart.specs.Unit.{bit_length}
use Rattle.usart.specs.Event.{Event, OnlyData, levels_of}
use Rattle.usart.specs.Line.{Sent, Fits, Spaced, EndedBy, Shows}
use Rattle.usart.specs.Noise.{Noise, Allowed, noisy_level, bits_hit}
use Rattle.usart.specs.Receiving.{Ready, NoneWaits, Seen, seen_in, Arrival, InTime}
use Rattle.usart.specs.declared.queue.Frame.{Frame}
use Rattle.usart.specs.declared.unit.Usart.{Usart}

-- a wire with the levels w has the line of the frames fs, of bits P/Q clocks long, for a receiver of this format and
-- UBRR, whose bit, S·(UBRR + 1) clocks, differs within the recommended limit; and w is what the levels show
pub record LineOnWire (w : ℕ → Bool) (P Q : ℕ) (fs : List Sent) (f : Format) (ubrr : ℕ) (levels : List Bool) : Type 0 where
  pub p1 : 1 ≤ P
  pub q1 : 1 ≤ Q
  pub within : Within (limit f.u2x (word_bits f)) (bit_length f ubrr * Q) P
  pub fits : Fits f fs
  pub spaced : Spaced (word_bits f) P Q fs
  pub shows : Shows w 0 levels
  pub ended : EndedBy (word_bits f) P Q (length levels) fs

-- the unit's list of events shows it this line, on a wire with the levels w
pub record HearsOn (w : ℕ → Bool) (P Q : ℕ) (fs : List Sent) (u : Usart) (es : List Event) : Type 0 where
  pub ready : Ready u
  pub only_data : OnlyData u es
  pub line : LineOnWire w P Q fs u.format u.baud.ubrr (levels_of es)
  pub none_waits : NoneWaits u es

-- M-112: the levels are the line's but for noise, 'all other premises as they now stand'
pub record HearsNoisy (noise : Noise) (P Q : ℕ) (fs : List Sent) (u : Usart) (es : List Event) : Type 0 where
  pub allowed : Allowed (word_bits u.format) noise
  pub hears : HearsOn (noisy_level u.format u.baud P Q noise fs) P Q fs u es

-- data bits 0 to 7, the ninth, 0 where there is none, FE, DOR and UPE clear, and so many votes split
abbrev pub clean_with : ℕ → Sent → Seen
clean_with n s = record { value = s.«data» % 256; rxb8 = bit_at s.«data» 8; fe = 0; dor = 0; upe = 0; splits = n }

-- M-112: 'M-101's count is then the number of bits so hit', from the start bit to the stop bit
abbrev pub heard : Format → Noise → Sent → Seen
heard f noise s = clean_with (bits_hit (noise s.start) (word_bits f + 2)) s

-- the frames read, in order, then those held at the end, oldest first, then one that still waits, are the line's, each
-- once, seen so, and each in time
pub record DeliveredAs (seen : Sent → Seen) (P Q : ℕ) (fs : List Sent) (f : Format) (reads : List Seen) (held waiting : List Frame) (arrivals : List Arrival) : Type 0 where
  pub frames : reads ++ map seen_in (held ++ waiting) ≡ map seen fs
  pub in_time : InTime (word_bits f) P Q arrivals fs
