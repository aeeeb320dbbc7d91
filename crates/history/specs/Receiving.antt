-- Demand 3 (document 01, 'The line of demand 3', as M-103 of document 02 changes it): what is asked of the record, the
-- calls and the line, and what comes of them (`Delivered` of the serial unit's, said of these).
use Rattle.std.specs.Prelude.{ℕ, List, [], ◌∷◌, ◌≡◌, eqb, Ok}
use Rattle.choice.specs.Bit.{bit_at}
use Rattle.choice.specs.Pick.{pick}
use Rattle.usart.specs.Line.{Sent}
use Rattle.usart.specs.Receiving.{Ready, held_by, waiting_by, LineOn, Seen, Arrival, Delivered, NoneWaits as NoneWaitsAt, arrivals_of as arrivals_at}
use Rattle.device.specs.Serial.{clocks_of}
use Rattle.device.specs.declared.unit.Device.{Device}
use Rattle.record.specs.Codec.{decode_of}
use Rattle.warpmagpie.specs.Calls.{read_value, split_votes_value}
use Rattle.history.specs.Call.{Call, reset, write, read, vector, pass, effect, along, gathered, Throughout, final_record, Bytes, usart_of, OnlyData, rxd_levels}

-- M-103's room: none waits when a start bit is accepted, at no clock of the calls
abbrev pub NoneWaits : List ℕ → List Call → Type 0
NoneWaits s cs = Throughout (λ s c. NoneWaitsAt (usart_of s) (clocks_of (effect s c).levels)) s cs

-- the line fs is what the clocks show to the device d of the record s, which is enabled, idle, with the last sample
-- high, nothing held, none waiting and no loss pending
pub record Hears (P Q : ℕ) (fs : List Sent) (d : Device) (s : List ℕ) (cs : List Call) : Type 0 where
  pub valid : decode_of s ≡ Ok d
  pub ready : Ready d.usart
  pub bytes : Bytes cs
  pub only_data : OnlyData s cs
  pub line : LineOn P Q fs d.usart.format d.usart.baud.ubrr (rxd_levels s cs)
  pub none_waits : NoneWaits s cs

-- what a read of UDR0 answers, and what UCSR0B and UCSR0A read, and the call for split votes answers, just before it
abbrev pub seen_by : List ℕ → Seen
seen_by s = record {
  value = read_value s 0xC6;
  rxb8 = bit_at (read_value s 0xC1) 1;
  fe = bit_at (read_value s 0xC0) 4;
  dor = bit_at (read_value s 0xC0) 3;
  upe = bit_at (read_value s 0xC0) 2;
  splits = split_votes_value s;
}

-- a UDR0 read with RXC set takes a frame
abbrev pub taken_by : List ℕ → Call → List Seen
taken_by s reset = []
taken_by s (write a v) = []
taken_by s (read a) = pick (eqb a 0xC6) (pick (eqb (bit_at (read_value s 0xC0) 7) 1) (seen_by s ∷ []) []) []
taken_by s (vector n) = []
taken_by s (pass p) = []

-- the frames read, in order
abbrev pub reads_of : List ℕ → List Call → List Seen
reads_of s cs = gathered taken_by s cs

-- the frames that complete, in order
abbrev pub arrivals_of : List ℕ → List Call → List Arrival
arrivals_of s cs = along (λ j s c. arrivals_at j (usart_of s) (clocks_of (effect s c).levels)) 0 s cs

-- what comes of the calls on the record s of the device d: the frames read, then those held in the last record, then
-- one that still waits there, are the line's, in time
abbrev pub DeliveredBy : ℕ → ℕ → List Sent → Device → List ℕ → List Call → Type 0
DeliveredBy P Q fs d s cs =
    let u = usart_of (final_record s cs) in
    Delivered P Q fs d.usart.format (reads_of s cs) (held_by u) (waiting_by u) (arrivals_of s cs)
