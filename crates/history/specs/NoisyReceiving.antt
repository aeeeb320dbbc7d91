-- Demand 3 over calls on a record with M-112's noise: what is asked of the record, the calls and the wire, and what comes
-- of them (`DeliveredAs` of the serial unit's, said of these).
use Rattle.std.specs.Prelude.{ℕ, Bool, List, ◌≡◌, Ok}
use Rattle.frame.specs.Format.{word_bits}
use Rattle.usart.specs.Line.{Sent}
use Rattle.usart.specs.Noise.{Noise, Allowed, noisy_level}
use Rattle.usart.specs.Votes.{Cast, votes_of as votes_at}
use Rattle.usart.specs.Receiving.{Ready, held_by, waiting_by, Seen}
use Rattle.usart.specs.NoisyReceiving.{LineOnWire, DeliveredAs}
use Rattle.device.specs.Serial.{clocks_of}
use Rattle.device.specs.declared.unit.Device.{Device}
use Rattle.record.specs.Codec.{decode_of}
use Rattle.history.specs.Call.{Call, effect, along, final_record, Bytes, usart_of, OnlyData, rxd_levels}
use Rattle.history.specs.Receiving.{NoneWaits, reads_of, arrivals_of}

-- the line fs, on a wire with the levels w, is what the clocks show to the device d of the record s, which is enabled,
-- idle, with the last sample high, nothing held, none waiting and no loss pending
pub record HearsOn (w : ℕ → Bool) (P Q : ℕ) (fs : List Sent) (d : Device) (s : List ℕ) (cs : List Call) : Type 0 where
  pub valid : decode_of s ≡ Ok d
  pub ready : Ready d.usart
  pub bytes : Bytes cs
  pub only_data : OnlyData s cs
  pub line : LineOnWire w P Q fs d.usart.format d.usart.baud.ubrr (rxd_levels s cs)
  pub none_waits : NoneWaits s cs

-- M-112: the levels are the line's but for noise, 'all other premises as they now stand'
pub record HearsNoisy (noise : Noise) (P Q : ℕ) (fs : List Sent) (d : Device) (s : List ℕ) (cs : List Call) : Type 0 where
  pub allowed : Allowed (word_bits d.usart.format) noise
  pub hears : HearsOn (noisy_level d.usart.format d.usart.baud P Q noise fs) P Q fs d s cs

-- what comes of the calls on the record s of the device d: the frames read, then those held in the last record, then
-- one that still waits there, are the line's, seen so, in time
abbrev pub DeliveredSo : (Sent → Seen) → ℕ → ℕ → List Sent → Device → List ℕ → List Call → Type 0
DeliveredSo seen P Q fs d s cs =
    let u = usart_of (final_record s cs) in
    DeliveredAs seen P Q fs d.usart.format (reads_of s cs) (held_by u) (waiting_by u) (arrivals_of s cs)

-- the votes that the receiver takes, in order
abbrev pub votes_of : List ℕ → List Call → List Cast
votes_of s cs = along (λ j s c. votes_at j (usart_of s) (clocks_of (effect s c).levels)) 0 s cs
