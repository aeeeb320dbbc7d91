-- The sender's line over a history (document 01: 'The model's own sender ..'): what is asked of record and calls, and
-- what of them the serial unit's `Sends` speaks of.
use Rattle.std.specs.Prelude.{ℕ, ◌+◌, ◌*◌, List, [], ◌∷◌, map, ◌≡◌, eqb, Ok}
use Rattle.choice.specs.Bit.{bit_at}
use Rattle.choice.specs.Pick.{pick}
use Rattle.frame.specs.Word.{data_of}
use Rattle.usart.specs.Sending.{ReadyToSend, Taken, taken_at}
use Rattle.device.specs.Unit.{txd_bits}
use Rattle.device.specs.declared.unit.Device.{Device}
use Rattle.record.specs.Codec.{decode_of}
use Rattle.warpmagpie.specs.Calls.{read_value}
use Rattle.history.specs.Call.{Call, reset, write, read, vector, pass, effect, along, gathered, Bytes, usart_of, OnlyData}

-- enabled, nothing in shift at first; no serial register but UDR0 written, and no reset
pub record MaySend (d : Device) (s : List ℕ) (cs : List Call) : Type 0 where
  pub valid : decode_of s ≡ Ok d
  pub ready : ReadyToSend d.usart
  pub bytes : Bytes cs
  pub only_data : OnlyData s cs

-- the data that a write to UDR0 gives the buffer: done with UDRE set, and with TXB8 as it then stands
abbrev pub accepted_by : List ℕ → Call → List ℕ
accepted_by s reset = []
accepted_by s (write a v) =
    pick (eqb a 0xC6)
    (pick (eqb (bit_at (read_value s 0xC0) 5) 1) (data_of (usart_of s).format (bit_at (read_value s 0xC1) 0 * 256 + v) ∷ []) [])
    []
accepted_by s (read a) = []
accepted_by s (vector n) = []
accepted_by s (pass p) = []

-- the data that the buffer takes, in order: what is written before clocks pass is found by the first of them
abbrev pub taken_of : List ℕ → List Call → List Taken
taken_of s cs = along (λ j s c. map (taken_at j) (accepted_by s c)) 0 s cs

-- TxD and its driven mark in the outputs, one after another: of a run as it answers them, of a hold as the rules give
-- them, which answers the last alone
abbrev pub txd_levels : List ℕ → List Call → List ℕ
txd_levels s cs = gathered (λ s c. map txd_bits (effect s c).outputs) s cs
