-- The bytes of a device (docs/RECORD.md). Settings stand as their registers, every other field has bytes of its own,
-- and what is not in use is 0.
use Rattle.std.specs.Prelude.{ℕ, ◌+◌, ◌*◌, ◌/◌, ◌%◌, Bool, List, [], ◌∷◌}
use mir.Val.{bool_byte}
use Rattle.choice.specs.Pick.{digit}
use Rattle.frame.specs.declared.format.Format.{Format}
use Rattle.usart.specs.Settings.{code_of, upm_of}
use Rattle.usart.specs.declared.unit.Control.{Control}
use Rattle.device.specs.declared.unit.Device.{Device}
use Rattle.record.specs.Layout.{layout_number, low, high}
use Rattle.record.specs.Codes.{marks_of, flag_code}
use Rattle.record.specs.Parts.{sender_parts, receiver_parts}
use Rattle.record.specs.declared.parts.SenderParts.{SenderParts}
use Rattle.record.specs.declared.parts.ReceiverParts.{ReceiverParts}

-- TXC and U2X
abbrev pub ucsr0a : Format → Bool → ℕ
ucsr0a f txc = digit txc * 64 + digit f.u2x * 2

-- RXB8, bit 1, is the oldest frame's and not kept here
abbrev pub ucsr0b : Format → Control → ℕ
ucsr0b f c =
    digit c.rxcie * 128 + digit c.txcie * 64 + digit c.udrie * 32 + digit c.rxen * 16 + digit c.txen * 8
    + code_of f.size / 4 * 4 + digit c.txb8

abbrev pub ucsr0c : Format → ℕ
ucsr0c f = upm_of f.parity * 16 + digit f.usbs * 8 + code_of f.size % 4 * 2

abbrev pub bit : Bool → ℕ
bit b = bool_byte b

abbrev pub image_with : Device → SenderParts → ReceiverParts → List ℕ
image_with d s r =
    low d.usart.baud.ubrr ∷ high d.usart.baud.ubrr
    ∷ low d.usart.baud.left.0 ∷ high d.usart.baud.left.0
    ∷ ucsr0a d.usart.format d.usart.sender.txc ∷ ucsr0b d.usart.format d.usart.control ∷ ucsr0c d.usart.format ∷ 0
    ∷ bit s.full ∷ low s.«data» ∷ high s.«data»
    ∷ bit s.sending ∷ low s.transmission.word ∷ high s.transmission.word
    ∷ s.transmission.bit ∷ s.transmission.sample.0
    ∷ bit r.receiving ∷ bit r.last ∷ r.reception.bit ∷ r.reception.sample.0
    ∷ bit r.reception.first ∷ bit r.reception.second ∷ low r.reception.word ∷ high r.reception.word
    ∷ r.reception.splits ∷ r.frames.held ∷ bit r.frames.waits ∷ bit d.usart.receiver.queue.lost
    ∷ low r.frames.oldest.«data» ∷ marks_of r.frames.oldest ∷ r.frames.oldest.splits
    ∷ low r.frames.second.«data» ∷ marks_of r.frames.second ∷ r.frames.second.splits
    ∷ low r.frames.third.«data» ∷ marks_of r.frames.third ∷ r.frames.third.splits
    ∷ 0 ∷ 0 ∷ 0
    ∷ 0 ∷ 0 ∷ 0 ∷ 0 ∷ 0 ∷ 0 ∷ 0 ∷ 0
    ∷ d.spi.control.spcr ∷ bit d.spi.control.spi2x ∷ d.spi.control.ddrb
    ∷ d.spi.transfer.shift ∷ d.spi.transfer.received ∷ d.spi.transfer.edges ∷ d.spi.transfer.left.0
    ∷ flag_code d.spi.flags.spif ∷ flag_code d.spi.flags.wcol
    ∷ bit d.spi.pins.mosi ∷ bit d.spi.pins.miso ∷ bit d.spi.pins.sck
    ∷ 0 ∷ 0 ∷ 0 ∷ layout_number
    ∷ []

abbrev pub image_of : Device → List ℕ
image_of d = image_with d (sender_parts d.usart.sender) (receiver_parts d.usart.receiver)
