-- The serial unit at reset, at a clock, its output and its requests.
use Rattle.std.specs.Prelude.{ℕ, ◌+◌, ◌*◌, Bool, true, false, not, None}
use Rattle.choice.specs.Pick.{pick, digit}
use Rattle.frame.specs.Format.{samples}
use Rattle.frame.specs.declared.format.Format.{Format}
use Rattle.frame.specs.declared.format.Size.TheVariants.{Eight}
use Rattle.frame.specs.declared.format.Parity.TheVariants.{Off}
use Rattle.usart.specs.Baud.{ticks, baud_of}
use Rattle.usart.specs.Sender.{is_vacant, is_resting, sender_of, txd_of}
use Rattle.usart.specs.Sampler.{is_receiving}
use Rattle.usart.specs.Queue.{is_empty}
use Rattle.usart.specs.Receiver.{listened_of, stopped}
use Rattle.usart.specs.declared.unit.Usart.{Usart}

-- after reset: 8 data bits, no parity, 1 stop bit (UCSR0C 0x06), UDRE (UCSR0A 0x20), the rest 0
abbrev pub reset_usart : Usart
reset_usart = record {
  baud = record { ubrr = 0; left = record { 0 = 0 } };
  format = record { size = Eight; parity = Off; usbs = false; u2x = false };
  control = record { rxcie = false; txcie = false; udrie = false; rxen = false; txen = false; txb8 = false };
  sender = record { buffer = None; shifter = None; txc = false };
  receiver = stopped;
}

-- the transmitter has a frame in shift or buffer, or the receiver is between first low sample and stop decision
unfoldable pub is_busy : Usart → Bool
is_busy u =
    pick (is_vacant u.sender.buffer)
    (pick (is_resting u.sender.shifter) (is_receiving u.receiver.sampler) true)
    true

abbrev pub ticked_of : Usart → Bool → Usart
ticked_of u rxd = record {
  baud = baud_of u.baud;
  format = u.format;
  control = u.control;
  sender = sender_of u.format u.sender;
  receiver = listened_of u.control.rxen u.format u.receiver rxd;
}

-- one clock, with the level of RxD: only at a tick do sender and receiver move
unfoldable pub clock_of : Usart → Bool → Usart
clock_of u rxd =
    pick (ticks u.baud) (ticked_of u rxd)
    (record {
      baud = baud_of u.baud;
      format = u.format;
      control = u.control;
      sender = u.sender;
      receiver = u.receiver;
    })

-- a bit lasts S ticks, which are UBRR + 1 clocks apart
abbrev pub bit_length : Format → ℕ → ℕ
bit_length f ubrr = samples f * (ubrr + 1)

abbrev pub bit_clocks : Usart → ℕ
bit_clocks u = bit_length u.format u.baud.ubrr

-- TxD is driven with TXEN or frames left
unfoldable pub is_driven : Usart → Bool
is_driven u =
    pick u.control.txen true (pick (is_vacant u.sender.buffer) (not (is_resting u.sender.shifter)) true)

-- TxD in bit 0, its driven mark in bit 4; undriven shows 0
unfoldable pub output_of : Usart → ℕ
output_of u = pick (is_driven u) (digit (txd_of u.format u.sender.shifter) + 16) 0

-- requests: RXC with RXCIE, UDRE with UDRIE, TXC with TXCIE
abbrev pub rxc_requested : Usart → Bool
rxc_requested u = pick u.control.rxcie (not (is_empty u.receiver.queue.places)) false

abbrev pub udre_requested : Usart → Bool
udre_requested u = pick u.control.udrie (is_vacant u.sender.buffer) false

abbrev pub txc_requested : Usart → Bool
txc_requested u = pick u.control.txcie u.sender.txc false

-- bits 0 to 2 of the report
abbrev pub requests_of : Usart → ℕ
requests_of u = digit (rxc_requested u) + digit (udre_requested u) * 2 + digit (txc_requested u) * 4
