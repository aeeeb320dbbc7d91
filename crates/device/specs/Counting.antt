-- A means, no rule: one clock at which nothing happens but counting. That it comes to what `clock_of` says, and that the
-- output stays, is proved in `proofs/CountingLaws.antt`.
use Rattle.std.specs.Prelude.{ℕ, Bool, true, false, not, ltb}
use Rattle.choice.specs.Pick.{pick}
use Rattle.frame.specs.declared.format.Format.{Format}
use Rattle.usart.specs.Baud.{ticks, baud_of}
use Rattle.usart.specs.Counting.{sender_quiet, bit_quiet, counted_sender, counted_receiver}
use Rattle.usart.specs.Write.{with_baud}
use Rattle.usart.specs.declared.sampler.Sampler.{Sampler}
use Rattle.usart.specs.declared.sampler.Sampler.TheVariants.{Idle, Receiving}
use Rattle.usart.specs.declared.unit.Usart.{Usart}
use Rattle.spi.specs.Holding.{is_at_rest as spi_rests}
use Rattle.device.specs.Unit.{with_usart, rxd_in, levels_in}
use Rattle.device.specs.declared.unit.Device.{Device}

-- at a tick: idle, the sampler leaves all as it is where the level is the one that it remembers; within a bit it only
-- counts where the sample does not vote and is not the bit's last
abbrev pub sampler_counts : Format → Sampler → Bool → Bool
sampler_counts f (Idle last) rxd = pick last rxd (not rxd)
sampler_counts f (Receiving r) rxd = ltb 0 (bit_quiet f r.sample.0)

-- only an enabled receiver samples
unfoldable pub receiver_counts : Bool → Format → Sampler → Bool → Bool
receiver_counts rxen f p rxd = pick rxen (sampler_counts f p rxd) true

-- at a tick: the sender has nothing to send or is within a bit, and the receiver counts
unfoldable pub serial_counts : Usart → Bool → Bool
serial_counts u rxd =
    pick (ltb 0 (sender_quiet u.format u.sender.buffer u.sender.shifter))
    (receiver_counts u.control.rxen u.format u.receiver.sampler rxd)
    false

-- this clock only counts: the SPI is at rest, and there is no tick, or one that only counts
unfoldable pub is_counting : Device → ℕ → Bool
is_counting d level =
    pick (spi_rests d.spi (levels_in level))
    (pick (ticks d.usart.baud) (serial_counts d.usart (rxd_in level)) true)
    false

-- after it the baud counter has moved on, and at a tick one more is counted of the bits under way
unfoldable pub counted_usart : Usart → Usart
counted_usart u =
    pick (ticks u.baud)
    (record {
      baud = baud_of u.baud;
      format = u.format;
      control = u.control;
      sender = counted_sender u.sender 1;
      receiver = counted_receiver u.control.rxen u.receiver 1;
    })
    (with_baud u (baud_of u.baud))

abbrev pub counted_device : Device → Device
counted_device d = with_usart d (counted_usart d.usart)
