-- RXB8, FE, DOR, UPE and the split votes are those of the frame that the next read of UDR0 takes away, so they are
-- looked at just before it: a record that holds two frames of nine bits, the first with its ninth bit set, the second
-- with the other flags, each with a count of its own.
use mathlib.Core.Bool.{true, false}
use mathlib.Core.Path.{◌≡◌, refl}
use Rattle.std.proofs.Common.{None}
use Rattle.frame.specs.declared.format.Size.TheVariants.{Nine}
use Rattle.frame.specs.declared.format.Parity.TheVariants.{Off}
use Rattle.usart.specs.Settings.{size_of, parity_of}
use Rattle.usart.specs.declared.queue.Places.TheVariants.{Two}
use Rattle.usart.specs.declared.sampler.Sampler.TheVariants.{Idle}
use Rattle.spi.specs.Control.{divisor_number}
use Rattle.spi.specs.Unit.{reset_spi}
use Rattle.device.specs.Address.{place_of}
use Rattle.device.specs.declared.unit.Device.{Device}
use Rattle.record.specs.Codec.{record_of, decode_of}
use Rattle.record.specs.Codes.{flag_of}
use Rattle.record.specs.Parts.{buffer_from, shifter_from, sampler_from, places_from}
use Rattle.record.specs.Accepts.{is_within, counter_fits, buffer_fits, shifter_fits, sampler_fits, places_fit, waiting_fits, enabled_fits, usart_fits, spi_fits, accepts, is_record}
use Rattle.warpmagpie.specs.Calls.{read_on, query_value_on}
use Rattle.history.specs.Call.{record_after, read}
use Rattle.history.specs.Receiving.{seen_by}

unfoldable pub two_held : Device
two_held = record {
  usart = record {
    baud = record { ubrr = 0; left = record { 0 = 0 } };
    format = record { size = Nine; parity = Off; usbs = false; u2x = false };
    control = record { rxcie = false; txcie = false; udrie = false; rxen = true; txen = false; txb8 = false };
    sender = record { buffer = None; shifter = None; txc = false };
    receiver = record {
      sampler = Idle true;
      queue = record {
        places = Two (record { «data» = 0x155; fe = false; upe = false; dor = false; splits = 3 })
            (record { «data» = 0x0AA; fe = true; upe = true; dor = true; splits = 12 });
        lost = false;
      };
    };
  };
  spi = reset_spi;
}

-- just before the read: the first frame's
pub seen-before : seen_by (record_of two_held) ≡ record { value = 0x55; rxb8 = 1; fe = 0; dor = 0; upe = 0; splits = 3 }
unfolding two_held decode_of record_of is_within counter_fits buffer_fits shifter_fits sampler_fits places_fit waiting_fits enabled_fits usart_fits spi_fits accepts is_record flag_of buffer_from shifter_from sampler_from places_from size_of parity_of divisor_number read_on query_value_on place_of
seen-before = refl

-- after it: the next one's
pub seen-after : seen_by (record_after (record_of two_held) (read 0xC6)) ≡ record { value = 0xAA; rxb8 = 0; fe = 1; dor = 1; upe = 1; splits = 12 }
unfolding two_held decode_of record_of is_within counter_fits buffer_fits shifter_fits sampler_fits places_fit waiting_fits enabled_fits usart_fits spi_fits accepts is_record flag_of buffer_from shifter_from sampler_from places_from size_of parity_of divisor_number read_on query_value_on place_of
seen-after = refl
