-- What the bytes of a record say, unchecked, field by field. A byte that says nothing of its kind is refused
-- (specs/Accepts.antt).
use Rattle.std.specs.Prelude.{ℕ, ◌+◌, ◌/◌, ◌%◌, Bool, List, Option}
use Rattle.choice.specs.Bit.{is_set}
use Rattle.frame.specs.declared.format.Size.{Size}
use Rattle.frame.specs.declared.format.Parity.{Parity}
use Rattle.frame.specs.declared.format.Format.{Format}
use Rattle.usart.specs.Settings.{parity_of}
use Rattle.usart.specs.declared.baud.Baud.{Baud}
use Rattle.usart.specs.declared.sender.Transmission.{Transmission}
use Rattle.usart.specs.declared.sender.Sender.{Sender}
use Rattle.usart.specs.declared.sampler.Reception.{Reception}
use Rattle.usart.specs.declared.sampler.Sampler.{Sampler}
use Rattle.usart.specs.declared.queue.Frame.{Frame}
use Rattle.usart.specs.declared.queue.Places.{Places}
use Rattle.usart.specs.declared.queue.Queue.{Queue}
use Rattle.usart.specs.declared.receiver.Receiver.{Receiver}
use Rattle.usart.specs.declared.unit.Control.{Control}
use Rattle.usart.specs.declared.unit.Usart.{Usart}
use Rattle.spi.specs.declared.control.Control.{Control as SpiControl}
use Rattle.spi.specs.declared.transfer.Transfer.{Transfer}
use Rattle.spi.specs.declared.flag.Flags.{Flags}
use Rattle.spi.specs.declared.unit.Pins.{Pins}
use Rattle.spi.specs.declared.unit.Spi.{Spi}
use Rattle.device.specs.declared.unit.Device.{Device}
use Rattle.record.specs.Layout.{ubrr_byte, left_byte, ucsr0a_byte, ucsr0b_byte, ucsr0c_byte, full_byte, data_byte, sending_byte, sent_word_byte, sent_bit_byte, sent_ticks_byte}
use Rattle.record.specs.Layout.{receiving_byte, last_byte, bit_byte, samples_byte, first_byte, second_byte, word_byte, splits_byte, held_byte, waits_byte, lost_byte, oldest_byte, next_byte, third_byte}
use Rattle.record.specs.Layout.{spcr_byte, spi2x_byte, ddrb_byte, shift_byte, received_byte, edges_byte, clocks_byte, spif_byte, wcol_byte, mosi_byte, miso_byte, sck_byte}
use Rattle.record.specs.Layout.{byte_at, word_at, set_at}
use Rattle.record.specs.Codes.{size_code, known_size, frame_from, flag_of}
use Rattle.record.specs.Parts.{buffer_from, shifter_from, sampler_from, places_from}

abbrev pub baud_at : List ℕ → Baud
baud_at b = record { ubrr = word_at b ubrr_byte; left = record { 0 = word_at b left_byte } }

-- the format of the registers A, B and C

abbrev pub format_with : ℕ → ℕ → Size → Parity → Format
format_with a c z p = record { size = z; parity = p; usbs = is_set c 8; u2x = is_set a 2 }

abbrev pub format_of : ℕ → ℕ → ℕ → Format
format_of a b c = format_with a c (known_size (size_code b c)) (parity_of (c / 16 % 4))

abbrev pub format_at : List ℕ → Format
format_at b = format_of (byte_at b ucsr0a_byte) (byte_at b ucsr0b_byte) (byte_at b ucsr0c_byte)

abbrev pub control_of : ℕ → Control
control_of b =
    record { rxcie = is_set b 128; txcie = is_set b 64; udrie = is_set b 32; rxen = is_set b 16; txen = is_set b 8; txb8 = is_set b 1 }

abbrev pub control_at : List ℕ → Control
control_at b = control_of (byte_at b ucsr0b_byte)

abbrev pub buffer_at : List ℕ → Option ℕ
buffer_at b = buffer_from (set_at b full_byte) (word_at b data_byte)

abbrev pub transmission_at : List ℕ → Transmission
transmission_at b = record { word = word_at b sent_word_byte; bit = byte_at b sent_bit_byte; sample = record { 0 = byte_at b sent_ticks_byte } }

abbrev pub shifter_at : List ℕ → Option Transmission
shifter_at b = shifter_from (set_at b sending_byte) (transmission_at b)

abbrev pub sender_with : ℕ → Option ℕ → Option Transmission → Sender
sender_with a u s = record { buffer = u; shifter = s; txc = is_set a 64 }

abbrev pub sender_at : List ℕ → Sender
sender_at b = sender_with (byte_at b ucsr0a_byte) (buffer_at b) (shifter_at b)

abbrev pub reception_at : List ℕ → Reception
reception_at b =
    record {
      bit = byte_at b bit_byte;
      sample = record { 0 = byte_at b samples_byte };
      first = set_at b first_byte;
      second = set_at b second_byte;
      word = word_at b word_byte;
      splits = byte_at b splits_byte;
    }

abbrev pub sampler_at : List ℕ → Sampler
sampler_at b = sampler_from (set_at b receiving_byte) (set_at b last_byte) (reception_at b)

-- the frame whose bytes begin at i
abbrev pub frame_at : List ℕ → ℕ → Frame
frame_at b i = frame_from (byte_at b i) (byte_at b (i + 1)) (byte_at b (i + 2))

abbrev pub places_at : List ℕ → Places
places_at b =
    places_from (byte_at b held_byte) (set_at b waits_byte) (frame_at b oldest_byte) (frame_at b next_byte) (frame_at b third_byte)

abbrev pub queue_with : Bool → Places → Queue
queue_with lost p = record { places = p; lost = lost }

abbrev pub queue_at : List ℕ → Queue
queue_at b = queue_with (set_at b lost_byte) (places_at b)

abbrev pub receiver_at : List ℕ → Receiver
receiver_at b = record { sampler = sampler_at b; queue = queue_at b }

abbrev pub usart_at : List ℕ → Usart
usart_at b = record { baud = baud_at b; format = format_at b; control = control_at b; sender = sender_at b; receiver = receiver_at b }

abbrev pub spi_control_at : List ℕ → SpiControl
spi_control_at b = record { spcr = byte_at b spcr_byte; spi2x = set_at b spi2x_byte; ddrb = byte_at b ddrb_byte }

abbrev pub transfer_at : List ℕ → Transfer
transfer_at b =
    record { shift = byte_at b shift_byte; received = byte_at b received_byte; edges = byte_at b edges_byte; left = record { 0 = byte_at b clocks_byte } }

abbrev pub flags_at : List ℕ → Flags
flags_at b = record { spif = flag_of (byte_at b spif_byte); wcol = flag_of (byte_at b wcol_byte) }

abbrev pub pins_at : List ℕ → Pins
pins_at b = record { mosi = set_at b mosi_byte; miso = set_at b miso_byte; sck = set_at b sck_byte }

abbrev pub spi_at : List ℕ → Spi
spi_at b = record { control = spi_control_at b; transfer = transfer_at b; flags = flags_at b; pins = pins_at b }

abbrev pub device_at : List ℕ → Device
device_at b = record { usart = usart_at b; spi = spi_at b }
