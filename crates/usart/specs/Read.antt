-- What the serial registers read (document 01, 'Receiver'; bit places by source 004), and the split votes of the oldest
-- frame (document 02, M-101).
use Rattle.std.specs.Prelude.{ℕ, ◌+◌, ◌*◌, ◌/◌, ◌%◌, not}
use Rattle.choice.specs.Bit.{is_set}
use Rattle.choice.specs.Pick.{digit}
use Rattle.usart.specs.Sender.{is_vacant}
use Rattle.usart.specs.Queue.{is_empty, oldest_of, without_oldest}
use Rattle.usart.specs.Settings.{code_of, upm_of}
use Rattle.usart.specs.declared.queue.Frame.{Frame}
use Rattle.usart.specs.declared.unit.Usart.{Usart}
use Rattle.usart.specs.declared.write.Register.{Register}
use Rattle.usart.specs.declared.write.Register.TheVariants.{Ucsr0a, Ucsr0b, Ucsr0c, Ubrr0l, Ubrr0h, Udr0}
use Rattle.answer.specs.declared.Reading.{Reading}

-- the frame that the next UDR0 read takes away
abbrev pub oldest : Usart → Frame
oldest u = oldest_of u.receiver.queue.places

-- RXC, TXC, UDRE, FE, DOR, UPE, U2X, MPCM, of which MPCM is 0
abbrev pub ucsr0a : Usart → ℕ
ucsr0a u =
    digit (not (is_empty u.receiver.queue.places)) * 128
    + digit u.sender.txc * 64
    + digit (is_vacant u.sender.buffer) * 32
    + digit (oldest u).fe * 16
    + digit (oldest u).dor * 8
    + digit (oldest u).upe * 4
    + digit u.format.u2x * 2

-- RXCIE, TXCIE, UDRIE, RXEN, TXEN, UCSZ2, RXB8, TXB8
abbrev pub ucsr0b : Usart → ℕ
ucsr0b u =
    digit u.control.rxcie * 128
    + digit u.control.txcie * 64
    + digit u.control.udrie * 32
    + digit u.control.rxen * 16
    + digit u.control.txen * 8
    + code_of u.format.size / 4 * 4
    + digit (is_set (oldest u).«data» 256) * 2
    + digit u.control.txb8

-- UMSEL (00), UPM, USBS, UCSZ1:0, UCPOL (0)
abbrev pub ucsr0c : Usart → ℕ
ucsr0c u = upm_of u.format.parity * 16 + digit u.format.usbs * 8 + code_of u.format.size % 4 * 2

abbrev pub ubrr0l : Usart → ℕ
ubrr0l u = u.baud.ubrr % 256

abbrev pub ubrr0h : Usart → ℕ
ubrr0h u = u.baud.ubrr / 256 % 256

-- data bits 0 to 7 of the oldest frame; 0 where there is none
abbrev pub udr0 : Usart → ℕ
udr0 u = (oldest u).«data» % 256

-- M-101: 'the oldest's asked for by a call of its own (0 if empty ..)'
abbrev pub split_votes : Usart → ℕ
split_votes u = (oldest u).splits

abbrev pub popped_of : Usart → Usart
popped_of u = record {
  baud = u.baud;
  format = u.format;
  control = u.control;
  sender = u.sender;
  receiver = record { sampler = u.receiver.sampler; queue = without_oldest u.receiver.queue };
}

-- only a read of UDR0 changes anything
abbrev pub read_of : Usart → Register → Reading Usart
read_of u Ucsr0a = record { value = ucsr0a u; after = u }
read_of u Ucsr0b = record { value = ucsr0b u; after = u }
read_of u Ucsr0c = record { value = ucsr0c u; after = u }
read_of u Ubrr0l = record { value = ubrr0l u; after = u }
read_of u Ubrr0h = record { value = ubrr0h u; after = u }
read_of u Udr0 = record { value = udr0 u; after = popped_of u }
