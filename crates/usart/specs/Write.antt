-- Writes of the serial registers, in document 01's order ('Registers and their writes'), and vector 0.
use Rattle.std.specs.Prelude.{ℕ, ◌+◌, ◌*◌, ◌/◌, ◌%◌, Bool, true, eqb, leb, Err, None, Ok, Option, Result, Some}
use Rattle.answer.specs.declared.Refusal.TheVariants.{Reserved, Unmodelled, UnderWay, Unrequested}
use Rattle.choice.specs.Bit.{is_set}
use Rattle.choice.specs.Pick.{pick, digit}
use Rattle.frame.specs.Word.{data_of}
use Rattle.frame.specs.declared.format.Size.{Size}
use Rattle.frame.specs.declared.format.Format.{Format}
use Rattle.usart.specs.Baud.{loaded_baud}
use Rattle.usart.specs.Sender.{filled_of, acknowledged_of}
use Rattle.usart.specs.Receiver.{enabled_of}
use Rattle.usart.specs.Unit.{is_busy, txc_requested}
use Rattle.usart.specs.Settings.{code_of, size_of, parity_of, settings_of}
use Rattle.usart.specs.declared.baud.Baud.{Baud}
use Rattle.usart.specs.declared.sender.Sender.{Sender}
use Rattle.usart.specs.declared.unit.Control.{Control}
use Rattle.usart.specs.declared.unit.Usart.{Usart}
use Rattle.usart.specs.declared.write.Register.{Register}
use Rattle.usart.specs.declared.write.Register.TheVariants.{Ucsr0a, Ucsr0b, Ucsr0c, Ubrr0l, Ubrr0h, Udr0}
use Rattle.answer.specs.declared.Refusal.{Refusal}

abbrev pub with_sender : Usart → Sender → Usart
with_sender u s = record { baud = u.baud; format = u.format; control = u.control; sender = s; receiver = u.receiver }

abbrev pub with_format : Usart → Format → Usart
with_format u f = record { baud = u.baud; format = f; control = u.control; sender = u.sender; receiver = u.receiver }

abbrev pub with_baud : Usart → Baud → Usart
with_baud u b = record { baud = b; format = u.format; control = u.control; sender = u.sender; receiver = u.receiver }

-- 4 for a write that changes UPM, USBS, a size bit or U2X while busy, judged on the state before the write
unfoldable pub formatted_of : Usart → Bool → Format → Result Usart Refusal
formatted_of u busy f =
    pick busy (pick (eqb (settings_of f) (settings_of u.format)) (Ok u) (Err UnderWay)) (Ok (with_format u f))

-- A: writing 1 to bit 6 clears TXC
unfoldable pub txc_cleared : Usart → ℕ → Usart
txc_cleared u v = pick (is_set v 64) (with_sender u (acknowledged_of u.sender)) u

abbrev pub with_u2x : Format → Bool → Format
with_u2x f b = record { size = f.size; parity = f.parity; usbs = f.usbs; u2x = b }

-- A: MPCM 1 is answer 3; U2X is bit 1
unfoldable pub write_a : Usart → ℕ → Result Usart Refusal
write_a u v =
    pick (eqb (v % 2) 1) (Err Unmodelled)
    (formatted_of (txc_cleared u v) (is_busy u) (with_u2x u.format (is_set v 2)))

abbrev pub control_in : ℕ → Control
control_in v = record {
  rxcie = is_set v 128;
  txcie = is_set v 64;
  udrie = is_set v 32;
  rxen = is_set v 16;
  txen = is_set v 8;
  txb8 = eqb (v % 2) 1;
}

-- B, but for its size bit; RXB8 (bit 1) can't be written
abbrev pub controlled : Usart → ℕ → Usart
controlled u v = record {
  baud = u.baud;
  format = u.format;
  control = control_in v;
  sender = u.sender;
  receiver = enabled_of u.control.rxen (control_in v).rxen u.receiver;
}

abbrev pub with_size : Format → Size → Format
with_size f z = record { size = z; parity = f.parity; usbs = f.usbs; u2x = f.u2x }

abbrev pub sized_b : Usart → Size → ℕ → Result Usart Refusal
sized_b u z v = formatted_of (controlled u v) (is_busy u) (with_size u.format z)

-- after a write to B or C a size code that is not known is 2
abbrev pub coded_b : Usart → ℕ → Option Size → Result Usart Refusal
coded_b u v (Some z) = sized_b u z v
coded_b u v None = Err Reserved

-- B: UCSZ2 is bit 2
abbrev pub write_b : Usart → ℕ → Result Usart Refusal
write_b u v = coded_b u v (size_of (v / 4 % 2 * 4 + code_of u.format.size % 4))

-- C: UMSEL 10 is 2; UPM 01 is 2; UCPOL 1 is 2
unfoldable pub is_reserved_c : ℕ → Bool
is_reserved_c v = pick (eqb (v / 64) 2) true (pick (eqb (v / 16 % 4) 1) true (eqb (v % 2) 1))

abbrev pub format_in : Usart → Size → ℕ → Format
format_in u z v = record { size = z; parity = parity_of (v / 16 % 4); usbs = is_set v 8; u2x = u.format.u2x }

-- C: UMSEL 01 and 11 are 3
unfoldable pub sized_c : Usart → Size → ℕ → Result Usart Refusal
sized_c u z v = pick (eqb (v / 64) 0) (formatted_of u (is_busy u) (format_in u z v)) (Err Unmodelled)

abbrev pub coded_c : Usart → ℕ → Option Size → Result Usart Refusal
coded_c u v (Some z) = sized_c u z v
coded_c u v None = Err Reserved

-- C: UPM is bits 5 and 4, USBS bit 3, UCSZ1:0 bits 2 and 1
unfoldable pub write_c : Usart → ℕ → Result Usart Refusal
write_c u v =
    pick (is_reserved_c v) (Err Reserved) (coded_c u v (size_of (code_of u.format.size / 4 * 4 + v / 2 % 4)))

-- 4 is given for any write to UBRR0L or H while busy
unfoldable pub timed_of : Usart → Baud → Result Usart Refusal
timed_of u b = pick (is_busy u) (Err UnderWay) (Ok (with_baud u b))

-- UBRR0L: stores and loads the baud counter with all of UBRR
abbrev pub write_l : Usart → ℕ → Result Usart Refusal
write_l u v = timed_of u (loaded_baud (u.baud.ubrr / 256 * 256 + v))

-- UBRR0H: bits 7 to 4 set is 2
unfoldable pub write_h : Usart → ℕ → Result Usart Refusal
write_h u v =
    pick (leb 16 v) (Err Reserved)
    (timed_of u (record { ubrr = v * 256 + u.baud.ubrr % 256; left = u.baud.left }))

-- a write to UDR0 with TXEN and UDRE set fills the buffer, with TXB8 as it then stands; any other is done and ignored
unfoldable pub transmitted_of : Usart → ℕ → Usart
transmitted_of u v =
    pick u.control.txen
    (with_sender u (filled_of u.sender (data_of u.format (digit u.control.txb8 * 256 + v))))
    u

abbrev pub write_of : Usart → Register → ℕ → Result Usart Refusal
write_of u Ucsr0a v = write_a u v
write_of u Ucsr0b v = write_b u v
write_of u Ucsr0c v = write_c u v
write_of u Ubrr0l v = write_l u v
write_of u Ubrr0h v = write_h u v
write_of u Udr0 v = Ok (transmitted_of u v)

-- vector 0 clears TXC; without its request it is 8
unfoldable pub vector_of : Usart → Result Usart Refusal
vector_of u = pick (txc_requested u) (Ok (with_sender u (acknowledged_of u.sender))) (Err Unrequested)
