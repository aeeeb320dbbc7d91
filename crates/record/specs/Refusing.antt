-- Number 5 by itself (document 01, 'Numbers the rig sees': 'record not 64 bytes, a field out of its range (also against
-- the format), or an unused byte not zero'), field by field as docs/RECORD.md has it. That `decode_of` refuses exactly
-- this is `five` in proofs/Five.antt.
use Rattle.std.specs.Prelude.{ℕ, ◌/◌, ◌%◌, ◌<◌, ◌≤◌, Bool, true, false, List, ◌≡◌, eqb, length, get_or}
use Rattle.usart.specs.Settings.{is_known, size_of}
use Rattle.device.specs.Valid.{Valid}
use Rattle.record.specs.Layout.{record_length, layout_number, layout_byte, ucsr0a_byte, ucsr0b_byte, ucsr0c_byte, full_byte, data_byte, sending_byte}
use Rattle.record.specs.Layout.{sent_word_byte, sent_bit_byte, sent_ticks_byte, receiving_byte, last_byte, bit_byte, samples_byte, first_byte, second_byte}
use Rattle.record.specs.Layout.{word_byte, splits_byte, held_byte, waits_byte, oldest_byte, next_byte, third_byte, most, byte_at, word_at, triple_at}
use Rattle.record.specs.Codes.{size_code}
use Rattle.record.specs.Lift.{device_at}

-- UCSR0A, B and C: no bits but the settings', UPM not 01, no reserved size code
pub record SettingsInRange (a b c : ℕ) : Type 0 where
  pub mpcm : a % 2 ≡ 0
  pub flags : a / 4 % 16 ≡ 0
  pub rxb8 : b / 2 % 2 ≡ 0
  pub ucpol : c % 2 ≡ 0
  pub upm : c / 16 % 4 ≡ 1 → ⊥
  pub size : is_known (size_of (size_code b c)) ≡ true

-- what is not in use is 0
pub record OthersZero (s : List ℕ) : Type 0 where
  pub buffer : byte_at s full_byte ≡ 0 → word_at s data_byte ≡ 0
  pub sent : byte_at s sending_byte ≡ 0 → (word_at s sent_word_byte ≡ 0) × ((byte_at s sent_bit_byte ≡ 0) × (byte_at s sent_ticks_byte ≡ 0))
  pub last : byte_at s receiving_byte ≡ 1 → byte_at s last_byte ≡ 0
  pub bit : byte_at s receiving_byte ≡ 0 → (byte_at s bit_byte ≡ 0) × (byte_at s samples_byte ≡ 0)
  pub votes : byte_at s receiving_byte ≡ 0 → (byte_at s first_byte ≡ 0) × (byte_at s second_byte ≡ 0)
  pub word : byte_at s receiving_byte ≡ 0 → word_at s word_byte ≡ 0
  pub splits : byte_at s receiving_byte ≡ 0 → byte_at s splits_byte ≡ 0
  pub oldest : byte_at s held_byte ≡ 0 → triple_at s oldest_byte ≡ 0
  pub second : byte_at s held_byte < 2 → triple_at s next_byte ≡ 0
  pub waits : byte_at s held_byte < 2 → byte_at s waits_byte ≡ 0
  pub waiting : byte_at s waits_byte ≡ 0 → triple_at s third_byte ≡ 0

abbrev pub is_unused : ℕ → Bool
is_unused i = eqb (get_or most i 0) 0

-- each field: at most its limit, and the device that they say valid, which is its range against the format and the
-- other settings
pub record FieldsInRange (s : List ℕ) : Type 0 where
  pub limits : (i : ℕ) → i < record_length → is_unused i ≡ false → byte_at s i ≤ get_or most i 0
  pub layout : byte_at s layout_byte ≡ layout_number
  pub settings : SettingsInRange (byte_at s ucsr0a_byte) (byte_at s ucsr0b_byte) (byte_at s ucsr0c_byte)
  pub others : OthersZero s
  pub device : Valid (device_at s)

pub data NoRecord (s : List ℕ) : Type 0 where
  wrong_length : (length s ≡ record_length → ⊥) → NoRecord s
  out_of_range : (FieldsInRange s → ⊥) → NoRecord s
  unused_byte : (i : ℕ) → i < record_length → is_unused i ≡ true → (byte_at s i ≡ 0 → ⊥) → NoRecord s
