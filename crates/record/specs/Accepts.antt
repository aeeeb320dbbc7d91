-- Which bytes are a record (docs/RECORD.md): what each byte is at most, by a table, and what is asked of the fields
-- that depend on others. Accepted are exactly the images of valid devices (proofs/Round.antt).
use Rattle.std.specs.Prelude.{ℕ, ◌+◌, ◌-◌, ◌/◌, ◌%◌, ◌^◌, Bool, true, false, not, ◌&&◌, List, [], ◌∷◌, eqb, ltb, leb, length}
use Rattle.choice.specs.Pick.{pick, digit}
use Rattle.frame.specs.Format.{samples, first_vote, data_bits, word_bits, last_bit}
use Rattle.frame.specs.Word.{word_of}
use Rattle.frame.specs.declared.format.Format.{Format}
use Rattle.usart.specs.Settings.{is_known, size_of}
use Rattle.usart.specs.Valid.{voted_bits}
use Rattle.usart.specs.declared.baud.Baud.{Baud}
use Rattle.usart.specs.declared.sender.Transmission.{Transmission}
use Rattle.usart.specs.declared.sampler.Reception.{Reception}
use Rattle.spi.specs.Control.{is_enabled, is_master, mode_of, half}
use Rattle.spi.specs.Unit.{sck_of}
use Rattle.spi.specs.Valid.{is_first_out, first_bit}
use Rattle.spi.specs.declared.unit.Spi.{Spi}
use Rattle.record.specs.Layout.{record_length, layout_number, layout_byte, ucsr0a_byte, ucsr0b_byte, ucsr0c_byte, full_byte, data_byte, sending_byte}
use Rattle.record.specs.Layout.{receiving_byte, last_byte, held_byte, waits_byte, lost_byte, oldest_byte, next_byte, third_byte, most, byte_at, word_at, triple_at, set_at}
use Rattle.record.specs.Codes.{size_code}
use Rattle.record.specs.Lift.{baud_at, format_at, control_at, transmission_at, reception_at, spi_at}

-- all of some tests
abbrev pub every : List Bool → Bool
every [] = true
every (t ∷ []) = t
every (t ∷ (u ∷ us)) = pick t (every (u ∷ us)) false

-- no byte is above its limit
unfoldable pub is_within : List ℕ → List ℕ → Bool
is_within [] ms = true
is_within (x ∷ xs) [] = true
is_within (x ∷ xs) (m ∷ ms) = pick (leb x m) (is_within xs ms) false

-- UCSR0A, B and C have no bits but their settings', and no reserved one
abbrev pub settings_fit : ℕ → ℕ → ℕ → Bool
settings_fit a b c =
    eqb (a % 2) 0 && eqb (a / 4 % 16) 0 && eqb (b / 2 % 2) 0 && eqb (c % 2) 0 && not (eqb (c / 16 % 4) 1) && is_known (size_of (size_code b c))

-- the ticks of a frame under way are UBRR + 1 clocks apart
unfoldable pub counter_fits : Bool → Bool → Baud → Bool
counter_fits sending receiving b =
    pick sending (leb b.left.0 b.ubrr) (pick receiving (leb b.left.0 b.ubrr) true)

-- data bits only
unfoldable pub buffer_fits : Format → Bool → ℕ → Bool
buffer_fits f full d = pick full (ltb d (2 ^ data_bits f.size)) (eqb d 0)

-- the word of a frame, its parity bit right
abbrev pub transmission_fits : Format → Transmission → Bool
transmission_fits f t = eqb (word_of f t.word) t.word && leb t.bit (last_bit f) && ltb t.sample.0 (samples f)

abbrev pub is_no_transmission : Transmission → Bool
is_no_transmission t = eqb t.word 0 && eqb t.bit 0 && eqb t.sample.0 0

unfoldable pub shifter_fits : Format → Bool → Transmission → Bool
shifter_fits f sending t = pick sending (transmission_fits f t) (is_no_transmission t)

-- up to the first stop bit
abbrev pub reception_within : Format → Reception → Bool
reception_within f r = ltb r.word (2 ^ word_bits f) && leb r.bit (word_bits f + 1) && ltb r.sample.0 (samples f)

-- the start bit has its first sample, and the stop bit not yet its last vote
unfoldable pub is_undecided : Format → Reception → Bool
is_undecided f r = pick (eqb r.bit 0) (leb 1 r.sample.0) (pick (eqb r.bit (word_bits f + 1)) (leb r.sample.0 (first_vote f + 1)) true)

-- a vote is kept from its sample until the bit is decided
unfoldable pub first_fits : Format → Reception → Bool
first_fits f r = pick r.first (leb (first_vote f) r.sample.0 && ltb r.sample.0 (first_vote f + 2)) true

unfoldable pub second_fits : Format → Reception → Bool
second_fits f r = pick r.second (eqb r.sample.0 (first_vote f + 1)) true

-- no more votes are split than bits are decided
abbrev pub splits_fit : Format → Reception → Bool
splits_fit f r = leb r.splits (voted_bits f r)

-- bits that have not come in are 0
abbrev pub rest_fits : Format → Reception → Bool
rest_fits f r = eqb (r.word % 2 ^ (word_bits f + 1 - voted_bits f r)) 0

unfoldable pub reception_fits : Format → Reception → Bool
reception_fits f r =
    every (reception_within f r ∷ is_undecided f r ∷ first_fits f r ∷ second_fits f r ∷ splits_fit f r ∷ rest_fits f r ∷ [])

abbrev pub is_no_reception : Reception → Bool
is_no_reception r =
    eqb r.bit 0 && eqb r.sample.0 0 && not r.first && not r.second && eqb r.word 0 && eqb r.splits 0

-- a frame under way keeps no last sample
unfoldable pub sampler_fits : Format → Bool → Bool → Reception → Bool
sampler_fits f receiving last r = pick receiving (pick last false (reception_fits f r)) (is_no_reception r)

-- n frames held, by the bytes of the oldest and of the second: 0 where there is none
unfoldable pub places_fit : ℕ → ℕ → ℕ → Bool
places_fit n a b = pick (eqb n 2) true (pick (eqb n 1) (eqb b 0) (eqb b 0 && eqb a 0))

-- M-103: one waits only with two held, and before the start bit of a frame under way is decided; where none waits its
-- bytes are 0
unfoldable pub waiting_fits : Format → Reception → ℕ → Bool → ℕ → Bool
waiting_fits f r n waits c = pick waits (eqb n 2 && eqb (voted_bits f r) 0) (eqb c 0)

-- a disabled receiver is idle, remembers low, holds nothing and has lost nothing
unfoldable pub enabled_fits : Bool → Bool → Bool → ℕ → Bool → Bool
enabled_fits rxen receiving last n lost = pick rxen true (not receiving && not last && eqb n 0 && not lost)

-- bytes 0 to 47, but for the limits and the settings
unfoldable pub usart_fits : List ℕ → Bool
usart_fits b =
    every
    (counter_fits (set_at b sending_byte) (set_at b receiving_byte) (baud_at b)
    ∷ buffer_fits (format_at b) (set_at b full_byte) (word_at b data_byte)
    ∷ shifter_fits (format_at b) (set_at b sending_byte) (transmission_at b)
    ∷ sampler_fits (format_at b) (set_at b receiving_byte) (set_at b last_byte) (reception_at b)
    ∷ places_fit (byte_at b held_byte) (triple_at b oldest_byte) (triple_at b next_byte)
    ∷ waiting_fits (format_at b) (reception_at b) (byte_at b held_byte) (set_at b waits_byte) (triple_at b third_byte)
    ∷ enabled_fits (control_at b).rxen (set_at b receiving_byte) (set_at b last_byte) (byte_at b held_byte) (set_at b lost_byte)
    ∷ [])

-- the bit that is out, where it is still the first of the shift register
unfoldable pub out_fits : Spi → Bool → Bool
out_fits s out = pick (is_first_out (mode_of s.control) s.transfer.edges) (eqb (digit out) (digit (first_bit s))) true

-- a master's byte under way has an edge due, within h clocks
unfoldable pub master_fits : Spi → Bool
master_fits s =
    pick (eqb s.transfer.left.0 0) (eqb s.transfer.edges 0)
    (leb s.transfer.left.0 (half s.control) && out_fits s s.pins.mosi)

-- a slave waits for no edge of its own; its edges alternate, the first away from CPOL
unfoldable pub slave_fits : Spi → Bool
slave_fits s =
    pick (eqb s.transfer.edges 0) (eqb s.transfer.left.0 0)
    (eqb s.transfer.left.0 0 && eqb (digit s.pins.sck) (digit (sck_of s)) && out_fits s s.pins.miso)

-- a disabled SPI has no transfer
unfoldable pub spi_fits : Spi → Bool
spi_fits s =
    pick (is_enabled s.control) (pick (is_master s.control) (master_fits s) (slave_fits s))
    (eqb s.transfer.edges 0 && eqb s.transfer.left.0 0)

unfoldable pub accepts : List ℕ → Bool
accepts b =
    every
    (is_within b most
    ∷ eqb (byte_at b layout_byte) layout_number
    ∷ settings_fit (byte_at b ucsr0a_byte) (byte_at b ucsr0b_byte) (byte_at b ucsr0c_byte)
    ∷ usart_fits b
    ∷ spi_fits (spi_at b)
    ∷ [])

-- as long as a record, and accepted
unfoldable pub is_record : List ℕ → Bool
is_record b = pick (eqb (length b) record_length) (accepts b) false
