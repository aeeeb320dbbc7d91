-- Where each field of a record stands, and what each byte is at most (docs/RECORD.md).
use Rattle.std.specs.Prelude.{ℕ, suc, ◌+◌, ◌*◌, ◌/◌, ◌%◌, Bool, List, [], ◌∷◌, map, eqb, get_or}

abbrev pub record_length : ℕ
record_length = 64

-- the number that a record of this layout has at `layout_byte`
abbrev pub layout_number : ℕ
layout_number = 2

-- the serial unit's settings: UBRR, baud counter and registers

abbrev pub ubrr_byte : ℕ
ubrr_byte = 0

abbrev pub left_byte : ℕ
left_byte = 2

abbrev pub ucsr0a_byte : ℕ
ucsr0a_byte = 4

abbrev pub ucsr0b_byte : ℕ
ucsr0b_byte = 5

abbrev pub ucsr0c_byte : ℕ
ucsr0c_byte = 6

-- the transmit buffer and the frame being sent

abbrev pub full_byte : ℕ
full_byte = 8

abbrev pub data_byte : ℕ
data_byte = 9

abbrev pub sending_byte : ℕ
sending_byte = 11

abbrev pub sent_word_byte : ℕ
sent_word_byte = 12

abbrev pub sent_bit_byte : ℕ
sent_bit_byte = 14

abbrev pub sent_ticks_byte : ℕ
sent_ticks_byte = 15

-- the frame being received

abbrev pub receiving_byte : ℕ
receiving_byte = 16

abbrev pub last_byte : ℕ
last_byte = 17

abbrev pub bit_byte : ℕ
bit_byte = 18

abbrev pub samples_byte : ℕ
samples_byte = 19

abbrev pub first_byte : ℕ
first_byte = 20

abbrev pub second_byte : ℕ
second_byte = 21

abbrev pub word_byte : ℕ
word_byte = 22

abbrev pub splits_byte : ℕ
splits_byte = 24

-- the frames held for reading, and one that waits: each its data's low byte, its marks, then its split votes

abbrev pub held_byte : ℕ
held_byte = 25

abbrev pub waits_byte : ℕ
waits_byte = 26

abbrev pub lost_byte : ℕ
lost_byte = 27

abbrev pub oldest_byte : ℕ
oldest_byte = 28

abbrev pub next_byte : ℕ
next_byte = 31

abbrev pub third_byte : ℕ
third_byte = 34

-- the SPI

abbrev pub spcr_byte : ℕ
spcr_byte = 48

abbrev pub spi2x_byte : ℕ
spi2x_byte = 49

abbrev pub ddrb_byte : ℕ
ddrb_byte = 50

abbrev pub shift_byte : ℕ
shift_byte = 51

abbrev pub received_byte : ℕ
received_byte = 52

abbrev pub edges_byte : ℕ
edges_byte = 53

abbrev pub clocks_byte : ℕ
clocks_byte = 54

abbrev pub spif_byte : ℕ
spif_byte = 55

abbrev pub wcol_byte : ℕ
wcol_byte = 56

abbrev pub mosi_byte : ℕ
mosi_byte = 57

abbrev pub miso_byte : ℕ
miso_byte = 58

abbrev pub sck_byte : ℕ
sck_byte = 59

abbrev pub layout_byte : ℕ
layout_byte = 63

-- what each byte is at most: 0 where it is unused
abbrev pub most : List ℕ
most =
    255 ∷ 15 ∷ 255 ∷ 15 ∷ 66 ∷ 253 ∷ 62 ∷ 0
    ∷ 1 ∷ 255 ∷ 1 ∷ 1 ∷ 255 ∷ 3 ∷ 12 ∷ 15
    ∷ 1 ∷ 1 ∷ 11 ∷ 15 ∷ 1 ∷ 1 ∷ 255 ∷ 3
    ∷ 11 ∷ 2 ∷ 1 ∷ 1 ∷ 255 ∷ 15 ∷ 12 ∷ 255
    ∷ 15 ∷ 12 ∷ 255 ∷ 15 ∷ 12 ∷ 0 ∷ 0 ∷ 0
    ∷ 0 ∷ 0 ∷ 0 ∷ 0 ∷ 0 ∷ 0 ∷ 0 ∷ 0
    ∷ 255 ∷ 1 ∷ 255 ∷ 255 ∷ 255 ∷ 15 ∷ 64 ∷ 2
    ∷ 2 ∷ 1 ∷ 1 ∷ 1 ∷ 0 ∷ 0 ∷ 0 ∷ 2
    ∷ []

-- what each byte is below
abbrev pub limits : List ℕ
limits = map suc most

-- a byte; a word of two and a number of three, low byte first; a flag

abbrev pub byte_at : List ℕ → ℕ → ℕ
byte_at b i = get_or b i 0

abbrev pub word_at : List ℕ → ℕ → ℕ
word_at b i = get_or b i 0 + 256 * get_or b (i + 1) 0

abbrev pub triple_at : List ℕ → ℕ → ℕ
triple_at b i = get_or b i 0 + 256 * get_or b (i + 1) 0 + 65536 * get_or b (i + 2) 0

abbrev pub set_at : List ℕ → ℕ → Bool
set_at b i = eqb (get_or b i 0) 1

abbrev pub low : ℕ → ℕ
low x = x % 256

abbrev pub high : ℕ → ℕ
high x = x / 256 % 256
