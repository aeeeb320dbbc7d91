-- Closed cases, by computing alone and before any law is used: a wrong program that changes a definition is refused
-- here first.
use Prim.Native.Nat.{ℕ}
use mathlib.Core.Bool.{Bool, true, false}
use mathlib.Core.List.{List, [], ◌∷◌, ◌++◌, map}
use mathlib.Core.Path.{◌≡◌, refl}
use lib.ListN.{set}
use Rattle.std.proofs.Common.{Ok}
use Rattle.choice.specs.Pick.{pick}
use Rattle.frame.specs.Parity.{sum_of_bits}
use Rattle.usart.specs.Settings.{size_of, parity_of}
use Rattle.usart.specs.Baud.{left_of}
use Rattle.usart.specs.Counting.{counted_receiver}
use Rattle.spi.specs.Control.{divisor_number}
use Rattle.device.specs.Unit.{reset_device}
use Rattle.device.specs.Counting.{counted_usart, counted_device}
use Rattle.record.specs.Codes.{flag_of}
use Rattle.record.specs.Parts.{buffer_from, shifter_from, sampler_from, places_from}
use Rattle.record.specs.Lift.{device_at}
use Rattle.record.specs.Accepts.{is_within, counter_fits, buffer_fits, shifter_fits, is_undecided, first_fits, second_fits, reception_fits, sampler_fits, places_fit, waiting_fits, enabled_fits, usart_fits}
use Rattle.record.specs.Accepts.{out_fits, master_fits, slave_fits, spi_fits, accepts, is_record}
use Rattle.record.specs.Codec.{record_of, decode_of}
use Rattle.record.specs.InPlace.{advanced_over}

-- the record of a device after reset is accepted as that device
pub reset-accepted : decode_of (record_of reset_device) ≡ Ok reset_device
unfolding record_of decode_of size_of parity_of flag_of buffer_from shifter_from sampler_from places_from is_within counter_fits buffer_fits shifter_fits sampler_fits places_fit waiting_fits enabled_fits usart_fits spi_fits accepts is_record
reset-accepted = refl

-- the record of a device that sends, receives and shifts, with all in use
abbrev busy : List ℕ
busy =
    3 ∷ 1 ∷ 2 ∷ 1 ∷ 66 ∷ 185 ∷ 46 ∷ 0
    ∷ 1 ∷ 165 ∷ 0 ∷ 1 ∷ 87 ∷ 1 ∷ 3 ∷ 5
    ∷ 1 ∷ 0 ∷ 2 ∷ 5 ∷ 1 ∷ 1 ∷ 0 ∷ 1
    ∷ 2 ∷ 2 ∷ 0 ∷ 1 ∷ 17 ∷ 9 ∷ 12 ∷ 34
    ∷ 6 ∷ 1 ∷ 0 ∷ 0 ∷ 0 ∷ 0 ∷ 0 ∷ 0
    ∷ 0 ∷ 0 ∷ 0 ∷ 0 ∷ 0 ∷ 0 ∷ 0 ∷ 0
    ∷ 81 ∷ 1 ∷ 44 ∷ 163 ∷ 7 ∷ 3 ∷ 2 ∷ 2
    ∷ 1 ∷ 1 ∷ 0 ∷ 1 ∷ 0 ∷ 0 ∷ 0 ∷ 2
    ∷ []

-- a record with other values at some bytes, (byte, value)
abbrev changed : List ℕ → List (ℕ × ℕ) → List ℕ
changed s [] = s
changed s (c ∷ cs) = changed (set s c.0 c.1) cs

-- .. and of one with a frame that waits, in the next one's start bit, before the last vote
abbrev waiting : List ℕ
waiting = changed busy ((18, 0) ∷ (23, 0) ∷ (24, 0) ∷ (26, 1) ∷ (34, 255) ∷ (35, 15) ∷ (36, 12) ∷ [])

-- .. each is accepted, and its device's image is what it was
pub busy-accepted : (is_record busy ≡ true) × (record_of (device_at busy) ≡ busy)
unfolding record_of size_of parity_of sum_of_bits divisor_number flag_of buffer_from shifter_from sampler_from places_from is_within counter_fits buffer_fits shifter_fits is_undecided first_fits second_fits reception_fits sampler_fits places_fit waiting_fits enabled_fits usart_fits out_fits master_fits slave_fits spi_fits accepts is_record
busy-accepted = (refl, refl)

pub waiting-accepted : (is_record waiting ≡ true) × (record_of (device_at waiting) ≡ waiting)
unfolding record_of size_of parity_of sum_of_bits divisor_number flag_of buffer_from shifter_from sampler_from places_from is_within counter_fits buffer_fits shifter_fits is_undecided first_fits second_fits reception_fits sampler_fits places_fit waiting_fits enabled_fits usart_fits out_fits master_fits slave_fits spi_fits accepts is_record
waiting-accepted = (refl, refl)

-- .. and a tick of the busy one in place counts in its bytes what it counts in the device
abbrev ticking : List ℕ
ticking = set (set busy 2 0) 3 0

pub tick-counted : advanced_over ticking ≡ record_of (counted_device (device_at ticking))
unfolding record_of size_of parity_of flag_of buffer_from shifter_from sampler_from places_from left_of counted_receiver counted_usart advanced_over
tick-counted = refl

-- records that differ from one that is accepted, in one byte or a few

-- after reset: a flag that is 2; a byte that is unused, or of what is not in use, that is 1
abbrev strays : List (List ℕ)
strays =
    map (λ (i : ℕ). set (record_of reset_device) i 2) (8 ∷ 11 ∷ 16 ∷ 17 ∷ 20 ∷ 21 ∷ 26 ∷ 27 ∷ 49 ∷ 57 ∷ 58 ∷ 59 ∷ [])
    ++ map (λ (i : ℕ). set (record_of reset_device) i 1)
    (7 ∷ 37 ∷ 38 ∷ 39 ∷ 40 ∷ 41 ∷ 42 ∷ 43 ∷ 44 ∷ 45 ∷ 46 ∷ 47 ∷ 60 ∷ 61 ∷ 62 ∷ [])
    ++ map (λ (i : ℕ). set (record_of reset_device) i 1)
    (9 ∷ 10 ∷ 12 ∷ 13 ∷ 14 ∷ 15 ∷ 16 ∷ 17 ∷ 18 ∷ 19 ∷ 20 ∷ 21 ∷ 22 ∷ 23 ∷ 24 ∷ 25 ∷ 26 ∷ 27 ∷ 28 ∷ 29 ∷ 30 ∷ 31 ∷ 32 ∷ 33 ∷ 34 ∷ 35 ∷ 36 ∷ 53 ∷ 54 ∷ [])

-- of the busy device: (byte, value) out of its range
abbrev beyond : List (List ℕ)
beyond =
    map (λ (c : ℕ × ℕ). set busy c.0 c.1)
    ((1, 16) ∷ (2, 4) ∷ (10, 1) ∷ (13, 0) ∷ (14, 12) ∷ (15, 8) ∷ (17, 1) ∷ (18, 11) ∷ (19, 8) ∷ (22, 1) ∷ (24, 3) ∷ (25, 3) ∷ (30, 13) ∷ (33, 13) ∷ (54, 5) ∷ (55, 3) ∷ (63, 1) ∷ [])

-- of the one with a frame that waits: its flag and its bytes out of their ranges; one held too few; the start bit of
-- the frame under way decided, with its last vote and in the next bit
abbrev too_far : List (List ℕ)
too_far =
    map (changed waiting)
    (((26, 0) ∷ [])
    ∷ ((26, 2) ∷ [])
    ∷ ((35, 16) ∷ [])
    ∷ ((36, 13) ∷ [])
    ∷ ((25, 1) ∷ (31, 0) ∷ (32, 0) ∷ (33, 0) ∷ [])
    ∷ ((19, 6) ∷ (20, 0) ∷ (21, 0) ∷ [])
    ∷ ((18, 1) ∷ [])
    ∷ [])

abbrev is_any_accepted : List (List ℕ) → Bool
is_any_accepted [] = false
is_any_accepted (s ∷ ss) = pick (is_record s) true (is_any_accepted ss)

-- .. none is accepted
pub none-accepted : (is_any_accepted strays ≡ false) × ((is_any_accepted beyond ≡ false) × (is_any_accepted too_far ≡ false))
unfolding record_of size_of parity_of sum_of_bits divisor_number flag_of buffer_from shifter_from sampler_from places_from is_within counter_fits buffer_fits shifter_fits is_undecided first_fits second_fits reception_fits sampler_fits places_fit waiting_fits enabled_fits usart_fits out_fits master_fits slave_fits spi_fits accepts is_record
none-accepted = (refl, (refl, refl))
