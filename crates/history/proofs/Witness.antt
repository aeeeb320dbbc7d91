-- The theorems over histories are not empty: at each speed a closed history that meets every premise of demand 3, with
-- four frames at unequal crystals, of which two wait, and with refused calls, SPI traffic, reads, a write of UDR0,
-- vectors and queries among the runs. The same history is one of the sender's, and one that agrees with its serial side
-- alone, which has no query.
use Prim.Native.Nat.{ℕ, zero, suc, ◌+◌, ◌-◌, ◌*◌}
use mathlib.Core.Bool.{Bool, true, false}
use mathlib.Core.List.{List, [], ◌∷◌}
use mathlib.Core.Path.{◌≡◌, refl}
use lib.Dec.{lit≤, lit<}
use Rattle.std.proofs.Common.{None, Ok}
use Rattle.choice.specs.Pick.{pick, digit}
use Rattle.frame.specs.Parity.{sum_of_bits}
use Rattle.frame.specs.Word.{frame_bit, parity_error}
use Rattle.frame.specs.declared.format.Size.TheVariants.{Five}
use Rattle.frame.specs.declared.format.Parity.TheVariants.{Even}
use Rattle.usart.specs.Baud.{left_of}
use Rattle.usart.specs.Line.{Sent, line_level}
use Rattle.usart.specs.Receiver.{listened_of}
use Rattle.usart.specs.Receiving.{LineOn}
use Rattle.usart.specs.Sampler.{idle_of, cast_of, next_bit_of, shifted_of, tally_of, decided_of, voted_of, sampled_of, sampler_of}
use Rattle.usart.specs.Sender.{stepped_of}
use Rattle.usart.specs.Sending.{Sends}
use Rattle.usart.specs.Settings.{size_of, parity_of}
use Rattle.usart.specs.Unit.{is_busy, clock_of}
use Rattle.usart.specs.Write.{formatted_of, write_c, is_reserved_c, sized_c, timed_of, transmitted_of, vector_of as serial_vector_of}
use Rattle.usart.specs.declared.queue.Places.TheVariants.{Empty}
use Rattle.usart.specs.declared.sampler.Sampler.TheVariants.{Idle}
use Rattle.usart.proofs.ClosedLists.{bool-eqb, shown, shown-shows, none, room, none_waits}
use Rattle.spi.specs.Unit.{reset_spi}
use Rattle.spi.specs.Clock.{master_of, by_mode_of}
use Rattle.spi.specs.Control.{divisor_number, is_mode_fault}
use Rattle.spi.specs.Means.{differs}
use Rattle.spi.specs.Register.{write_spcr, loaded_of, vector_of as spi_vector_of}
use Rattle.spi.specs.Transfer.{is_under_way}
use Rattle.spi.specs.Unit.{is_requested}
use Rattle.shifter.specs.Edge.{is_sampling, is_putting, edge_of}
use Rattle.shifter.specs.Exchange.{first_out, next_edge, edged_of}
use Rattle.shifter.specs.Order.{out_bit, shifted_in}
use Rattle.device.specs.Address.{place_of}
use Rattle.device.specs.Register.{vector_of}
use Rattle.device.specs.Run.{ran_of, are_levels}
use Rattle.device.specs.Serial.{vectors_at}
use Rattle.device.specs.declared.unit.Device.{Device}
use Rattle.record.specs.Codec.{record_of, decode_of}
use Rattle.record.specs.Codes.{flag_of}
use Rattle.record.specs.Parts.{buffer_from, shifter_from, sampler_from, places_from}
use Rattle.record.specs.Accepts.{is_within, counter_fits, buffer_fits, shifter_fits, is_undecided, first_fits, second_fits, reception_fits, sampler_fits, places_fit, waiting_fits, enabled_fits, usart_fits, out_fits, master_fits, slave_fits, spi_fits, accepts, is_record}
use Rattle.warpmagpie.specs.Calls.{write_on, read_on, vector_on, run_on}
use Rattle.holding.specs.Hold.{hold_in, hold_on}
use Rattle.history.specs.Call.{run, hold, Call, write, read, vector, pass, report, split_votes, final_record, Bytes, usart_of, OnlyData, rxd_levels}
use Rattle.history.specs.Receiving.{Hears, DeliveredBy}
use Rattle.history.specs.Sending.{MaySend, taken_of, txd_levels}
use Rattle.history.specs.Serial.{serial_parts, Alike, Agree}
use Rattle.history.proofs.ClosedHistories.{throughout, only, only-all, roomy, roomy-all}
use Rattle.history.proofs.ReceivingLine.{receives}
use Rattle.history.proofs.SendingLine.{sends}
use Rattle.history.proofs.Independence.{independent}

-- 5 data bits, even parity, UBRR 0: D = 6, a bit of the receiver is 8 or 16 clocks; the SPI as after reset
unfoldable pub start : Bool → Device
start u2x = record {
  usart = record {
    baud = record { ubrr = 0; left = record { 0 = 0 } };
    format = record { size = Five; parity = Even; usbs = false; u2x = u2x };
    control = record { rxcie = true; txcie = false; udrie = false; rxen = true; txen = true; txb8 = false };
    sender = record { buffer = None; shifter = None; txc = false };
    receiver = record { sampler = Idle true; queue = record { places = Empty; lost = false } };
  };
  spi = reset_spi;
}

-- clocks a bit of the receiver
abbrev scale : Bool → ℕ
scale u2x = pick u2x 1 2

-- four frames; a bit of the sender is 8.13 or 16.26 clocks, 1.6 percent off
unfoldable pub frames : Bool → List Sent
frames u2x =
    record { start = 3; «data» = 21 } ∷ record { start = 70 * scale u2x; «data» = 10 } ∷ record { start = 137 * scale u2x; «data» = 31 }
    ∷ record { start = 204 * scale u2x; «data» = 9 } ∷ []

unfoldable pub level : Bool → ℕ → Bool
level u2x j = line_level (start u2x).usart.format (813 * scale u2x) 100 (frames u2x) j

-- the level bytes of n clocks, the first at clock j, with SS high
unfoldable pub line : Bool → ℕ → ℕ → List ℕ
line u2x j zero = []
line u2x j (suc n) = (digit (level u2x j) + 16) ∷ line u2x (suc j) n

unfoldable pub blank : ℕ → List ℕ
blank zero = []
blank (suc n) = 0 ∷ blank n

abbrev pub run_for : Bool → ℕ → ℕ → Call
run_for u2x j n = pass (run (line u2x j n) (blank n))

-- a hold while the line is idle; in mid-frame: SPI set up as master with SPIE and a byte sent, every kind of refusal
-- but 5, a byte for the sender, a read of the empty buffer. The first frame is read when the third waits, in the start
-- bit of the fourth, before it is accepted: the read moves the third in. The fourth still waits at the end. Reports are
-- polled all along, and the split votes asked for before that read
unfoldable pub calls : Bool → List Call
calls u2x =
    let n : ℕ = 20 * scale u2x in
    let m : ℕ = 187 * scale u2x in
    let k : ℕ = 73 * scale u2x in
    pass (hold 17 3) ∷ run_for u2x 3 (n - 3) ∷ write 0x24 0x2C ∷ report ∷ write 0x4C 0xD0 ∷ write 0x4E 0xA5 ∷ report ∷ write 0x4E 0x5A ∷ write 0x4C 0x51 ∷ read 0x4D ∷ write 0xC4 7 ∷ write 0xC2 0xC0
    ∷ write 0xC2 0x16 ∷ write 0xC3 1 ∷ read 0x99 ∷ vector 0 ∷ vector 1 ∷ vector 7 ∷ pass (run (1 ∷ []) []) ∷ pass (run (33 ∷ []) (0 ∷ [])) ∷ pass (hold 33 0) ∷ pass (run [] []) ∷ report ∷ write 0xC6 85 ∷ read 0xC0
    ∷ read 0xC6 ∷ run_for u2x n m ∷ report ∷ split_votes ∷ read 0xC6 ∷ read 0x4E ∷ run_for u2x (n + m) k ∷ report ∷ []

bytes : (u2x : Bool) → Bytes (calls u2x)
unfolding calls
bytes u2x =
    (tt, (tt, (lit< tt, (tt, (lit< tt, (lit< tt, (tt, (lit< tt, (lit< tt, (tt, (lit< tt, (lit< tt, (lit< tt, (lit< tt, (tt, (tt, (tt, (tt, (tt, (tt, (tt, (tt, (tt, (lit< tt, (tt, (tt, (tt, (tt, (tt, (tt, (tt, (tt, (tt, tt)))))))))))))))))))))))))))))))))

-- the serial side of the history alone, with no SPI traffic and no query, its clocks split into other runs
unfoldable pub quiet : Bool → List Call
quiet u2x =
    let n : ℕ = 20 * scale u2x in
    let m : ℕ = 187 * scale u2x in
    let k : ℕ = 73 * scale u2x in
    run_for u2x 0 7 ∷ run_for u2x 7 (n - 7) ∷ write 0xC4 7 ∷ write 0xC2 0xC0 ∷ write 0xC2 0x16 ∷ vector 0 ∷ write 0xC6 85 ∷ read 0xC0 ∷ read 0xC6 ∷ run_for u2x n 5
    ∷ run_for u2x (n + 5) (m - 5) ∷ read 0xC6 ∷ run_for u2x (n + m) k ∷ []

quiet-bytes : (u2x : Bool) → Bytes (quiet u2x)
unfolding quiet
quiet-bytes u2x = (tt, (tt, (lit< tt, (lit< tt, (lit< tt, (tt, (lit< tt, (tt, (tt, (tt, (tt, (tt, (tt, tt)))))))))))))

-- what is found by computing on the record: it is the device's, the calls' tests hold, the clocks show the line, which
-- ends within them, and the two histories have the same serial parts
record Found (u2x : Bool) (s : List ℕ) : Type 0 where
  valid : decode_of s ≡ Ok (start u2x)
  only : throughout only s (calls u2x) ≡ true
  roomy : throughout roomy s (calls u2x) ≡ true
  line : LineOn (813 * scale u2x) 100 (frames u2x) (start u2x).usart.format 0 (rxd_levels s (calls u2x))
  same : serial_parts s (calls u2x) ≡ serial_parts s (quiet u2x)

found : (u2x : Bool) → Found u2x (record_of (start u2x))
unfolding throughout only roomy start frames level line blank calls quiet shown none_waits room none bool-eqb line_level frame_bit sum_of_bits left_of stepped_of idle_of cast_of next_bit_of shifted_of tally_of decided_of voted_of sampled_of sampler_of listened_of is_busy clock_of size_of parity_of formatted_of write_c is_reserved_c sized_c timed_of transmitted_of serial_vector_of parity_error place_of ran_of are_levels vector_of vectors_at by_mode_of master_of divisor_number is_mode_fault write_spcr loaded_of spi_vector_of is_under_way first_out next_edge edged_of differs is_requested is_sampling is_putting edge_of out_bit shifted_in decode_of record_of is_within counter_fits buffer_fits shifter_fits is_undecided first_fits second_fits reception_fits sampler_fits places_fit waiting_fits enabled_fits usart_fits out_fits master_fits slave_fits spi_fits accepts is_record flag_of buffer_from shifter_from sampler_from places_from write_on read_on vector_on run_on hold_in hold_on
found true = record {
  valid = refl;
  only = refl;
  roomy = refl;
  line = record {
    p1 = lit≤ tt;
    q1 = lit≤ tt;
    within = (lit≤ tt, lit≤ tt);
    fits = (lit< tt, (lit< tt, (lit< tt, (lit< tt, tt))));
    spaced = (lit≤ tt, (lit≤ tt, (lit≤ tt, (tt, tt))));
    shows = shown-shows (level true) 0 (rxd_levels (record_of (start true)) (calls true)) refl;
    ended = lit≤ tt;
  };
  same = refl;
}
found false = record {
  valid = refl;
  only = refl;
  roomy = refl;
  line = record {
    p1 = lit≤ tt;
    q1 = lit≤ tt;
    within = (lit≤ tt, lit≤ tt);
    fits = (lit< tt, (lit< tt, (lit< tt, (lit< tt, tt))));
    spaced = (lit≤ tt, (lit≤ tt, (lit≤ tt, (tt, tt))));
    shows = shown-shows (level false) 0 (rxd_levels (record_of (start false)) (calls false)) refl;
    ended = lit≤ tt;
  };
  same = refl;
}

only_data : (u2x : Bool) → OnlyData (record_of (start u2x)) (calls u2x)
only_data u2x = only-all (record_of (start u2x)) (calls u2x) (found u2x).only

-- every premise of demand 3 holds of it
pub witness : (u2x : Bool) → Hears (813 * scale u2x) 100 (frames u2x) (start u2x) (record_of (start u2x)) (calls u2x)
unfolding start
witness u2x =
    let s = record_of (start u2x) in
    let cs = calls u2x in
    record {
      valid = (found u2x).valid;
      ready = record { enabled = refl; idle = refl; empty = refl; no_loss = refl; counter = lit≤ tt };
      bytes = bytes u2x;
      only_data = only_data u2x;
      line = (found u2x).line;
      none_waits = roomy-all s cs (found u2x).roomy;
    }

pub witnessed : (u2x : Bool) → DeliveredBy (813 * scale u2x) 100 (frames u2x) (start u2x) (record_of (start u2x)) (calls u2x)
witnessed u2x = receives (813 * scale u2x) 100 (frames u2x) (start u2x) (record_of (start u2x)) (calls u2x) (witness u2x)

-- the same history is one of the sender's: it is given a byte in mid-frame
pub sender-witness : (u2x : Bool) → MaySend (start u2x) (record_of (start u2x)) (calls u2x)
unfolding start
sender-witness u2x =
    record { valid = (found u2x).valid; ready = record { enabled = refl; resting = refl }; bytes = bytes u2x; only_data = only_data u2x }

pub sent : (u2x : Bool)
    → Sends (start u2x).usart (taken_of (record_of (start u2x)) (calls u2x)) (txd_levels (record_of (start u2x)) (calls u2x))
    (usart_of (final_record (record_of (start u2x)) (calls u2x))).sender.buffer
sent u2x = sends (start u2x) (record_of (start u2x)) (calls u2x) (sender-witness u2x)

-- the premises of SPI independence hold of the two, and so its conclusion
pub alike : (u2x : Bool) → Alike (start u2x) (start u2x) (record_of (start u2x)) (record_of (start u2x)) (calls u2x) (quiet u2x)
alike u2x = record {
  first = (found u2x).valid;
  second = (found u2x).valid;
  one = refl;
  bytes = bytes u2x;
  bytes_too = quiet-bytes u2x;
  same = (found u2x).same;
}

pub agree : (u2x : Bool) → Agree (record_of (start u2x)) (record_of (start u2x)) (calls u2x) (quiet u2x)
agree u2x = independent (start u2x) (start u2x) (record_of (start u2x)) (record_of (start u2x)) (calls u2x) (quiet u2x) (alike u2x)
