-- M-112's theorem over histories is not empty: a closed history at UBRR 2 that meets every premise, with two frames at
-- unequal crystals and noise in start, data, parity and stop bits of both, and with SPI traffic, a refused call and
-- queries among the runs. The call for split votes answers 4 before the first is read, and 5 before the second.
use Prim.Native.Nat.{ℕ, zero, suc, ◌+◌}
use mathlib.Core.Bool.{true}
use mathlib.Core.List.{List, [], ◌∷◌}
use mathlib.Core.Path.{◌≡◌, refl}
use lib.Dec.{lit≤, lit<}
use Rattle.std.proofs.Common.{Ok}
use Rattle.choice.specs.Pick.{digit}
use Rattle.frame.specs.Parity.{sum_of_bits}
use Rattle.frame.specs.Word.{frame_bit, parity_error}
use Rattle.usart.specs.Baud.{left_of}
use Rattle.usart.specs.Sending.{tick_from}
use Rattle.usart.specs.Line.{line_level}
use Rattle.usart.specs.Noise.{is_hit_below, is_turned}
use Rattle.usart.specs.Receiver.{listened_of}
use Rattle.usart.specs.NoisyReceiving.{LineOnWire, clean_with, heard}
use Rattle.usart.specs.Sampler.{idle_of, cast_of, next_bit_of, shifted_of, tally_of, decided_of, voted_of, sampled_of, sampler_of}
use Rattle.usart.specs.Sender.{stepped_of}
use Rattle.usart.specs.Settings.{size_of, parity_of}
use Rattle.usart.specs.Unit.{is_busy, clock_of}
use Rattle.usart.specs.Write.{formatted_of, timed_of}
use Rattle.usart.proofs.ClosedLists.{bool-eqb, shown, shown-shows, none, room, none_waits}
use Rattle.usart.proofs.Examples.{listening}
use Rattle.usart.proofs.NoisyExamples.{slower, two_frames, first_hits, second_hits, hit_of, noise, noisy}
use Rattle.usart.proofs.NoisyWitness.{allowed}
use Rattle.spi.specs.Unit.{reset_spi}
use Rattle.spi.specs.Clock.{master_of, by_mode_of}
use Rattle.spi.specs.Control.{divisor_number, is_mode_fault}
use Rattle.spi.specs.Means.{differs}
use Rattle.spi.specs.Register.{write_spcr, loaded_of}
use Rattle.spi.specs.Transfer.{is_under_way}
use Rattle.spi.specs.Unit.{is_requested}
use Rattle.shifter.specs.Edge.{is_sampling, is_putting, edge_of}
use Rattle.shifter.specs.Exchange.{first_out, next_edge, edged_of}
use Rattle.shifter.specs.Order.{out_bit, shifted_in}
use Rattle.device.specs.Address.{place_of}
use Rattle.device.specs.Run.{ran_of, are_levels}
use Rattle.device.specs.declared.unit.Device.{Device}
use Rattle.record.specs.Codec.{record_of, decode_of}
use Rattle.record.specs.Codes.{flag_of}
use Rattle.record.specs.Parts.{buffer_from, shifter_from, sampler_from, places_from}
use Rattle.record.specs.Accepts.{is_within, counter_fits, buffer_fits, shifter_fits, is_undecided, first_fits, second_fits, reception_fits, sampler_fits, places_fit, waiting_fits, enabled_fits, usart_fits, out_fits, master_fits, slave_fits, spi_fits, accepts, is_record}
use Rattle.warpmagpie.specs.Calls.{query_value_on, write_on, read_on, run_on}
use Rattle.holding.specs.Hold.{hold_in, hold_on}
use Rattle.history.specs.Call.{run, hold, Call, write, read, pass, report, split_votes, Bytes, rxd_levels}
use Rattle.history.specs.Receiving.{reads_of}
use Rattle.history.specs.NoisyReceiving.{HearsNoisy, DeliveredSo}
use Rattle.history.proofs.ClosedHistories.{throughout, only, only-all, roomy, roomy-all}
use Rattle.history.proofs.NoisyLine.{receives-noisy}

-- the receiver of the unit's example, 5 data bits with even parity at double speed; the SPI as after reset
unfoldable pub start : Device
start = record { usart = slower; spi = reset_spi }

-- the level bytes of n clocks, the first at clock j, with SS high
unfoldable pub line : ℕ → ℕ → List ℕ
line j zero = []
line j (suc n) = (digit (noisy j) + 16) ∷ line (suc j) n

unfoldable pub blank : ℕ → List ℕ
blank zero = []
blank (suc n) = 0 ∷ blank n

abbrev pub run_for : ℕ → ℕ → Call
run_for j n = pass (run (line j n) (blank n))

-- a hold while the line is idle; in mid-frame an SPI byte and a refused baud setting. The first frame is read while the
-- second is on the line, the second after it
unfoldable pub calls : List Call
calls =
    pass (hold 17 3) ∷ run_for 3 97 ∷ write 0x4C 0xD0 ∷ write 0x4E 0xA5 ∷ write 0xC4 7 ∷ run_for 100 200 ∷ report ∷ split_votes ∷ read 0xC6
    ∷ run_for 300 100 ∷ split_votes ∷ read 0xC6 ∷ split_votes ∷ []

bytes : Bytes calls
unfolding calls
bytes = (tt, (tt, (lit< tt, (lit< tt, (lit< tt, (tt, (tt, (tt, (tt, (tt, (tt, (tt, (tt, tt)))))))))))))

-- what is found by computing on the record
record Found (s : List ℕ) : Type 0 where
  valid : decode_of s ≡ Ok start
  only : throughout only s calls ≡ true
  roomy : throughout roomy s calls ≡ true
  line : LineOnWire noisy 2440 100 two_frames slower.format 2 (rxd_levels s calls)
  reads : reads_of s calls ≡ clean_with 4 (record { start = 3; «data» = 21 }) ∷ clean_with 5 (record { start = 200; «data» = 10 }) ∷ []

found : Found (record_of start)
unfolding throughout only roomy start line blank calls listening slower two_frames first_hits second_hits hit_of noise noisy is_hit_below is_turned tick_from shown none_waits room none bool-eqb line_level frame_bit sum_of_bits left_of stepped_of idle_of cast_of next_bit_of shifted_of tally_of decided_of voted_of sampled_of sampler_of listened_of is_busy clock_of size_of parity_of formatted_of timed_of parity_error place_of ran_of are_levels by_mode_of master_of divisor_number is_mode_fault write_spcr loaded_of is_under_way first_out next_edge edged_of differs is_requested is_sampling is_putting edge_of out_bit shifted_in decode_of record_of is_within counter_fits buffer_fits shifter_fits is_undecided first_fits second_fits reception_fits sampler_fits places_fit waiting_fits enabled_fits usart_fits out_fits master_fits slave_fits spi_fits accepts is_record flag_of buffer_from shifter_from sampler_from places_from query_value_on write_on read_on run_on hold_in hold_on
found = record {
  valid = refl;
  only = refl;
  roomy = refl;
  line = record {
    p1 = lit≤ tt;
    q1 = lit≤ tt;
    within = (lit≤ tt, lit≤ tt);
    fits = (lit< tt, (lit< tt, tt));
    spaced = (lit≤ tt, (tt, tt));
    shows = shown-shows noisy 0 (rxd_levels (record_of start) calls) refl;
    ended = lit≤ tt;
  };
  reads = refl;
}

-- every premise of M-112 holds of it ..
pub witness : HearsNoisy noise 2440 100 two_frames start (record_of start) calls
unfolding start slower listening noisy
witness = record {
  allowed = allowed;
  hears = record {
    valid = found.valid;
    ready = record { enabled = refl; idle = refl; empty = refl; no_loss = refl; counter = lit≤ tt };
    bytes = bytes;
    only_data = only-all (record_of start) calls found.only;
    line = found.line;
    none_waits = roomy-all (record_of start) calls found.roomy;
  };
}

-- .. and so its conclusion
pub witnessed : DeliveredSo (heard slower.format noise) 2440 100 two_frames start (record_of start) calls
unfolding start
witnessed = receives-noisy noise 2440 100 two_frames start (record_of start) calls witness

-- what the reads of UDR0 find, with the counts that the call for split votes answers just before them
pub counted : reads_of (record_of start) calls ≡ clean_with 4 (record { start = 3; «data» = 21 }) ∷ clean_with 5 (record { start = 200; «data» = 10 }) ∷ []
counted = found.reads
