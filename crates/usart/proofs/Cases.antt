-- What the statements say of closed lists, by computing alone and before any law is used: M8, M10, demand 3 of five
-- frames of which two wait, the split votes of two frames with noise, and the sender's line of two bytes. A wrong
-- program that changes a definition is refused here first, by the value that it gets wrong.
use Prim.Native.Nat.{ℕ}
use mathlib.Core.List.{[], ◌∷◌, map}
use mathlib.Core.Path.{◌≡◌, refl, sym}
use lib.Dec.{lit≤, lit<}
use lib.ListN.{length}
use Rattle.frame.specs.Parity.{sum_of_bits}
use Rattle.frame.specs.Word.{frame_bit, parity_error}
use Rattle.usart.specs.Baud.{left_of}
use Rattle.usart.specs.Sender.{stepped_of}
use Rattle.usart.specs.Sampler.{idle_of, cast_of, next_bit_of, shifted_of, tally_of, decided_of, voted_of, sampled_of, sampler_of}
use Rattle.usart.specs.Receiver.{listened_of, enabled_of}
use Rattle.usart.specs.Unit.{bit_clocks, is_busy, clock_of, is_driven, output_of}
use Rattle.usart.specs.Settings.{size_of, parity_of}
use Rattle.usart.specs.Write.{formatted_of, txc_cleared, write_a, write_c, is_reserved_c, sized_c, timed_of, transmitted_of, vector_of}
use Rattle.usart.specs.Event.{final_of}
use Rattle.usart.specs.Line.{line_level}
use Rattle.usart.specs.Receiving.{held_by, waiting_by, seen_in, clean, reads_of, arrivals_of, Delivered}
use Rattle.usart.specs.Sending.{waiting, tick_from, frames_of, taken_of, not_before, data_in, outputs_of, Sends}
use Rattle.usart.specs.Marked.{sending, status_bits, zeros, M8, four_frames, line, read_at, M10}
use Rattle.usart.specs.Marked.{listening as listening10}
use Rattle.usart.proofs.ClosedLists.{driven, driven-drives}
use Rattle.usart.proofs.Examples.{listening, frames, level, run, received, is_hit, hit_clocks, noisy_run, noisy, loaded, clocks, handed}

pub m8 : (v : ℕ) → M8 v
unfolding sending status_bits zeros left_of stepped_of listened_of enabled_of is_busy clock_of is_driven output_of formatted_of size_of transmitted_of frame_bit sum_of_bits
m8 v = record { start = refl; full = refl; udre = refl; txc = refl }

pub m10 : M10
unfolding four_frames line read_at listening10 write_a txc_cleared line_level frame_bit sum_of_bits left_of stepped_of idle_of cast_of next_bit_of shifted_of tally_of decided_of voted_of sampled_of sampler_of listened_of enabled_of is_busy clock_of formatted_of size_of parity_error
m10 = record { in_time = refl; saved = refl; late = refl; unread = refl }

pub delivered : Delivered 813 100 frames listening.format (reads_of listening received) (held_by (final_of listening received))
    (waiting_by (final_of listening received))
    (arrivals_of 0 listening received)
unfolding listening frames level run received line_level frame_bit sum_of_bits left_of stepped_of idle_of cast_of next_bit_of shifted_of tally_of decided_of voted_of sampled_of sampler_of listened_of is_busy clock_of size_of parity_of formatted_of write_c is_reserved_c sized_c timed_of transmitted_of vector_of parity_error
delivered = record {
  frames = refl;
  in_time = (
    record { began = lit≤ tt; in_time = lit< tt; held = λ _. refl; waits = sym },
    (
      record { began = lit≤ tt; in_time = lit< tt; held = λ _. refl; waits = sym },
      (
        record { began = lit≤ tt; in_time = lit< tt; held = λ e. e; waits = λ _. refl },
        (
          record { began = lit≤ tt; in_time = lit< tt; held = λ _. refl; waits = sym },
          (record { began = lit≤ tt; in_time = lit< tt; held = λ e. e; waits = λ _. refl }, tt),
        ),
      ),
    ),
  );
}

-- the fifth waits at the end
pub still-waits : map seen_in (waiting_by (final_of listening received)) ≡ clean (record { start = 271; «data» = 9 }) ∷ []
unfolding listening frames level run received line_level frame_bit sum_of_bits left_of stepped_of idle_of cast_of next_bit_of shifted_of tally_of decided_of voted_of sampled_of sampler_of listened_of is_busy clock_of size_of parity_of formatted_of write_c is_reserved_c sized_c timed_of transmitted_of vector_of parity_error
still-waits = refl

-- M-101: each frame has the count of its own split votes, of start, data, parity and stop bit
pub counted : map seen_in (held_by (final_of listening noisy))
    ≡ record { value = 21; rxb8 = 0; fe = 0; dor = 0; upe = 0; splits = 4 } ∷ record { value = 10; rxb8 = 0; fe = 0; dor = 0; upe = 0; splits = 1 } ∷ []
unfolding listening frames level is_hit hit_clocks noisy_run noisy line_level frame_bit sum_of_bits left_of stepped_of idle_of cast_of next_bit_of shifted_of tally_of decided_of voted_of sampled_of sampler_of listened_of clock_of parity_error
counted = refl

-- what the list's end leaves in the buffer
remains : map data_in (not_before (length (outputs_of loaded handed)) (frames_of loaded (taken_of 0 loaded handed))) ≡ waiting (final_of loaded handed).sender.buffer
unfolding loaded clocks handed tick_from frame_bit sum_of_bits left_of stepped_of listened_of is_busy clock_of is_driven output_of transmitted_of
remains = refl

pub sent : Sends loaded (taken_of 0 loaded handed) (outputs_of loaded handed) (final_of loaded handed).sender.buffer
unfolding loaded clocks handed tick_from driven line_level frame_bit sum_of_bits left_of stepped_of listened_of is_busy clock_of is_driven output_of transmitted_of
sent = record {
  remains = remains;
  fits = (lit< tt, (lit< tt, tt));
  spaced = (lit≤ tt, (tt, tt));
  drives =
      driven-drives (line_level loaded.format (bit_clocks loaded) 1 (frames_of loaded (taken_of 0 loaded handed))) 0 (outputs_of loaded handed) refl;
}
