-- The line theorems are not empty: closed lists that meet every premise. Demand 3's has five frames, at unequal
-- crystals, with reads, a write of UDR0, refused accesses and a vector among the clocks; one frame waits until a read
-- moves it in, one still waits at the end. The sender's has a byte in the buffer at first and one that is written. What
-- comes of them is computed in `Cases.antt`.
use mathlib.Core.Path.{refl}
use lib.Dec.{lit≤, lit<}
use Rattle.choice.proofs.Picks.{clash}
use Rattle.frame.specs.Parity.{sum_of_bits}
use Rattle.frame.specs.Word.{frame_bit, parity_error}
use Rattle.usart.specs.Baud.{left_of}
use Rattle.usart.specs.Sender.{stepped_of}
use Rattle.usart.specs.Sampler.{idle_of, cast_of, next_bit_of, shifted_of, tally_of, decided_of, voted_of, sampled_of, sampler_of}
use Rattle.usart.specs.Receiver.{listened_of}
use Rattle.usart.specs.Unit.{is_busy, clock_of}
use Rattle.usart.specs.Settings.{size_of, parity_of}
use Rattle.usart.specs.Write.{formatted_of, write_c, is_reserved_c, sized_c, timed_of, transmitted_of, vector_of}
use Rattle.usart.specs.Event.{levels_of}
use Rattle.usart.specs.Line.{line_level}
use Rattle.usart.specs.Receiving.{Hears}
use Rattle.usart.specs.Sending.{MaySend}
use Rattle.usart.proofs.ClosedLists.{bool-eqb, shown, shown-shows, none, room, none_waits, none-waits}
use Rattle.usart.proofs.Examples.{listening, frames, level, run, received, loaded, clocks, handed}

pub witness : Hears 813 100 frames listening received
unfolding listening frames level run received shown none_waits room none bool-eqb line_level frame_bit sum_of_bits left_of stepped_of idle_of cast_of next_bit_of shifted_of tally_of decided_of voted_of sampled_of sampler_of listened_of is_busy clock_of size_of parity_of formatted_of write_c is_reserved_c sized_c timed_of transmitted_of vector_of parity_error
witness = record {
  ready = record { enabled = refl; idle = refl; empty = refl; no_loss = refl; counter = lit≤ tt };
  only_data = (λ _. refl, (λ _. refl, (clash refl, tt)));
  line = record {
    p1 = lit≤ tt;
    q1 = lit≤ tt;
    within = (lit≤ tt, lit≤ tt);
    fits = (lit< tt, (lit< tt, (lit< tt, (lit< tt, (lit< tt, tt)))));
    spaced = (lit≤ tt, (lit≤ tt, (lit≤ tt, (lit≤ tt, (tt, tt)))));
    shows = shown-shows level 0 (levels_of received) refl;
    ended = lit≤ tt;
  };
  none_waits = none-waits listening received refl;
}

-- an accepted write of UDR0 and an ignored one
pub sender-witness : MaySend loaded handed
unfolding loaded clocks handed
sender-witness = record {
  ready = record { enabled = refl; resting = refl };
  buffer = lit< tt;
  only_data = (clash refl, (clash refl, tt));
}
