-- What M-112's noise does to a closed list, computed: the counts, and the clocks that are turned over.
use Prim.Native.Nat.{ℕ, zero, suc}
use mathlib.Core.List.{List, [], ◌∷◌, ◌++◌, map}
use mathlib.Core.Path.{◌≡◌, refl}
use Rattle.choice.specs.Pick.{pick}
use Rattle.frame.specs.Parity.{sum_of_bits}
use Rattle.frame.specs.Word.{frame_bit, parity_error}
use Rattle.usart.specs.Baud.{left_of}
use Rattle.usart.specs.Sending.{tick_from}
use Rattle.usart.specs.Sender.{stepped_of}
use Rattle.usart.specs.Sampler.{idle_of, cast_of, next_bit_of, shifted_of, tally_of, decided_of, voted_of, sampled_of, sampler_of}
use Rattle.usart.specs.Receiver.{listened_of}
use Rattle.usart.specs.Unit.{is_busy, clock_of}
use Rattle.usart.specs.Event.{final_of}
use Rattle.usart.specs.Line.{line_level}
use Rattle.usart.specs.Noise.{is_hit_below, is_turned}
use Rattle.usart.specs.Receiving.{held_by, seen_in, reads_of}
use Rattle.usart.proofs.Examples.{listening}
use Rattle.usart.proofs.NoisyExamples.{slower, two_frames, first_hits, second_hits, hit_of, noise, noisy, noisy_received, run}

-- M-101, M-112: each frame has the count of its own split votes, of start, data, parity and stop bit
pub counted : reads_of slower noisy_received ++ map seen_in (held_by (final_of slower noisy_received))
    ≡ record { value = 21; rxb8 = 0; fe = 0; dor = 0; upe = 0; splits = 4 } ∷ record { value = 10; rxb8 = 0; fe = 0; dor = 0; upe = 0; splits = 5 } ∷ []
unfolding listening slower two_frames first_hits second_hits hit_of noise noisy noisy_received run is_hit_below is_turned tick_from line_level frame_bit sum_of_bits left_of stepped_of idle_of cast_of next_bit_of shifted_of tally_of decided_of voted_of sampled_of sampler_of listened_of is_busy clock_of parity_error
counted = refl

-- the clocks below k at which noise turns over the level
unfoldable turned_below : ℕ → List ℕ
turned_below zero = []
turned_below (suc j) = turned_below j ++ pick (is_turned slower.format slower.baud noise two_frames j) (j ∷ []) []

-- the frames' first ticks are at clocks 4 and 202, a bit is 24 clocks, and its votes come 9, 12 and 15 after its first
-- sample: 4 + 9, 4 + 3·24 + 15, 4 + 6·24 + 12, 4 + 7·24 + 12; 202 + 15, 202 + 24 + 9, 202 + 4·24 + 12, and so on
turned : turned_below 400 ≡ 13 ∷ 91 ∷ 160 ∷ 184 ∷ 217 ∷ 235 ∷ 310 ∷ 355 ∷ 379 ∷ []
unfolding turned_below listening slower two_frames first_hits second_hits hit_of noise is_hit_below is_turned tick_from
turned = refl
