-- A closed list of events that meets the premises of M-112's theorem: two frames at UBRR 2, with noise in start, data,
-- parity and stop bits of both. What comes of it is computed in `NoisyCases.antt`.
use Prim.Native.Nat.{ℕ, zero, suc, ◌≤◌}
use mathlib.Core.List.{List, [], ◌∷◌}
use mathlib.Core.Path.{refl}
use native.Mathlib.Omega.{arith}
use lib.Dec.{eqb, lit≤, lit<}
use Rattle.choice.proofs.Picks.{pick_ind}
use Rattle.frame.specs.Parity.{sum_of_bits}
use Rattle.frame.specs.Word.{frame_bit, parity_error}
use Rattle.usart.specs.Baud.{left_of}
use Rattle.usart.specs.Sending.{tick_from}
use Rattle.usart.specs.Sender.{stepped_of}
use Rattle.usart.specs.Sampler.{idle_of, cast_of, next_bit_of, shifted_of, tally_of, decided_of, voted_of, sampled_of, sampler_of}
use Rattle.usart.specs.Receiver.{listened_of}
use Rattle.usart.specs.Unit.{is_busy, clock_of}
use Rattle.usart.specs.Event.{levels_of}
use Rattle.usart.specs.Line.{line_level}
use Rattle.usart.specs.Noise.{Allowed, is_hit_below, is_turned}
use Rattle.usart.specs.Votes.{Each}
use Rattle.usart.specs.NoisyReceiving.{HearsNoisy}
use Rattle.usart.proofs.ClosedLists.{bool-eqb, shown, shown-shows, none, room, none_waits, none-waits}
use Rattle.usart.proofs.Examples.{listening}
use Rattle.usart.proofs.NoisyExamples.{slower, two_frames, first_hits, second_hits, hit_of, noise, noisy, noisy_received, run}

-- no hit vote of a list is above n
abbrev AtMost : ℕ → List ℕ → Type 0
AtMost n vs = Each (λ v. v ≤ n) vs

hit-le : (n : ℕ) (vs : List ℕ) → AtMost n vs → (b : ℕ) → hit_of vs b ≤ n
unfolding hit_of
hit-le n [] h b = omega arith
hit-le n (v ∷ vs) h zero = h.0
hit-le n (v ∷ vs) h (suc b) = hit-le n vs h.1 b

pub allowed : Allowed 6 noise
unfolding noise first_hits second_hits hit_of
allowed = record {
  votes = λ n b.
      pick_ind (λ (v : ℕ). v ≤ 3) (eqb n 3) _ _
      (λ _. hit-le 3 first_hits (lit≤ tt, (lit≤ tt, (lit≤ tt, (lit≤ tt, (lit≤ tt, (lit≤ tt, (lit≤ tt, (lit≤ tt, tt)))))))) b)
      (λ _. pick_ind (λ (v : ℕ). v ≤ 3) (eqb n 200) _ _
      (λ _. hit-le 3 second_hits (lit≤ tt, (lit≤ tt, (lit≤ tt, (lit≤ tt, (lit≤ tt, (lit≤ tt, (lit≤ tt, (lit≤ tt, tt)))))))) b) (λ _. lit≤ tt));
  stop = λ n.
      let two : noise n 7 ≤ 2 = pick_ind (λ (v : ℕ). v ≤ 2) (eqb n 3) _ _ (λ _. lit≤ tt)
      (λ _. pick_ind (λ (v : ℕ). v ≤ 2) (eqb n 200) _ _ (λ _. lit≤ tt) (λ _. lit≤ tt)) in
      omega arith;
}

pub noisy-witness : HearsNoisy noise 2440 100 two_frames slower noisy_received
unfolding listening slower two_frames first_hits second_hits hit_of noise noisy noisy_received run is_hit_below is_turned tick_from shown none_waits room none bool-eqb line_level frame_bit sum_of_bits left_of stepped_of idle_of cast_of next_bit_of shifted_of tally_of decided_of voted_of sampled_of sampler_of listened_of is_busy clock_of parity_error
noisy-witness = record {
  allowed = allowed;
  hears = record {
    ready = record { enabled = refl; idle = refl; empty = refl; no_loss = refl; counter = lit≤ tt };
    only_data = tt;
    line = record {
      p1 = lit≤ tt;
      q1 = lit≤ tt;
      within = (lit≤ tt, lit≤ tt);
      fits = (lit< tt, (lit< tt, tt));
      spaced = (lit≤ tt, (tt, tt));
      shows = shown-shows noisy 0 (levels_of noisy_received) refl;
      ended = lit≤ tt;
    };
    none_waits = none-waits slower noisy_received refl;
  };
}
