-- The sampler: from the levels at the ticks to completed frames (document 01, 'Receiver', first paragraph), each with
-- its split votes (document 02, M-101).
use Rattle.std.specs.Prelude.{ℕ, ◌+◌, ◌-◌, ◌/◌, ◌^◌, Bool, true, false, eqb, ltb, leb}
use Rattle.choice.specs.Pick.{pick}
use Rattle.frame.specs.Format.{samples, first_vote, word_bits}
use Rattle.frame.specs.Vote.{vote_of}
use Rattle.frame.specs.declared.format.Format.{Format}
use Rattle.frame.specs.declared.vote.Vote.{Vote}
use Rattle.usart.specs.declared.sample.Sample.{Sample}
use Rattle.usart.specs.declared.sampler.Reception.{Reception}
use Rattle.usart.specs.declared.sampler.Sampler.{Sampler}
use Rattle.usart.specs.declared.sampler.Sampler.TheVariants.{Idle, Receiving}
use Rattle.usart.specs.declared.sampler.Outcome.TheVariants.{Nothing, Started, Complete}
use Rattle.usart.specs.declared.sampler.Sampled.{Sampled}

-- the receiver is between first low sample and stop decision
abbrev pub is_receiving : Sampler → Bool
is_receiving (Idle last) = false
is_receiving (Receiving r) = true

-- a sample that accepts no start bit and completes no frame
abbrev pub still : Sampler → Sampled
still s = record { sampler = s; outcome = Nothing }

abbrev pub first_low : Reception
first_low = record { bit = 0; sample = record { 0 = 1 }; first = false; second = false; word = 0; splits = 0 }

-- idle: a low sample after a remembered high one is sample 1 of the start bit; any other is remembered
unfoldable pub idle_of : Bool → Bool → Sampled
idle_of last rxd = pick last (pick rxd (still (Idle rxd)) (still (Receiving first_low))) (still (Idle rxd))

abbrev pub cast_at : Reception → Sample → Bool → Bool → Reception
cast_at r n a b = record { bit = r.bit; sample = n; first = a; second = b; word = r.word; splits = r.splits }

-- sample n of a bit: the first two voting samples are kept for the third
unfoldable pub cast_of : Format → Reception → Sample → Bool → Reception
cast_of f r n rxd =
    pick (eqb n.0 (first_vote f)) (cast_at r n rxd r.second)
    (pick (eqb n.0 (first_vote f + 1)) (cast_at r n r.first rxd)
    (cast_at r n r.first r.second))

-- each following bit has S samples; the stop bit, D + 1, is not left this way
unfoldable pub next_bit_of : Format → Reception → Reception
next_bit_of f r =
    pick (leb r.bit (word_bits f))
    (record { bit = r.bit + 1; sample = record { 0 = 0 }; first = false; second = false; word = r.word; splits = r.splits })
    r

abbrev pub with_word : Reception → ℕ → Reception
with_word r w =
    record { bit = r.bit; sample = r.sample; first = r.first; second = r.second; word = w; splits = r.splits }

-- low bit first: a bit comes in at the top of the D bits, so that after D of them each is at its place
unfoldable pub shifted_of : Format → Reception → Bool → Reception
shifted_of f r level = pick level (with_word r (r.word / 2 + 2 ^ (word_bits f - 1))) (with_word r (r.word / 2))

-- M-101: the count of split votes over start, data, parity and stop, 0 to 12, D being at most 10
abbrev pub most_votes : ℕ
most_votes = 12

-- one more vote: a split one is counted. A frame has no more bits than the limit, so it is never met
-- (proofs/TallyLaws.antt `below-most`); with it the count is total
unfoldable pub tally_of : ℕ → Bool → ℕ
tally_of splits unanimous = pick unanimous splits (pick (ltb splits most_votes) (splits + 1) splits)

-- the last vote, by the sample rxd. A start bit voted high is dropped, one voted low is accepted; the frame completes
-- at the first stop bit's. Then, and after a dropped start, the receiver is idle and remembers that last sample
unfoldable pub decided_of : Format → Reception → Bool → Bool → Sampled
decided_of f r rxd level =
    pick (eqb r.bit 0) (pick level (still (Idle rxd)) (record { sampler = Receiving r; outcome = Started }))
    (pick (leb r.bit (word_bits f)) (still (Receiving (shifted_of f r level)))
    (record { sampler = Idle rxd; outcome = Complete r.word level r.splits }))

-- sample n is the third voting one: the two that were kept are spent, and so many votes of the frame are split now
abbrev pub spent_of : Reception → Sample → ℕ → Reception
spent_of r n splits = record { bit = r.bit; sample = n; first = false; second = false; word = r.word; splits = splits }

-- sample n of a bit, not its last; at the third voting sample the majority decides
unfoldable pub voted_of : Format → Reception → Sample → Bool → Sampled
voted_of f r n rxd =
    let vote : Vote = vote_of r.first r.second rxd in
    pick (eqb n.0 (first_vote f + 2)) (decided_of f (spent_of r n (tally_of r.splits vote.unanimous)) rxd vote.level)
    (still (Receiving (cast_of f r n rxd)))

-- a bit's samples are 1 to S
unfoldable pub sampled_of : Format → Reception → Bool → Sampled
sampled_of f r rxd =
    pick (ltb r.sample.0 (samples f - 1)) (voted_of f r (record { 0 = r.sample.0 + 1 }) rxd)
    (still (Receiving (next_bit_of f r)))

-- at each tick RxD is sampled
unfoldable pub sampler_of : Format → Sampler → Bool → Sampled
sampler_of f (Idle last) rxd = idle_of last rxd
sampler_of f (Receiving r) rxd = sampled_of f r rxd
