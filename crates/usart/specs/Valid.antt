-- The ranges of the unit's fields. Frames held for reading, or waiting, outlive a change of format, so their range is
-- not bound by the present one; what the sender holds and a frame under way in the receiver are.
use Rattle.std.specs.Prelude.{ℕ, ◌+◌, ◌-◌, ◌%◌, ◌^◌, ◌<◌, ◌≤◌, Bool, true, false, [], ◌≡◌, ltb, None, Option, Some}
use Rattle.choice.specs.Pick.{pick}
use Rattle.frame.specs.Format.{samples, first_vote, data_bits, word_bits, last_bit}
use Rattle.frame.specs.Word.{word_of}
use Rattle.frame.specs.declared.format.Format.{Format}
use Rattle.usart.specs.Sender.{is_resting}
use Rattle.usart.specs.Sampler.{is_receiving, most_votes}
use Rattle.usart.specs.Queue.{waiting_in}
use Rattle.usart.specs.Receiver.{stopped}
use Rattle.usart.specs.declared.baud.Baud.{Baud}
use Rattle.usart.specs.declared.sender.Transmission.{Transmission}
use Rattle.usart.specs.declared.sender.Sender.{Sender}
use Rattle.usart.specs.declared.sampler.Reception.{Reception}
use Rattle.usart.specs.declared.sampler.Sampler.{Sampler}
use Rattle.usart.specs.declared.sampler.Sampler.TheVariants.{Idle, Receiving}
use Rattle.usart.specs.declared.queue.Frame.{Frame}
use Rattle.usart.specs.declared.queue.Places.{Places}
use Rattle.usart.specs.declared.queue.Places.TheVariants.{Empty, One, Two, Three}
use Rattle.usart.specs.declared.receiver.Receiver.{Receiver}
use Rattle.usart.specs.declared.unit.Usart.{Usart}

-- UBRR0H does not load the counter, so one above UBRR is reached, but in no frame: see Valid
pub record ValidBaud (b : Baud) : Type 0 where
  pub ubrr : b.ubrr < 4096
  pub left : b.left.0 < 4096

-- data bits only
abbrev pub ValidBuffer : Format → Option ℕ → Type 0
ValidBuffer f None = Unit {0}
ValidBuffer f (Some d) = d < 2 ^ data_bits f.size

-- the word is that of its data: of D bits, its parity bit right
pub record ValidTransmission (f : Format) (t : Transmission) : Type 0 where
  pub word : word_of f t.word ≡ t.word
  pub bit : t.bit ≤ last_bit f
  pub sample : t.sample.0 < samples f

abbrev pub ValidShifter : Format → Option Transmission → Type 0
ValidShifter f None = Unit {0}
ValidShifter f (Some t) = ValidTransmission f t

pub record ValidSender (f : Format) (s : Sender) : Type 0 where
  pub buffer : ValidBuffer f s.buffer
  pub shifter : ValidShifter f s.shifter

-- bits of a frame that are decided, the start bit among them: a bit is so from its third vote on
abbrev pub voted_bits : Format → Reception → ℕ
voted_bits f r = pick (ltb r.sample.0 (first_vote f + 2)) r.bit (r.bit + 1)

-- bits 0 to D + 1, the first stop bit; the start bit has its first sample, and the stop bit not yet its last vote. Bits
-- that have not come in are 0, and so are votes that are not cast yet or are spent. No more votes were split than bits
-- are decided
pub record ValidReception (f : Format) (r : Reception) : Type 0 where
  pub word : r.word < 2 ^ word_bits f
  pub bit : r.bit ≤ word_bits f + 1
  pub sample : r.sample.0 < samples f
  pub start : r.bit ≡ 0 → 1 ≤ r.sample.0
  pub stop : r.bit ≡ word_bits f + 1 → r.sample.0 ≤ first_vote f + 1
  pub rest : r.word % 2 ^ (word_bits f + 1 - voted_bits f r) ≡ 0
  pub first : r.first ≡ true → (first_vote f ≤ r.sample.0) × (r.sample.0 < first_vote f + 2)
  pub second : r.second ≡ true → r.sample.0 ≡ first_vote f + 1
  pub splits : r.splits ≤ voted_bits f r

abbrev pub ValidSampler : Format → Sampler → Type 0
ValidSampler f (Idle last) = Unit {0}
ValidSampler f (Receiving r) = ValidReception f r

-- at most nine data bits and twelve votes
pub record ValidFrame (x : Frame) : Type 0 where
  pub «data» : x.«data» < 512
  pub splits : x.splits ≤ most_votes

abbrev pub ValidPlaces : Places → Type 0
ValidPlaces Empty = Unit {0}
ValidPlaces (One a) = ValidFrame a
ValidPlaces (Two a b) = ValidFrame a × ValidFrame b
ValidPlaces (Three a b c) = ValidFrame a × (ValidFrame b × ValidFrame c)

-- M-103: once the start bit of a frame under way is decided it was accepted, and none waits
abbrev pub ValidWaiting : Format → Sampler → Places → Type 0
ValidWaiting f (Idle last) p = Unit {0}
ValidWaiting f (Receiving r) p = 1 ≤ voted_bits f r → waiting_in p ≡ []

pub record ValidReceiver (f : Format) (r : Receiver) : Type 0 where
  pub sampler : ValidSampler f r.sampler
  pub places : ValidPlaces r.queue.places
  pub waiting : ValidWaiting f r.sampler r.queue.places

-- a frame is being sent or received
abbrev pub is_in_shift : Usart → Bool
is_in_shift u = pick (is_resting u.sender.shifter) (is_receiving u.receiver.sampler) true

-- what is not in use is 0: a disabled receiver is idle, remembers low and holds nothing. A frame begins at a tick, and
-- the ticks of one under way are UBRR + 1 clocks apart, so no more are left to the next
pub record Valid (u : Usart) : Type 0 where
  pub baud : ValidBaud u.baud
  pub sender : ValidSender u.format u.sender
  pub receiver : ValidReceiver u.format u.receiver
  pub disabled : u.control.rxen ≡ false → u.receiver ≡ stopped
  pub counter : is_in_shift u ≡ true → u.baud.left.0 ≤ u.baud.ubrr
