-- One level of RxD held for many clocks: `held_of`, as many single ones. All else here is a means, no rule: the parts of
-- the unit after many clocks or ticks, and the unit at rest, which they leave as it is but for the baud counter.
use Rattle.std.specs.Prelude.{ℕ, ◌+◌, ◌*◌, Bool, true, false, not, Option}
use Rattle.choice.specs.Pick.{pick}
use Rattle.choice.specs.Times.{times}
use Rattle.advance.specs.Passing.{taken}
use Rattle.advance.specs.declared.Passed.{Passed}
use Rattle.frame.specs.declared.format.Format.{Format}
use Rattle.usart.specs.Baud.{baud_of}
use Rattle.usart.specs.Sender.{is_vacant, is_resting, sender_of}
use Rattle.usart.specs.Receiver.{listened_of}
use Rattle.usart.specs.Unit.{clock_of}
use Rattle.usart.specs.Counting.{least, sender_quiet, receiver_quiet, counted_sender, counted_receiver}
use Rattle.usart.specs.declared.baud.Baud.{Baud}
use Rattle.usart.specs.declared.hold.Sending.{Sending}
use Rattle.usart.specs.declared.hold.Listening.{Listening}
use Rattle.usart.specs.declared.sender.Sender.{Sender}
use Rattle.usart.specs.declared.sampler.Sampler.{Sampler}
use Rattle.usart.specs.declared.sampler.Sampler.TheVariants.{Idle, Receiving}
use Rattle.usart.specs.declared.receiver.Receiver.{Receiver}
use Rattle.usart.specs.declared.unit.Usart.{Usart}

abbrev pub clock_at : Bool → Usart → Usart
clock_at rxd u = clock_of u rxd

-- n clocks, each with the same level of RxD
abbrev pub held_of : Usart → Bool → ℕ → Usart
held_of u rxd n = times (clock_at rxd) n u

-- n clocks of the baud counter
abbrev pub passed_baud : Baud → ℕ → Baud
passed_baud b n = times baud_of n b

-- n ticks of the sender
abbrev pub held_sender : Format → Sender → ℕ → Sender
held_sender f s n = times (sender_of f) n s

-- n ticks of the receiver, which samples the same level at each
abbrev pub listened_at : Bool → Format → Bool → Receiver → Receiver
listened_at rxen f rxd r = listened_of rxen f r rxd

abbrev pub held_receiver : Bool → Format → Receiver → Bool → ℕ → Receiver
held_receiver rxen f r rxd n = times (listened_at rxen f rxd) n r

-- at rest: nothing in buffer and shifter ..
unfoldable pub sender_rests : Sender → Bool
sender_rests s = pick (is_vacant s.buffer) (is_resting s.shifter) false

-- .. and the receiver off, or idle and remembering the level that is held
abbrev pub sampler_rests : Sampler → Bool → Bool
sampler_rests (Idle last) rxd = pick last rxd (not rxd)
sampler_rests (Receiving r) rxd = false

unfoldable pub receiver_rests : Bool → Receiver → Bool → Bool
receiver_rests rxen r rxd = pick rxen (sampler_rests r.sampler rxd) true

unfoldable pub is_at_rest : Usart → Bool → Bool
is_at_rest u rxd = pick (sender_rests u.sender) (receiver_rests u.control.rxen u.receiver rxd) false

-- the clock of tick 416, with which a unit is at rest at the latest: two frames of 13 bits of 16 ticks each
abbrev pub resting_from : Baud → ℕ
resting_from b = b.left.0 + 415 * (b.ubrr + 1) + 1

-- the settings stay beside the part, and a step is a tick with them
abbrev pub with_sending : Sending → Sender → Sending
with_sending x s = record { sender = s; format = x.format }

abbrev pub sending_tick : Sending → Sending
sending_tick x = with_sending x (sender_of x.format x.sender)

abbrev pub with_listening : Listening → Receiver → Listening
with_listening x r = record { receiver = r; rxen = x.rxen; format = x.format; rxd = x.rxd }

abbrev pub listening_tick : Listening → Listening
listening_tick x = with_listening x (listened_at x.rxen x.format x.rxd x.receiver)

-- where each is at rest, and the ticks of n that only count, taken at once
abbrev pub sending_rests : Sending → Bool
sending_rests x = sender_rests x.sender

abbrev pub sending_counted : Sending → ℕ → Option (Passed Sending ℕ)
sending_counted x n =
    let k : ℕ = least (sender_quiet x.format x.sender.buffer x.sender.shifter) n in
    taken (with_sending x (counted_sender x.sender k)) k

abbrev pub listening_rests : Listening → Bool
listening_rests x = receiver_rests x.rxen x.receiver x.rxd

abbrev pub listening_counted : Listening → ℕ → Option (Passed Listening ℕ)
listening_counted x n =
    let k : ℕ = least (receiver_quiet x.rxen x.format x.receiver) n in
    taken (with_listening x (counted_receiver x.rxen x.receiver k)) k
