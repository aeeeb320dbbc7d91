-- A means, no rule: clocks that only count. Between ticks nothing but the baud counter moves; at UBRR 0, where every
-- clock is a tick, most ticks only count one more of a bit: the sender within a bit, the receiver at samples that do
-- not vote and are not a bit's last. RxD is not looked at in them, so many may pass at once. That they come to what
-- `clock_of` says, one by one, is proved in `proofs/CountingLaws.antt`.
use Rattle.std.specs.Prelude.{ℕ, ◌+◌, ◌-◌, Bool, eqb, ltb, None, Option, Some}
use Rattle.choice.specs.Pick.{pick}
use Rattle.advance.specs.declared.Passed.{Passed}
use Rattle.frame.specs.Format.{samples, first_vote}
use Rattle.frame.specs.declared.format.Format.{Format}
use Rattle.span.specs.declared.Span.{Span}
use Rattle.usart.specs.Baud.{ticks}
use Rattle.usart.specs.Sender.{is_vacant, placed}
use Rattle.usart.specs.Sampler.{cast_at}
use Rattle.usart.specs.Write.{with_baud}
use Rattle.usart.specs.declared.baud.Baud.{Baud}
use Rattle.usart.specs.declared.sample.Sample.{Sample}
use Rattle.usart.specs.declared.sender.Sender.{Sender}
use Rattle.usart.specs.declared.sampler.Sampler.{Sampler}
use Rattle.usart.specs.declared.sampler.Sampler.TheVariants.{Idle, Receiving}
use Rattle.usart.specs.declared.receiver.Receiver.{Receiver}
use Rattle.usart.specs.declared.unit.Usart.{Usart}
use Rattle.usart.specs.declared.sender.Transmission.{Transmission}

unfoldable pub least : ℕ → ℕ → ℕ
least a b = pick (ltb a b) a b

-- any number of ticks: a part that rests sets no end
abbrev pub unlimited : ℕ
unlimited = 65535

-- how many ticks the sender only counts: up to the bit's last; at rest none while a full buffer waits, since it moves
-- at the next one
unfoldable pub sender_quiet : Format → Option ℕ → Option Transmission → ℕ
sender_quiet f b None = pick (is_vacant b) unlimited 0
sender_quiet f b (Some t) = samples f - 1 - t.sample.0

-- of a bit with n samples taken: up to the one before the first vote, and from the last vote to the one before the
-- bit's last
unfoldable pub bit_quiet : Format → ℕ → ℕ
bit_quiet f n = pick (ltb n (first_vote f)) (first_vote f - 1 - n) (pick (ltb n (first_vote f + 2)) 0 (samples f - 1 - n))

-- an idle sampler looks at RxD at each tick
abbrev pub sampler_quiet : Format → Sampler → ℕ
sampler_quiet f (Idle last) = 0
sampler_quiet f (Receiving r) = bit_quiet f r.sample.0

-- only an enabled receiver samples
unfoldable pub receiver_quiet : Bool → Format → Receiver → ℕ
receiver_quiet rxen f r = pick rxen (sampler_quiet f r.sampler) unlimited

-- clocks ahead that only count, whatever the level of RxD
unfoldable pub quiet_of : Usart → ℕ
quiet_of u =
    pick (ticks u.baud)
    (pick (eqb u.baud.ubrr 0)
    (least (sender_quiet u.format u.sender.buffer u.sender.shifter)
    (receiver_quiet u.control.rxen u.format u.receiver))
    0)
    u.baud.left.0

-- n samples, or ticks, of the bit more
abbrev pub later : Sample → ℕ → Sample
later s n = record { 0 = s.0 + n }

abbrev pub counted_shifter : Option Transmission → ℕ → Option Transmission
counted_shifter None n = None
counted_shifter (Some t) n = Some (placed t t.bit (t.sample.0 + n))

abbrev pub counted_sender : Sender → ℕ → Sender
counted_sender s n = record { buffer = s.buffer; shifter = counted_shifter s.shifter n; txc = s.txc }

abbrev pub counted_sampler : Sampler → ℕ → Sampler
counted_sampler (Idle last) n = Idle last
counted_sampler (Receiving r) n = Receiving (cast_at r (later r.sample n) r.first r.second)

unfoldable pub counted_receiver : Bool → Receiver → ℕ → Receiver
counted_receiver rxen r n = pick rxen (record { sampler = counted_sampler r.sampler n; queue = r.queue }) r

abbrev pub counted_baud : Baud → ℕ → Baud
counted_baud b n = record { ubrr = b.ubrr; left = record { 0 = b.left.0 - n } }

-- the unit after n of them: the baud counter falls, or the samples within the bits rise
unfoldable pub counted_of : Usart → ℕ → Usart
counted_of u n =
    pick (ticks u.baud)
    (record {
      baud = u.baud;
      format = u.format;
      control = u.control;
      sender = counted_sender u.sender n;
      receiver = counted_receiver u.control.rxen u.receiver n;
    })
    (with_baud u (counted_baud u.baud n))

-- at most n of them at once
abbrev pub skipped_of : Usart → ℕ → Passed Usart Span
skipped_of u n = record { state = counted_of u (least (quiet_of u) n); steps = record { 0 = least (quiet_of u) n } }
