-- The receiver: its sampler, and the queue behind it (document 01, 'Receiver').
use Rattle.std.specs.Prelude.{ℕ, Bool, false, not}
use Rattle.choice.specs.Pick.{pick}
use Rattle.frame.specs.Word.{data_of, parity_error}
use Rattle.frame.specs.declared.format.Format.{Format}
use Rattle.usart.specs.Sampler.{sampler_of}
use Rattle.usart.specs.Queue.{stored_of, started_of}
use Rattle.usart.specs.declared.sampler.Sampler.TheVariants.{Idle}
use Rattle.usart.specs.declared.sampler.Outcome.{Outcome}
use Rattle.usart.specs.declared.sampler.Outcome.TheVariants.{Nothing, Started, Complete}
use Rattle.usart.specs.declared.sampler.Sampled.{Sampled}
use Rattle.usart.specs.declared.queue.Frame.{Frame}
use Rattle.usart.specs.declared.queue.Places.TheVariants.{Empty}
use Rattle.usart.specs.declared.queue.Queue.{Queue}
use Rattle.usart.specs.declared.receiver.Receiver.{Receiver}

-- each frame with its data, FE (stop voted low), UPE (parity on and wrong) and, by M-101, 'the count of split votes
-- over start, data, parity and stop'
abbrev pub frame_of : Format → ℕ → Bool → ℕ → Frame
frame_of f word stop splits =
    record { «data» = data_of f word; fe = not stop; upe = parity_error f word; dor = false; splits = splits }

abbrev pub put_of : Format → Queue → Outcome → Queue
put_of f q Nothing = q
put_of f q Started = started_of q
put_of f q (Complete word stop splits) = stored_of q (frame_of f word stop splits)

-- a tick
abbrev pub receiver_of : Format → Receiver → Bool → Receiver
receiver_of f r rxd =
    let o : Sampled = sampler_of f r.sampler rxd in
    record { sampler = o.sampler; queue = put_of f r.queue o.outcome }

-- only an enabled receiver samples
unfoldable pub listened_of : Bool → Format → Receiver → Bool → Receiver
listened_of rxen f r rxd = pick rxen (receiver_of f r rxd) r

-- enabling makes it idle and remembering low (house); a disabled receiver rests so too, with no frame and no pending
-- loss
abbrev pub stopped : Receiver
stopped = record { sampler = Idle false; queue = record { places = Empty; lost = false } }

-- RXEN before and after a write: clearing it drops the frame under way, the buffer, the one that waits (M-103) and a
-- pending loss at once
unfoldable pub enabled_of : Bool → Bool → Receiver → Receiver
enabled_of before after r = pick before (pick after r stopped) stopped
