-- What the bytes hold of the parts that have cases: all 0 where a part is not in use, and the part again from them.
use Rattle.std.specs.Prelude.{ℕ, Bool, true, false, not, eqb, None, Option, Some}
use Rattle.choice.specs.Pick.{pick}
use Rattle.usart.specs.Sender.{is_vacant, is_resting}
use Rattle.usart.specs.Sampler.{is_receiving}
use Rattle.usart.specs.Queue.{no_frame, oldest_of}
use Rattle.usart.specs.declared.sender.Transmission.{Transmission}
use Rattle.usart.specs.declared.sender.Sender.{Sender}
use Rattle.usart.specs.declared.sampler.Reception.{Reception}
use Rattle.usart.specs.declared.sampler.Sampler.{Sampler}
use Rattle.usart.specs.declared.sampler.Sampler.TheVariants.{Idle, Receiving}
use Rattle.usart.specs.declared.queue.Frame.{Frame}
use Rattle.usart.specs.declared.queue.Places.{Places}
use Rattle.usart.specs.declared.queue.Places.TheVariants.{Empty, One, Two, Three}
use Rattle.usart.specs.declared.receiver.Receiver.{Receiver}
use Rattle.record.specs.declared.parts.SenderParts.{SenderParts}
use Rattle.record.specs.declared.parts.FrameParts.{FrameParts}
use Rattle.record.specs.declared.parts.ReceiverParts.{ReceiverParts}

abbrev pub buffer_data : Option ℕ → ℕ
buffer_data None = 0
buffer_data (Some d) = d

unfoldable pub buffer_from : Bool → ℕ → Option ℕ
buffer_from full d = pick full (Some d) None

abbrev pub transmission_in : Option Transmission → Transmission
transmission_in None = record { word = 0; bit = 0; sample = record { 0 = 0 } }
transmission_in (Some t) = t

unfoldable pub shifter_from : Bool → Transmission → Option Transmission
shifter_from sending t = pick sending (Some t) None

abbrev pub sender_parts : Sender → SenderParts
sender_parts s =
    record {
      full = not (is_vacant s.buffer);
      «data» = buffer_data s.buffer;
      sending = not (is_resting s.shifter);
      transmission = transmission_in s.shifter;
    }

-- a frame under way keeps no last sample
abbrev pub remembered_in : Sampler → Bool
remembered_in (Idle last) = last
remembered_in (Receiving r) = false

abbrev pub reception_in : Sampler → Reception
reception_in (Idle last) = record { bit = 0; sample = record { 0 = 0 }; first = false; second = false; word = 0; splits = 0 }
reception_in (Receiving r) = r

unfoldable pub sampler_from : Bool → Bool → Reception → Sampler
sampler_from receiving last r = pick receiving (Receiving r) (Idle last)

abbrev pub held_count : Places → ℕ
held_count Empty = 0
held_count (One a) = 1
held_count (Two a b) = 2
held_count (Three a b c) = 2

abbrev pub second_in : Places → Frame
second_in Empty = no_frame
second_in (One a) = no_frame
second_in (Two a b) = b
second_in (Three a b c) = b

abbrev pub is_waiting : Places → Bool
is_waiting Empty = false
is_waiting (One a) = false
is_waiting (Two a b) = false
is_waiting (Three a b c) = true

abbrev pub third_in : Places → Frame
third_in Empty = no_frame
third_in (One a) = no_frame
third_in (Two a b) = no_frame
third_in (Three a b c) = c

-- n frames held, and one that waits or none
unfoldable pub places_from : ℕ → Bool → Frame → Frame → Frame → Places
places_from n waits a b c = pick (eqb n 0) Empty (pick (eqb n 1) (One a) (pick waits (Three a b c) (Two a b)))

abbrev pub frame_parts : Places → FrameParts
frame_parts p = record { held = held_count p; waits = is_waiting p; oldest = oldest_of p; second = second_in p; third = third_in p }

abbrev pub receiver_parts : Receiver → ReceiverParts
receiver_parts r =
    record {
      receiving = is_receiving r.sampler;
      last = remembered_in r.sampler;
      reception = reception_in r.sampler;
      frames = frame_parts r.queue.places;
    }
