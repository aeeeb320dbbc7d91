-- A clock that only counts comes to what `clock_of` says, and leaves the output as it is. The laws hold of every device,
-- also one out of its ranges.
use Prim.Native.Nat.{ℕ, ◌+◌}
use mathlib.Core.Bool.{Bool, true, false}
use mathlib.Core.Path.{◌≡◌, refl, ap, ap₂, sym, ◌∙◌}
use lib.Dec.{ltb}
use borrow.Author.Tests.{ltb-true}
use Rattle.choice.proofs.Picks.{split, both}
use Rattle.choice.proofs.TimesLaws.{times-one}
use Rattle.frame.specs.declared.format.Format.{Format}
use Rattle.usart.specs.Baud.{ticks}
use Rattle.usart.specs.Receiver.{listened_of}
use Rattle.usart.specs.Unit.{clock_of as serial_clock, output_of as serial_output, is_driven}
use Rattle.usart.specs.Counting.{sender_quiet, bit_quiet, receiver_quiet, counted_receiver, counted_of}
use Rattle.usart.specs.Holding.{listened_at, receiver_rests}
use Rattle.usart.specs.declared.queue.Queue.{Queue}
use Rattle.usart.specs.declared.sampler.Sampler.{Sampler}
use Rattle.usart.specs.declared.sampler.Sampler.TheVariants.{Idle, Receiving}
use Rattle.usart.specs.declared.receiver.Receiver.{Receiver}
use Rattle.usart.specs.declared.unit.Usart.{Usart}
use Rattle.usart.proofs.ClockLaws.{same_parts}
use Rattle.usart.proofs.CountingLaws.{sender-clock, receiver-clock, output-counted}
use Rattle.usart.proofs.HoldingLaws.{receiver-stays}
use Rattle.spi.specs.Unit.{output_of as spi_output}
use Rattle.spi.specs.Holding.{is_at_rest as spi_rests}
use Rattle.spi.proofs.HoldingLaws.{rest-clock as spi-rest}
use Rattle.device.specs.Unit.{after_of, rxd_in, levels_in, clock_of, output_of}
use Rattle.device.specs.Counting.{sampler_counts, receiver_counts, serial_counts, is_counting}
use Rattle.device.specs.Counting.{counted_usart, counted_device}
use Rattle.device.specs.declared.unit.Device.{Device}

-- an enabled receiver: idle it rests, within a bit it counts
listened-counts : (f : Format) (p : Sampler) (q : Queue) (l : Bool) → sampler_counts f p l ≡ true
    → listened_of true f (record { sampler = p; queue = q }) l
    ≡ counted_receiver true (record { sampler = p; queue = q }) 1
unfolding receiver_rests receiver_quiet counted_receiver
listened-counts f (Idle last) q l h =
    let r : Receiver = record { sampler = Idle last; queue = q } in
    sym (times-one (listened_at true f l) r) ∙ receiver-stays true f r l 1 h
listened-counts f (Receiving x) q l h =
    receiver-clock f true (record { sampler = Receiving x; queue = q }) l (ltb-true 0 (bit_quiet f x.sample.0) h)

receiver-counts : (rxen : Bool) (f : Format) (r : Receiver) (l : Bool) → receiver_counts rxen f r.sampler l ≡ true
    → listened_of rxen f r l ≡ counted_receiver rxen r 1
unfolding receiver_counts listened_of counted_receiver
receiver-counts true f r l h = listened-counts f r.sampler r.queue l h
receiver-counts false f r l h = refl

-- at a tick that only counts, and at a clock with none
serial-tick : (u : Usart) (l : Bool) → ticks u.baud ≡ true → serial_counts u l ≡ true
    → serial_clock u l ≡ counted_usart u
unfolding serial_clock serial_counts counted_usart
serial-tick u l e h =
    let n : ℕ = sender_quiet u.format u.sender.buffer u.sender.shifter in
    let b = both (ltb 0 n) (receiver_counts u.control.rxen u.format u.receiver.sampler l) h in
    rw e
    (same_parts u refl (sender-clock u.format u.sender (ltb-true 0 n b.0))
    (receiver-counts u.control.rxen u.format u.receiver l b.1))

serial-wait : (u : Usart) (l : Bool) → ticks u.baud ≡ false → serial_clock u l ≡ counted_usart u
unfolding serial_clock counted_usart
serial-wait u l e = rw e

-- the clock of the device
pub counted-clock : (d : Device) (level : ℕ) → is_counting d level ≡ true → clock_of d level ≡ counted_device d
unfolding is_counting
counted-clock d level h =
    let b = both (spi_rests d.spi (levels_in level)) _ h in
    ap₂ (after_of d)
    (split (ticks d.usart.baud) (λ e. serial-tick d.usart (rxd_in level) e (rw e at b.1))
    (λ e. serial-wait d.usart (rxd_in level) e))
    (spi-rest d.spi (levels_in level) b.0)

-- one more counted of a bit leaves TxD, and TxD does not look at the baud counter ..
serial-output : (u : Usart) → serial_output (counted_usart u) ≡ serial_output u
unfolding counted_usart counted_of serial_output is_driven
serial-output u = split (ticks u.baud) (λ e. rw e (rw e at (output-counted u 1))) (λ e. rw e)

-- .. so the output stays
pub counted-output : (d : Device) (level : ℕ) → output_of (counted_device d) level ≡ output_of d level
counted-output d level = ap (λ (n : ℕ). n + spi_output d.spi (levels_in level).ss) (serial-output d.usart)
