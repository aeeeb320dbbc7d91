-- M1 to M10.
use Prim.Native.Nat.{ℕ, zero, suc, ◌+◌, ◌≤◌}
use mathlib.Core.Bool.{true, false}
use mathlib.Core.List.{◌∷◌}
use mathlib.Core.Path.{◌≡◌, refl, ap, subst, ◌∙◌}
use native.Mathlib.Omega.{arith}
use lib.Dec.{lit≤}
use Rattle.choice.specs.Bit.{bit_at}
use Rattle.frame.specs.Parity.{sum_of_bits}
use Rattle.frame.specs.Word.{frame_bit, parity_error}
use Rattle.frame.specs.declared.format.Parity.TheVariants.{Off, Even}
use Rattle.frame.specs.declared.format.Size.TheVariants.{Five, Nine}
use Rattle.frame.proofs.FormatLaws.{word-bits-range, stop-bits-range}
use Rattle.usart.specs.Baud.{left_of}
use Rattle.usart.specs.Bit.{BitLasts}
use Rattle.usart.specs.Line.{line_level}
use Rattle.usart.specs.Marked.{sending as unit_sending, status_bits as unit_bits, four_frames}
use Rattle.usart.specs.Read.{ucsr0a}
use Rattle.usart.specs.Receiver.{listened_of, enabled_of}
use Rattle.usart.specs.Sampler.{idle_of, cast_of, next_bit_of, shifted_of, tally_of, decided_of, voted_of, sampled_of, sampler_of}
use Rattle.usart.specs.Sender.{stepped_of}
use Rattle.usart.specs.Settings.{size_of}
use Rattle.usart.specs.Unit.{is_busy, clock_of as serial_clock}
use Rattle.usart.specs.Write.{formatted_of, txc_cleared, write_a, is_reserved_c, write_c, transmitted_of}
use Rattle.usart.specs.declared.unit.Usart.{Usart}
use Rattle.usart.proofs.Cases.{m8 as m8-unit}
use Rattle.usart.proofs.OneBit.{bit-lasts}
use Rattle.spi.specs.Unit.{output_of as spi_output}
use Rattle.spi.specs.Clock.{by_mode_of}
use Rattle.spi.proofs.Transfers.{m7}
use Rattle.device.specs.Address.{place_of}
use Rattle.device.specs.Run.{ran_of}
use Rattle.device.specs.Unit.{clock_of}
use Rattle.device.specs.declared.unit.Device.{Device}
use Rattle.history.specs.Marked.{M1, M2, M4, M6, M8, M9, M10, sending, status_bits, line_from, listening, heard, read_at, cases, Each}

m1 : M1
m1 u e q = subst (λ (n : ℕ). BitLasts n u) (rw (e, q)) (bit-lasts u)

m2 : M2
m2 u e q = subst (λ (n : ℕ). BitLasts n u) (rw (e, q)) (bit-lasts u)

m4 : M4
m4 = (
  λ f.
      let d = word-bits-range f in
      let s = stop-bits-range f in (omega (arith, d.0, s.0), omega (arith, d.1, s.1)),
  (
    (record { size = Five; parity = Off; usbs = false; u2x = false }, refl),
    (record { size = Nine; parity = Even; usbs = true; u2x = false }, refl),
  ),
)

m6 : M6
unfolding place_of is_reserved_c write_c size_of
m6 d e = rw e

-- M8 is the serial unit's: its bits of UCSR0A are the device's
status-unit : (k : ℕ) (d : Device) (n : ℕ) → status_bits k d n ≡ unit_bits k d.usart n
unfolding status_bits unit_bits place_of
status-unit k d zero = refl
status-unit k d (suc n) = ap (◌∷◌ (bit_at (ucsr0a (serial_clock d.usart true)) k)) (status-unit k (clock_of d 1) n)

started : (v : ℕ) → (sending v).usart ≡ unit_sending v
unfolding sending unit_sending place_of enabled_of is_busy formatted_of size_of transmitted_of
started v = refl

m8 : M8
unfolding sending unit_sending place_of enabled_of is_busy formatted_of size_of transmitted_of by_mode_of spi_output
m8 v =
    let u = m8-unit v in
    (ap (λ (x : ℕ). x + 0) u.start, (u.full, (status-unit 5 (sending v) 1 ∙ ap (λ (x : Usart). unit_bits 5 x 1) (started v) ∙ u.udre, status-unit 6 (sending v) 161 ∙ ap (λ (x : Usart). unit_bits 6 x 161) (started v) ∙ u.txc)))

m9 : M9
m9 = (
  ((lit≤ tt, lit≤ tt), (lit≤ tt, lit≤ tt)),
  (λ w. let x : 24000 ≤ 23640 = w.0 in omega arith, λ w. let x : 25000 ≤ 24375 = w.1 in omega arith),
)

m10 : M10
unfolding read_at heard listening line_from four_frames ran_of place_of left_of stepped_of listened_of enabled_of is_busy serial_clock formatted_of txc_cleared write_a size_of frame_bit line_level by_mode_of sum_of_bits idle_of cast_of next_bit_of shifted_of tally_of decided_of voted_of sampled_of sampler_of parity_error
m10 = ((refl, refl), (refl, refl))

pub marked : Each cases
unfolding sum_of_bits
marked =
    (m1, (m2, ((refl, refl), (m4, (refl, (m6, ((λ s v es l m k n e. (m7 s v es l m k).0 n e, λ s v es l m k n e. (m7 s v es l m k).1 n e), (m8, (m9, (m10, tt))))))))))
