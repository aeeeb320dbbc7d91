-- A level byte that is held is a run of as many equal level bytes; n clocks and then m are n + m; at rest only the baud
-- counter moves, and every valid device comes there.
use Prim.Native.Nat.{ℕ, zero, suc, ◌+◌, ◌≤◌}
use mathlib.Core.Bool.{true}
use mathlib.Core.Path.{◌≡◌, refl, sym, ap, ap₂, ◌∙◌}
use native.Mathlib.Omega.{arith}
use borrow.Author.Tests.{ne_eqb}
use lib.ListN.{replicate}
use Rattle.choice.specs.Times.{times}
use Rattle.choice.proofs.Picks.{both}
use Rattle.choice.proofs.TimesLaws.{times-add}
use Rattle.usart.specs.Holding.{held_of as serial_held, passed_baud, is_at_rest as serial_rests}
use Rattle.usart.specs.Write.{with_baud}
use Rattle.usart.proofs.HoldingLaws.{rest-held as serial-rest, rest-output as serial-rest-output, rest-requests as serial-rest-requests}
use Rattle.usart.proofs.RestLaws.{comes-to-rest as serial-settles, resting-range}
use Rattle.spi.specs.Holding.{held_of as spi_held, is_at_rest as spi_rests}
use Rattle.spi.proofs.HoldingLaws.{rest-held as spi-rest, rest-output as spi-rest-output, rest-requests as spi-rest-requests}
use Rattle.spi.proofs.RestLaws.{comes-to-rest as spi-settles}
use Rattle.device.specs.Unit.{after_of, with_usart, rxd_in, levels_in, clock_of, output_of, requests_of}
use Rattle.device.specs.Run.{ran_of, outputs_of}
use Rattle.device.specs.Valid.{Valid}
use Rattle.device.specs.Holding.{clock_at, held_of, last_of, held_output, is_at_rest, clocks_to_rest}
use Rattle.device.specs.declared.unit.Device.{Device}

-- the two units by themselves
pub held-units : (n : ℕ) (d : Device) (l : ℕ) → held_of d l n ≡ after_of d (serial_held d.usart (rxd_in l) n) (spi_held d.spi (levels_in l) n)
unfolding times
held-units zero d l = refl
held-units (suc n) d l = held-units n (clock_of d l) l

-- .. named for the code
pub units_held : (n : ℕ) (d : Device) (l : ℕ) → after_of d (serial_held d.usart (rxd_in l) n) (spi_held d.spi (levels_in l) n) ≡ held_of d l n
units_held n d l = sym (held-units n d l)

-- a run of n equal level bytes
pub held-ran : (n : ℕ) (d : Device) (l : ℕ) → held_of d l n ≡ ran_of d (replicate n l)
unfolding times ran_of
held-ran zero d l = refl
held-ran (suc n) d l = held-ran n (clock_of d l) l

-- and its last output byte
last-shown : (n : ℕ) (d : Device) (l o : ℕ) → output_of (held_of d l (suc n)) l ≡ last_of o (outputs_of d (replicate (suc n) l))
unfolding times outputs_of last_of
last-shown zero d l o = refl
last-shown (suc n) d l o = last-shown n (clock_of d l) l (output_of (clock_of d l) l)

pub held-last : (n : ℕ) (d : Device) (l : ℕ) → held_output d l n ≡ last_of 0 (outputs_of d (replicate n l))
unfolding held_output outputs_of last_of
held-last zero d l = refl
held-last (suc n) d l = rw (ne_eqb (suc n) 0 (λ q. omega arith)) (last-shown n d l 0)

-- n clocks, then m
pub held-add : (d : Device) (l n m : ℕ) → held_of d l (n + m) ≡ held_of (held_of d l n) l m
held-add d l n m = times-add (clock_at l) n m d

pub held-output-add : (d : Device) (l n m : ℕ) → (m ≡ 0 → ⊥) → held_output d l (n + m) ≡ held_output (held_of d l n) l m
unfolding held_output
held-output-add d l n m z =
    rw (ne_eqb m 0 z, ne_eqb (n + m) 0 (λ q. z (omega arith)))
    (ap (λ (e : Device). output_of e l) (held-add d l n m))

-- at rest: all but the baud counter stays
pub rest-held : (d : Device) (l n : ℕ) → is_at_rest d l ≡ true
    → held_of d l n ≡ with_usart d (with_baud d.usart (passed_baud d.usart.baud n))
unfolding is_at_rest
rest-held d l n h =
    let b = both (serial_rests d.usart (rxd_in l)) (spi_rests d.spi (levels_in l)) h in
    held-units n d l ∙ ap₂ (after_of d) (serial-rest d.usart (rxd_in l) n b.0) (spi-rest d.spi (levels_in l) n b.1)

pub rest-output : (d : Device) (l n : ℕ) → is_at_rest d l ≡ true → output_of (held_of d l n) l ≡ output_of d l
unfolding is_at_rest
rest-output d l n h =
    let b = both (serial_rests d.usart (rxd_in l)) (spi_rests d.spi (levels_in l)) h in
    ap (λ (e : Device). output_of e l) (held-units n d l)
    ∙ ap₂ (◌+◌) (serial-rest-output d.usart (rxd_in l) n b.0) (spi-rest-output d.spi (levels_in l) n b.1)

pub rest-requests : (d : Device) (l n : ℕ) → is_at_rest d l ≡ true → requests_of (held_of d l n) ≡ requests_of d
unfolding is_at_rest
rest-requests d l n h =
    let b = both (serial_rests d.usart (rxd_in l)) (spi_rests d.spi (levels_in l)) h in
    ap requests_of (held-units n d l)
    ∙ ap₂ (◌+◌) (serial-rest-requests d.usart (rxd_in l) n b.0) (spi-rest-requests d.spi (levels_in l) n b.1)

-- two of the longest frames at UBRR 4095; an SPI needs far less
pub comes-to-rest : (d : Device) (l n : ℕ) → Valid d → clocks_to_rest ≤ n → is_at_rest (held_of d l n) l ≡ true
unfolding is_at_rest
comes-to-rest d l n v h =
    let from = resting-range d.usart.baud v.usart.baud in
    ap (λ (e : Device). is_at_rest e l) (held-units n d l)
    ∙ rw (serial-settles d.usart (rxd_in l) n v.usart (omega (arith, from, h))) (spi-settles d.spi (levels_in l) n v.spi (omega (arith, h)))
