-- Every write of a serial register, by what it may come to: a refusal, a format that is set or a baud setting, each
-- judged by whether the unit is busy, or a byte for the transmit buffer.
use Prim.Native.Nat.{ℕ, ◌+◌, ◌*◌, ◌/◌, ◌%◌, ◌<◌}
use native.Mathlib.Omega.{arith}
use lib.Dec.{eqb, leb}
use borrow.Author.Tests.{leb-false}
use Rattle.std.proofs.Common.{Err, None, Ok, Option, Result, Some}
use Rattle.answer.specs.declared.Refusal.{Refusal}
use Rattle.choice.proofs.Picks.{pick_ind}
use Rattle.frame.specs.declared.format.Format.{Format}
use Rattle.usart.specs.Baud.{loaded_baud}
use Rattle.usart.specs.Settings.{code_of, size_of}
use Rattle.usart.specs.Unit.{is_busy}
use Rattle.usart.specs.Write.{formatted_of, txc_cleared, write_a, controlled, coded_b, is_reserved_c, sized_c, coded_c}
use Rattle.usart.specs.Write.{write_c, timed_of, write_h, transmitted_of, write_of}
use Rattle.usart.specs.declared.baud.Baud.{Baud}
use Rattle.usart.specs.declared.unit.Usart.{Usart}
use Rattle.usart.specs.declared.write.Register.{Register}
use Rattle.usart.specs.declared.write.Register.TheVariants.{Ucsr0a, Ucsr0b, Ucsr0c, Ubrr0l, Ubrr0h, Udr0}
use Rattle.frame.specs.declared.format.Size.{Size}

-- a unit as the write of v to A, B or C leaves it before the format is set
pub data Before (u : Usart) (v : ℕ) : Usart → Type 0 where
  in_a : Before u v (txc_cleared u v)
  in_b : Before u v (controlled u v)
  in_c : Before u v u

-- the baud setting of a write of v to UBRR0L or H
pub data Timing (u : Usart) (v : ℕ) : Baud → Type 0 where
  in_l : Timing u v (loaded_baud (u.baud.ubrr / 256 * 256 + v))
  in_h : v < 16 → Timing u v (record { ubrr = v * 256 + u.baud.ubrr % 256; left = u.baud.left })

pub record Writes (P : Result Usart Refusal → Type 0) (u : Usart) (v : ℕ) : Type 0 where
  pub refused : (r : Refusal) → P (Err r)
  pub formatted : (w : Usart) (f : Format) → Before u v w → P (formatted_of w (is_busy u) f)
  pub timed : (b : Baud) → Timing u v b → P (timed_of u b)
  pub sent : P (Ok (transmitted_of u v))

module _ {P : Result Usart Refusal → Type 0} (u : Usart) (v : ℕ) (c : Writes P u v) where
  coded-b : (k : Option Size) → P (coded_b u v k)
  coded-b (Some z) = c.formatted _ _ in_b
  coded-b None = c.refused _

  coded-c : (k : Option Size) → P (coded_c u v k)
  unfolding sized_c
  coded-c (Some z) = pick_ind P (eqb (v / 64) 0) _ _ (λ _. c.formatted _ _ in_c) (λ _. c.refused _)
  coded-c None = c.refused _

  pub each_write : (r : Register) → P (write_of u r v)
  unfolding write_a write_c write_h
  each_write Ucsr0a = pick_ind P (eqb (v % 2) 1) _ _ (λ _. c.refused _) (λ _. c.formatted _ _ in_a)
  each_write Ucsr0b = coded-b (size_of (v / 4 % 2 * 4 + code_of u.format.size % 4))
  each_write Ucsr0c =
      pick_ind P (is_reserved_c v) _ _ (λ _. c.refused _) (λ _. coded-c (size_of (code_of u.format.size / 4 * 4 + v / 2 % 4)))
  each_write Ubrr0l = c.timed _ in_l
  each_write Ubrr0h = pick_ind P (leb 16 v) _ _ (λ _. c.refused _) (λ e. c.timed _ (in_h (omega (arith, leb-false 16 v e))))
  each_write Udr0 = c.sent
