-- While a frame is in shift only a clock changes the format, the baud clock or what is in the shifter: a write that
-- would is refused.
use mathlib.Core.Path.{◌≡◌, refl}
use mathlib.Core.Bool.{Bool, true, false}
use Prim.Native.Nat.{ℕ}
use lib.Dec.{eqb}
use Rattle.std.proofs.Common.{Result, Some}
use Rattle.choice.specs.Bit.{is_set}
use Rattle.choice.specs.Pick.{pick}
use Rattle.choice.proofs.Picks.{pick_ind}
use Rattle.frame.specs.declared.format.Format.{Format}
use Rattle.usart.specs.Sender.{is_vacant}
use Rattle.usart.specs.Settings.{settings_of}
use Rattle.usart.specs.Unit.{is_busy, txc_requested}
use Rattle.usart.specs.Write.{formatted_of, txc_cleared, timed_of, transmitted_of, vector_of}
use Rattle.usart.specs.Event.{settled, next_of, write, read, vector}
use Rattle.usart.specs.declared.baud.Baud.{Baud}
use Rattle.usart.specs.declared.sender.Transmission.{Transmission}
use Rattle.usart.specs.declared.unit.Usart.{Usart}
use Rattle.usart.specs.declared.write.Register.{Register}
use Rattle.usart.proofs.ReadLaws.{each_read}
use Rattle.usart.proofs.WriteLaws.{Before, in_a, in_b, in_c, Writes, each_write}
use Rattle.answer.specs.declared.Refusal.{Refusal}

pub record Kept (u v : Usart) : Type 0 where
  pub baud : v.baud ≡ u.baud
  pub format : v.format ≡ u.format
  pub shifter : v.sender.shifter ≡ u.sender.shifter

same : (u : Usart) → Kept u u
same u = record { baud = refl; format = refl; shifter = refl }

abbrev KeptBy : Usart → Result Usart Refusal → Type 0
KeptBy u w = Kept u (settled u w)

pub either : (t : Bool) → pick t true true ≡ true
either true = refl
either false = refl

module _ (u : Usart) (t : Transmission) (e : u.sender.shifter ≡ Some t) where
  busy : is_busy u ≡ true
  unfolding is_busy
  busy = rw e (either (is_vacant u.sender.buffer))

  formatted : (v : Usart) (f : Format) → Kept u v → KeptBy u (formatted_of v (is_busy u) f)
  unfolding formatted_of
  formatted v f k = rw busy (pick_ind (KeptBy u) (eqb (settings_of f) (settings_of v.format)) _ _ (λ _. k) (λ _. same u))

  timed : (b : Baud) → KeptBy u (timed_of u b)
  unfolding timed_of
  timed b = rw busy (same u)

  before : (v : ℕ) {w : Usart} → Before u v w → Kept u w
  unfolding txc_cleared
  before v in_a = pick_ind (Kept u) (is_set v 64) _ _ (λ _. record { baud = refl; format = refl; shifter = refl }) (λ _. same u)
  before v in_b = record { baud = refl; format = refl; shifter = refl }
  before v in_c = same u

  transmitted : (v : ℕ) → Kept u (transmitted_of u v)
  unfolding transmitted_of
  transmitted v = pick_ind (Kept u) u.control.txen _ _ (λ _. record { baud = refl; format = refl; shifter = refl }) (λ _. same u)

  pub kept-write : (r : Register) (v : ℕ) → Kept u (next_of u (write r v))
  kept-write r v = each_write {P = KeptBy u} u v by r
    where
      by : Writes (KeptBy u) u v
      by = record {
        refused = λ _. same u;
        formatted = λ w f p. formatted w f (before v p);
        timed = λ b _. timed b;
        sent = transmitted v;
      }

  pub kept_read : (r : Register) → Kept u (next_of u (read r))
  kept_read r = each_read (Kept u) u r (λ _. same u) (λ _. record { baud = refl; format = refl; shifter = refl })

  pub kept-vector : Kept u (next_of u vector)
  unfolding vector_of
  kept-vector = pick_ind (KeptBy u) (txc_requested u) _ _ (λ _. record { baud = refl; format = refl; shifter = refl }) (λ _. same u)
