-- What an event other than a clock may change: with no write done but of UDR0, the sender alone, or the queue by a read
-- of UDR0.
use mathlib.Core.Path.{◌≡◌, refl}
use mathlib.Core.Bool.{true, false}
use Prim.Native.Nat.{ℕ}
use Rattle.std.proofs.Common.{Err, Ok, Result}
use Rattle.choice.proofs.Picks.{pick_ind, clash}
use Rattle.usart.specs.Sender.{acknowledged_of}
use Rattle.usart.specs.Unit.{txc_requested}
use Rattle.usart.specs.Write.{with_sender, transmitted_of, write_of, vector_of}
use Rattle.usart.specs.Event.{settled, next_of, write, is_refused, is_udr0}
use Rattle.usart.specs.declared.sender.Sender.{Sender}
use Rattle.usart.specs.declared.unit.Usart.{Usart}
use Rattle.usart.specs.declared.write.Register.{Register}
use Rattle.usart.specs.declared.write.Register.TheVariants.{Ucsr0a, Ucsr0b, Ucsr0c, Ubrr0l, Ubrr0h, Udr0}
use Rattle.answer.specs.declared.Refusal.{Refusal}

-- the unit with another sender
abbrev pub OnlySender : Usart → Usart → Type 0
OnlySender u v = (s : Sender) × (v ≡ with_sender u s)

pub unchanged : (u : Usart) → OnlySender u u
unchanged u = (u.sender, refl)

pub refused-settled : (u : Usart) (w : Result Usart Refusal) → is_refused w ≡ true → settled u w ≡ u
refused-settled u (Ok v) e = clash e refl
refused-settled u (Err r) e = refl

pub only-transmitted : (u : Usart) (v : ℕ) → OnlySender u (transmitted_of u v)
unfolding transmitted_of
only-transmitted u v = pick_ind (OnlySender u) u.control.txen _ _ (λ _. (_, refl)) (λ _. unchanged u)

pub only-vector : (u : Usart) → OnlySender u (settled u (vector_of u))
unfolding vector_of
only-vector u = pick_ind (λ (w : Result Usart Refusal). OnlySender u (settled u w)) (txc_requested u) _ _ (λ _. (acknowledged_of u.sender, refl)) (λ _. unchanged u)

pub only-write : (u : Usart) (r : Register) (v : ℕ) → (is_udr0 r ≡ false → is_refused (write_of u r v) ≡ true) → OnlySender u (next_of u (write r v))
only-write u Ucsr0a v h = (u.sender, refused-settled u (write_of u Ucsr0a v) (h refl))
only-write u Ucsr0b v h = (u.sender, refused-settled u (write_of u Ucsr0b v) (h refl))
only-write u Ucsr0c v h = (u.sender, refused-settled u (write_of u Ucsr0c v) (h refl))
only-write u Ubrr0l v h = (u.sender, refused-settled u (write_of u Ubrr0l v) (h refl))
only-write u Ubrr0h v h = (u.sender, refused-settled u (write_of u Ubrr0h v) (h refl))
only-write u Udr0 v h = only-transmitted u v
