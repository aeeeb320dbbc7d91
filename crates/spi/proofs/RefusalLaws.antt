-- The number of a write is 4 when a setting is changed while a transfer is under way, else 0; and that of vector 1 is 8
-- without its request.
use Prim.Native.Nat.{ℕ, ◌%◌}
use mathlib.Core.Path.{◌≡◌}
use lib.Dec.{eqb}
use Rattle.choice.specs.Pick.{pick}
use Rattle.choice.specs.Bit.{is_set}
use Rattle.choice.proofs.Picks.{split}
use Rattle.spi.specs.Transfer.{is_under_way as is_transferring}
use Rattle.spi.specs.Means.{differs}
use Rattle.spi.specs.Unit.{is_requested}
use Rattle.spi.specs.Register.{write_spcr, write_spsr, write_of, vector_of}
use Rattle.answer.specs.Number.{number_in}
use Rattle.spi.specs.Refusing.{is_under_way}
use Rattle.spi.specs.declared.unit.Spi.{Spi}
use Rattle.spi.specs.declared.register.Register.{Register}
use Rattle.spi.specs.declared.register.Register.TheVariants.{Spcr, Spsr, Spdr, Ddrb}

pub write-number : (s : Spi) (r : Register) (v : ℕ) → number_in (write_of s r v) ≡ pick (is_under_way s r v) 4 0
unfolding write_spcr write_spsr
write-number s Spcr v =
    split (is_transferring s.transfer)
    (λ t. split (is_set v 64)
    (λ on. split (eqb (v % 64) (s.control.spcr % 64)) (λ e. rw (t, on, e)) (λ e. rw (t, on, e)))
    (λ off. rw (t, off)))
    (λ t. rw t)
write-number s Spsr v =
    split (is_transferring s.transfer)
    (λ t. split (differs (is_set v 1) s.control.spi2x) (λ d. rw (t, d)) (λ d. rw (t, d)))
    (λ t. split (differs (is_set v 1) s.control.spi2x) (λ d. rw (t, d)) (λ d. rw (t, d)))
write-number s Spdr v = split (is_transferring s.transfer) (λ t. rw t) (λ t. rw t)
write-number s Ddrb v = split (is_transferring s.transfer) (λ t. rw t) (λ t. rw t)

-- vector 1: 8 without its request
pub vector-number : (s : Spi) → number_in (vector_of s) ≡ pick (is_requested s) 0 8
unfolding vector_of
vector-number s = split (is_requested s) (λ r. rw r) (λ r. rw r)
