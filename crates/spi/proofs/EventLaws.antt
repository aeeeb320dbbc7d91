-- What leaves a byte under way alone changes the flags at most, and never sets SPIF.
use Prim.Native.Nat.{ℕ}
use mathlib.Core.Bool.{true, false}
use mathlib.Core.Path.{◌≡◌, refl, sym, subst, ◌∙◌}
use Rattle.std.proofs.Common.{Err, Ok, Result}
use Rattle.choice.proofs.Picks.{pick_ind, split, clash}
use Rattle.spi.specs.Flag.{is_up, armed_of, cleared_of}
use Rattle.spi.specs.Unit.{is_requested}
use Rattle.spi.specs.Register.{settled, collided, loaded_of, accessed, write_of, read_of, vector_of}
use Rattle.spi.specs.Event.{write, read, vector, next_of, is_refused, is_collision, is_harmless}
use Rattle.spi.specs.declared.flag.Flag.{Flag}
use Rattle.spi.specs.declared.flag.Flag.TheVariants.{Clear, Set, Armed}
use Rattle.spi.specs.declared.unit.Spi.{Spi}
use Rattle.spi.specs.declared.register.Register.{Register}
use Rattle.spi.specs.declared.register.Register.TheVariants.{Spcr, Spsr, Spdr, Ddrb}
use Rattle.answer.specs.declared.Refusal.{Refusal}

pub record Same (s t : Spi) : Type 0 where
  pub control : t.control ≡ s.control
  pub transfer : t.transfer ≡ s.transfer
  pub pins : t.pins ≡ s.pins
  pub down : is_up s.flags.spif ≡ false → is_up t.flags.spif ≡ false

same : (s : Spi) → Same s s
same s = record { control = refl; transfer = refl; pins = refl; down = λ h. h }

armed-up : (f : Flag) → is_up (armed_of f) ≡ is_up f
armed-up Clear = refl
armed-up Set = refl
armed-up Armed = refl

-- reading SPSR alone clears nothing
pub spsr-clears-none : (s : Spi)
    → (is_up (read_of s Spsr).after.flags.spif ≡ is_up s.flags.spif) × (is_up (read_of s Spsr).after.flags.wcol ≡ is_up s.flags.wcol)
spsr-clears-none s = (armed-up s.flags.spif, armed-up s.flags.wcol)

cleared-down : (f : Flag) → is_up f ≡ false → is_up (cleared_of f) ≡ false
cleared-down Clear h = h
cleared-down Set h = h
cleared-down Armed h = refl

refused-same : (s : Spi) (w : Result Spi Refusal) → is_refused w ≡ true → Same s (settled s w)
refused-same s (Ok t) h = clash h refl
refused-same s (Err r) h = same s

-- a write that is neither refused nor a collision does not belong here
collision-same : (s : Spi) (r : Register) (v : ℕ) → is_collision s r ≡ true → Same s (settled s (write_of s r v))
unfolding loaded_of
collision-same s Spcr v h = clash h refl
collision-same s Spsr v h = clash h refl
collision-same s Spdr v h =
    let w : loaded_of (accessed s) v ≡ collided (accessed s) = rw h in
    subst (λ (t : Spi). Same s t) (sym w) (record { control = refl; transfer = refl; pins = refl; down = cleared-down s.flags.spif })
collision-same s Ddrb v h = clash h refl

pub write_same : (s : Spi) (r : Register) (v : ℕ) → is_harmless s (write r v) ≡ true → Same s (next_of s (write r v))
write_same s r v h =
    split (is_refused (write_of s r v)) (λ e. refused-same s (write_of s r v) e) (λ e. collision-same s r v (rw e at h))

pub read_same : (s : Spi) (r : Register) → Same s (next_of s (read r))
read_same s Spcr = same s
read_same s Spsr = record { control = refl; transfer = refl; pins = refl; down = λ h. armed-up s.flags.spif ∙ h }
read_same s Spdr = record { control = refl; transfer = refl; pins = refl; down = cleared-down s.flags.spif }
read_same s Ddrb = same s

pub vector-same : (s : Spi) → Same s (next_of s vector)
unfolding vector_of
vector-same s =
    pick_ind (λ (w : Result Spi Refusal). Same s (settled s w)) (is_requested s) _ _ (λ _. record { control = refl; transfer = refl; pins = refl; down = λ _. refl }) (λ _. same s)
