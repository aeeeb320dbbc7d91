-- Statements, not rules: a whole byte, of master and slave alike, and SPIF.
use Rattle.std.specs.Prelude.{ℕ, ◌<◌, true, false, List, ◌∷◌, ◌++◌, ◌≡◌}
use Rattle.shifter.specs.Carrier.{Carries}
use Rattle.shifter.specs.declared.Mode.{Mode}
use Rattle.spi.specs.Control.{is_enabled, is_master}
use Rattle.spi.specs.Flag.{is_up}
use Rattle.spi.specs.Transfer.{is_under_way}
use Rattle.spi.specs.Event.{Event, carrier, final_of}
use Rattle.spi.specs.declared.unit.Spi.{Spi}

-- SPIF is set at the end; until then it does not rise, and the receive buffer is as before
pub record SetsSpif (s : Spi) (es : List Event) : Type 0 where
  pub spif : is_up (final_of s es).flags.spif ≡ true
  pub before : (xs : List Event) (y : Event) (ys : List Event) → es ≡ xs ++ (y ∷ ys)
      → (is_up s.flags.spif ≡ false → is_up (final_of s xs).flags.spif ≡ false)
      × ((final_of s xs).transfer.received ≡ s.transfer.received)

-- the byte v goes out and another comes in, to the receive buffer
pub record Exchanges (m : Mode) (s : Spi) (v : ℕ) (es : List Event) : Type 0 where
  pub carries : Carries carrier m s v (final_of s es).transfer.received es
  pub flags : SetsSpif s es
  pub idle : is_under_way (final_of s es).transfer ≡ false

-- a master that may start: enabled, none under way, a byte to send
pub record MayStart (s : Spi) (v : ℕ) : Type 0 where
  pub enabled : is_enabled s.control ≡ true
  pub master : is_master s.control ≡ true
  pub idle : is_under_way s.transfer ≡ false
  pub byte : v < 256

-- a slave between two bytes
pub record MayTake (s : Spi) : Type 0 where
  pub enabled : is_enabled s.control ≡ true
  pub slave : is_master s.control ≡ false
  pub idle : s.transfer.edges ≡ 0
  pub byte : s.transfer.shift < 256
