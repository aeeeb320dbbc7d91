-- The wires as the output bytes show them, and the edges that a slave sees on SCK.
use Prim.Native.Nat.{ℕ, ◌+◌, ◌*◌, ◌%◌, ◌≤◌}
use mathlib.Core.Bool.{Bool, true, false, not}
use mathlib.Core.Path.{◌≡◌, refl, sym, subst}
use native.Mathlib.Omega.{arith}
use lib.Dec.{eqb}
use borrow.Author.Tests.{eqb-true, eqb-false, eq-eqb, ne_eqb}
use Rattle.choice.specs.Pick.{digit}
use Rattle.choice.specs.Bit.{is_set}
use Rattle.choice.proofs.Picks.{split, both, clash}
use Rattle.spi.specs.Unit.{sck_of, pin_of, output_of}
use Rattle.spi.specs.Means.{differs}
use Rattle.spi.specs.Clock.{is_sck_edge}
use Rattle.spi.specs.Wired.{Linked}
use Rattle.spi.specs.declared.control.Control.{Control}
use Rattle.spi.specs.declared.unit.Spi.{Spi}
use Rattle.spi.proofs.Differing.{same-level}

-- what the output bytes show
mosi-sck : (a b : Bool) → let o : ℕ = (16 + digit a) * 2 + (16 + digit b) * 8 in (is_set o 2 ≡ a) × (is_set o 8 ≡ b)
mosi-sck true true = (refl, refl)
mosi-sck true false = (refl, refl)
mosi-sck false true = (refl, refl)
mosi-sck false false = (refl, refl)

pub master-shown : (s : Spi) (b : Control) → Linked s.control b
    → (is_set (output_of s true) 2 ≡ s.pins.mosi) × (is_set (output_of s true) 8 ≡ sck_of s)
unfolding output_of pin_of
master-shown s b w = rw (w.enabled_master, w.master, w.mosi, w.sck) (mosi-sck s.pins.mosi (sck_of s))

pub slave-shown : (s : Spi) (a : Control) → Linked a s.control → is_set (output_of s false) 4 ≡ s.pins.miso
unfolding output_of pin_of
slave-shown s a w = rw (w.enabled_slave, w.slave, w.miso) (by s.pins.miso)
  where
    by : (a : Bool) → is_set ((16 + digit a) * 4) 4 ≡ a
    by true = refl
    by false = refl

-- SCK after k edges
abbrev pub level_at : Bool → ℕ → Bool
level_at cpol k = differs (eqb (k % 2) 1) cpol

pub no_edge : (cpol : Bool) (k : ℕ) (sck : Bool) → is_sck_edge cpol k sck sck ≡ false
unfolding is_sck_edge differs
no_edge cpol k true = refl
no_edge cpol k false = refl

-- each edge turns SCK
turned : (cpol odd : Bool) → differs (differs (not odd) cpol) (differs odd cpol) ≡ true
unfolding differs
turned true true = refl
turned true false = refl
turned false true = refl
turned false false = refl

next-odd : (k : ℕ) → eqb ((k + 1) % 2) 1 ≡ not (eqb (k % 2) 1)
next-odd k =
    split (eqb (k % 2) 1) (λ e. rw e (ne_eqb ((k + 1) % 2) 1 (λ q. omega (arith, eqb-true (k % 2) 1 e))))
    (λ e. rw e (eq-eqb ((k + 1) % 2) 1 (omega (arith, eqb-false (k % 2) 1 e))))

-- .. and the first leaves the level at rest
leaves : (cpol : Bool) → is_sck_edge cpol 0 (level_at cpol 0) (level_at cpol 1) ≡ true
unfolding is_sck_edge differs
leaves true = refl
leaves false = refl

pub level-turns : (cpol : Bool) (k : ℕ) → is_sck_edge cpol k (level_at cpol k) (level_at cpol (k + 1)) ≡ true
unfolding is_sck_edge
level-turns cpol k =
    split (eqb k 0) (λ z. subst (λ (n : ℕ). is_sck_edge cpol n (level_at cpol n) (level_at cpol (n + 1)) ≡ true) (sym (eqb-true k 0 z)) (leaves cpol))
    (λ z. rw (next-odd k, turned cpol (eqb (k % 2) 1), z))

-- what is seen to turn from the level after k edges is at the next one's
turns : (sck odd cpol : Bool) → differs sck (differs odd cpol) ≡ true → sck ≡ differs (not odd) cpol
unfolding differs
turns true true true h = refl
turns true true false h = clash h refl
turns true false true h = clash h refl
turns true false false h = refl
turns false true true h = clash h refl
turns false true false h = refl
turns false false true h = refl
turns false false false h = clash h refl

module _ (cpol : Bool) (k : ℕ) (last sck : Bool) where
  -- an edge that counts brings SCK to its level, whatever level was kept before the first
  pub edge-turns : (1 ≤ k → last ≡ level_at cpol k) → is_sck_edge cpol k last sck ≡ true → sck ≡ level_at cpol (k + 1)
  unfolding is_sck_edge differs
  edge-turns h e =
      let d : differs sck (level_at cpol k) ≡ true =
      split (eqb k 0) (λ z. rw (eqb-true k 0 z) (both (differs sck last) _ (rw z at e)).1)
      (λ z. subst (λ (b : Bool). differs sck b ≡ true) (h (omega (arith, eqb-false k 0 z))) (both (differs sck last) _ (rw z at e)).0) in
      rw (next-odd k) (turns sck (eqb (k % 2) 1) cpol d)

  -- within a byte every turn of SCK counts
  pub level-stays : 1 ≤ k → is_sck_edge cpol k last sck ≡ false → sck ≡ last
  unfolding is_sck_edge
  level-stays l e =
      let none : eqb k 0 ≡ false = ne_eqb k 0 (λ q. omega arith) in
      split (differs sck last) (λ d. clash refl (rw (d, none) at e)) (λ d. sym (same-level sck last d))
