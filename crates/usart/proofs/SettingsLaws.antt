-- The settings as numbers: the ranges of the codes, and each setting had again from its code.
use Prim.Native.Nat.{ℕ, zero, suc, ◌+◌, ◌*◌, ◌≤◌, ◌<◌}
use mathlib.Core.Bool.{Bool, true, false, beq, ◌&&◌}
use mathlib.Core.Path.{◌≡◌, refl, sym, ap, ◌∙◌}
use native.Mathlib.Omega.{arith}
use lib.Dec.{eqb}
use borrow.Author.Tests.{eqb-true, eq-eqb}
use Rattle.std.proofs.Common.{None, Option, Some, rules}
use Rattle.choice.specs.Pick.{pick, digit}
use Rattle.choice.proofs.Digits.{digit-le}
use Rattle.choice.proofs.Picks.{pick_ind, split, clash}
use Rattle.frame.specs.declared.format.Size.{Size}
use Rattle.frame.specs.declared.format.Size.TheVariants.{Five, Six, Seven, Eight, Nine}
use Rattle.frame.specs.declared.format.Parity.{Parity}
use Rattle.frame.specs.declared.format.Parity.TheVariants.{Off, Even, Odd}
use Rattle.frame.specs.declared.format.Format.{Format}
use Rattle.frame.specs.contracts.format.FormatPartialEq.TheImpl.{eq-value}
use Rattle.frame.specs.contracts.format.FormatEq.TheImpl.Laws.{laws-law}
use Rattle.frame.specs.contracts.format.Size as size
use Rattle.frame.specs.contracts.format.Parity as parity
use denote.Enum.Bare.{same_true}
use Rattle.usart.specs.Settings.{code_of, size_of, upm_of, parity_of, settings_of}

pub code_lt : (z : Size) → code_of z < 8
code_lt Five = omega arith
code_lt Six = omega arith
code_lt Seven = omega arith
code_lt Eight = omega arith
code_lt Nine = omega arith

pub upm-lt : (p : Parity) → upm_of p < 4
upm-lt Off = omega arith
upm-lt Even = omega arith
upm-lt Odd = omega arith

pub upm-again : (n : ℕ) → n < 4 → eqb n 1 ≡ false → upm_of (parity_of n) ≡ n
unfolding parity_of
upm-again zero h e = refl
upm-again (suc zero) h e = clash refl e
upm-again (suc (suc zero)) h e = refl
upm-again (suc (suc (suc zero))) h e = refl
upm-again (suc (suc (suc (suc n)))) h e = absurd (omega arith)

-- a known size has the code that it was had from
abbrev pub Codes : ℕ → Option Size → Type 0
Codes n (Some z) = code_of z ≡ n
Codes n None = Unit {0}

pub coded : (n : ℕ) → Codes n (size_of n)
unfolding size_of
coded n = by Five _ (by Six _ (by Seven _ (by Eight _ (by Nine None tt))))
  where
    by : (z : Size) (k : Option Size) → Codes n k → Codes n (pick (eqb n (code_of z)) (Some z) k)
    by z k h = pick_ind (Codes n) (eqb n (code_of z)) (Some z) k (λ e. sym (eqb-true n (code_of z) e)) (λ e. h)

-- the settings are one number of bits: two are the same when each field is
pub record Same (f g : Format) : Type 0 where
  pub size : code_of f.size ≡ code_of g.size
  pub usbs : digit f.usbs ≡ digit g.usbs
  pub parity : upm_of f.parity ≡ upm_of g.parity
  pub u2x : digit f.u2x ≡ digit g.u2x

parts : (c d s t p q x y : ℕ) → c < 8 → d < 8 → s ≤ 1 → t ≤ 1 → p < 4 → q < 4
    → c + s * 8 + p * 16 + x * 64 ≡ d + t * 8 + q * 16 + y * 64 → (c ≡ d) × ((s ≡ t) × ((p ≡ q) × (x ≡ y)))
parts c d s t p q x y hc hd hs ht hp hq e = (omega arith, (omega arith, (omega arith, omega arith)))

pub same-settings : (f g : Format) → settings_of f ≡ settings_of g → Same f g
same-settings f g e =
    let p = parts _ _ _ _ _ _ _ _ (code_lt f.size) (code_lt g.size) (digit-le f.usbs) (digit-le g.usbs)
    (upm-lt f.parity) (upm-lt g.parity) e in
    record { size = p.0; usbs = p.1.0; parity = p.1.1.0; u2x = p.1.1.1 }

-- `==` of two formats is that of these numbers
size-again : (z : Size) → size_of (code_of z) ≡ Some z
unfolding size_of
size-again Five = refl
size-again Six = refl
size-again Seven = refl
size-again Eight = refl
size-again Nine = refl

parity-again : (p : Parity) → parity_of (upm_of p) ≡ p
unfolding parity_of
parity-again Off = refl
parity-again Even = refl
parity-again Odd = refl

digit-same : (a b : Bool) → digit a ≡ digit b → a ≡ b
digit-same true true e = refl
digit-same false false e = refl
digit-same true false e = absurd (omega arith)
digit-same false true e = absurd (omega arith)

of_fields : (f g : Format) → f.size ≡ g.size → f.parity ≡ g.parity → f.usbs ≡ g.usbs → f.u2x ≡ g.u2x → f ≡ g
of_fields f g z p b x =
    let of : Size → Parity → Bool → Bool → Format = λ s q a c. record { size = s; parity = q; usbs = a; u2x = c } in
    ap (λ (s : Size). of s f.parity f.usbs f.u2x) z ∙ ap (λ (q : Parity). of g.size q f.usbs f.u2x) p
    ∙ ap (λ (a : Bool). of g.size g.parity a f.u2x) b ∙ ap (λ (c : Bool). of g.size g.parity g.usbs c) x

one_format : (f g : Format) → settings_of f ≡ settings_of g → f ≡ g
one_format f g e =
    let s = same-settings f g e in
    let z : f.size ≡ g.size = cc (size-again f.size, size-again g.size, s.size) in
    let p : f.parity ≡ g.parity = cc (parity-again f.parity, parity-again g.parity, s.parity) in
    of_fields f g z p (digit-same f.usbs g.usbs s.usbs) (digit-same f.u2x g.u2x s.u2x)

and-both : (a b : Bool) → (a && b) ≡ true → (a ≡ true) × (b ≡ true)
and-both true b e = (refl, e)
and-both false b e = clash e refl

pub equal-format : (f g : Format) → eq-value.it f g ≡ true → f ≡ g
equal-format f g e =
    let z = and-both _ _ e in
    let p = and-both _ _ z.1 in
    let b = and-both _ _ p.1 in
    of_fields f g (same_true size.the_type (search rules) _ _ z.0) (same_true parity.the_type (search rules) _ _ p.0)
    (beq-true _ _ b.0) (beq-true _ _ b.1)
  where
    beq-true : (a b : Bool) → beq a b ≡ true → a ≡ b
    beq-true true true e = refl
    beq-true false false e = refl
    beq-true true false e = clash e refl
    beq-true false true e = clash e refl

pub settings-equal : (f g : Format) → eq-value.it f g ≡ eqb (settings_of f) (settings_of g)
settings-equal f g =
    split (eqb (settings_of f) (settings_of g))
    (λ e. rw (one_format f g (eqb-true (settings_of f) (settings_of g) e)) (laws-law.refl g ∙ sym (eq-eqb (settings_of g) (settings_of g) refl)))
    (λ e. split (eq-value.it f g)
    (λ t. clash (eq-eqb _ _ (ap settings_of (equal-format f g t))) e)
    (λ t. t ∙ sym e))
