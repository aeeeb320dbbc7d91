-- Bytes that hold several bits: each bit is had again from their sum, and a byte is the sum of its bits. Assumes
-- nothing.
use Prim.Native.Nat.{ℕ, zero, suc, ◌+◌, ◌*◌, ◌/◌, ◌%◌, ◌<◌, ◌≤◌}
use mathlib.Core.Bool.{Bool, true, false}
use mathlib.Core.Path.{◌≡◌, refl, sym, ap, ◌∙◌}
use mathlib.Core.Logic.{⊎_elim}
use native.Mathlib.Nat.{eq-or-lt_of_le, div-one}
use native.Mathlib.Omega.{arith}
use lib.Dec.{eqb}
use borrow.Author.Tests.{eqb-true, eq-eqb}
use Rattle.std.proofs.Common.{None, Option, Some}
use Rattle.choice.specs.Bit.{is_set}
use Rattle.choice.specs.Pick.{pick, digit}
use Rattle.choice.proofs.Digits.{digit-le, digit-is, digit-odd}
use Rattle.choice.proofs.Picks.{pick_true, both, clash}
use Rattle.frame.specs.declared.format.Format.{Format}
use Rattle.usart.specs.Settings.{code_of, size_of, is_known, upm_of, parity_of}
use Rattle.usart.specs.declared.queue.Frame.{Frame}
use Rattle.usart.specs.declared.unit.Control.{Control}
use Rattle.usart.specs.Write.{control_in}
use Rattle.usart.proofs.SettingsLaws.{code_lt, upm-lt, upm-again, Codes, coded}
use Rattle.record.specs.Layout.{low}
use Rattle.record.specs.Codes.{size_code, size_in, known_size, marks_of, frame_from}
use Rattle.record.specs.Image.{ucsr0a, ucsr0b, ucsr0c}
use Rattle.record.specs.Lift.{format_of, control_of}
use Rattle.record.proofs.CodeLaws.{size-again, parity-again}
use Rattle.frame.specs.declared.format.Size.{Size}

-- a digit says which
set-again : (n : ℕ) (b : Bool) → n ≡ digit b → eqb n 1 ≡ b
set-again n b h = ap (λ (x : ℕ). eqb x 1) h ∙ digit-is b

-- the settings that a write makes of a byte are those that a record's byte holds
pub control_same : (b : ℕ) → control_in b ≡ control_of b
control_same b =
    ap (λ (n : ℕ). record {
      rxcie = is_set b 128;
      txcie = is_set b 64;
      udrie = is_set b 32;
      rxen = is_set b 16;
      txen = is_set b 8;
      txb8 = eqb (n % 2) 1;
    })
    (sym (div-one b))

-- a test that all numbers below n pass, and what it says of each
abbrev below : ℕ → (ℕ → Bool) → Bool
below zero t = true
below (suc n) t = pick (t n) (below n t) false

passes : (t : ℕ → Bool) (n : ℕ) → below n t ≡ true → (i : ℕ) → i < n → t i ≡ true
passes t zero h i l = absurd (omega arith)
passes t (suc n) h i l =
    let p = both (t n) (below n t) h in
    ⊎_elim (λ e. ap t e ∙ p.0) (λ k. passes t n p.1 i k) (eq-or-lt_of_le (let k : i ≤ n = omega arith in k))

-- the sum of some bits of a number is the number, if the other bits are not set
abbrev sums : (ℕ → Bool) → (ℕ → ℕ) → ℕ → Bool
sums ok sum n = pick (ok n) (eqb (sum n) n) true

summed : (ok : ℕ → Bool) (sum : ℕ → ℕ) (n : ℕ) → sums ok sum n ≡ true → ok n ≡ true → sum n ≡ n
summed ok sum n h k = eqb-true (sum n) n (ap (λ (b : Bool). pick b (eqb (sum n) n) true) (sym k) ∙ h)

-- UCSR0A of TXC and U2X

record ABits (a t u : ℕ) : Type 0 where
  txc : a / 64 % 2 ≡ t
  u2x : a / 2 % 2 ≡ u
  mpcm : a % 2 ≡ 0
  others : a / 4 % 16 ≡ 0

a-bits : (t u : ℕ) → t ≤ 1 → u ≤ 1 → ABits (t * 64 + u * 2) t u
a-bits t u ht hu = record { txc = omega arith; u2x = omega arith; mpcm = omega arith; others = omega arith }

abbrev a_clear : ℕ → Bool
a_clear a = pick (eqb (a % 2) 0) (eqb (a / 4 % 16) 0) false

abbrev a_sum : ℕ → ℕ
a_sum a = a / 64 % 2 * 64 + a / 2 % 2 * 2

a_sum_lem : (a : ℕ) → a ≤ 66 → a % 2 ≡ 0 → a / 4 % 16 ≡ 0 → a_sum a ≡ a
a_sum_lem a h e k =
    summed a_clear a_sum a (passes (sums a_clear a_sum) 67 refl a (omega arith))
    (sym (pick_true _ _ _ _ (eq-eqb (a % 2) 0 e) (sym (eq-eqb (a / 4 % 16) 0 k))))

-- UCSR0B

record BBits (b r t u e x z n : ℕ) : Type 0 where
  rxcie : b / 128 % 2 ≡ r
  txcie : b / 64 % 2 ≡ t
  udrie : b / 32 % 2 ≡ u
  rxen : b / 16 % 2 ≡ e
  txen : b / 8 % 2 ≡ x
  ucsz2 : b / 4 % 2 ≡ z
  rxb8 : b / 2 % 2 ≡ 0
  txb8 : b / 1 % 2 ≡ n

b-bits : (r t u e x z n : ℕ) → r ≤ 1 → t ≤ 1 → u ≤ 1 → e ≤ 1 → x ≤ 1 → z ≤ 1 → n ≤ 1
    → BBits (r * 128 + t * 64 + u * 32 + e * 16 + x * 8 + z * 4 + n) r t u e x z n
b-bits r t u e x z n h1 h2 h3 h4 h5 h6 h7 = record {
  rxcie = omega arith;
  txcie = omega arith;
  udrie = omega arith;
  rxen = omega arith;
  txen = omega arith;
  ucsz2 = omega arith;
  rxb8 = omega arith;
  txb8 = omega arith;
}

abbrev b_clear : ℕ → Bool
b_clear b = eqb (b / 2 % 2) 0

abbrev b_sum : ℕ → ℕ
b_sum b = b / 128 % 2 * 128 + b / 64 % 2 * 64 + b / 32 % 2 * 32 + b / 16 % 2 * 16 + b / 8 % 2 * 8 + b / 4 % 2 * 4 + b / 1 % 2

b-sum : (b : ℕ) → b < 256 → b / 2 % 2 ≡ 0 → b_sum b ≡ b
b-sum b h e = summed b_clear b_sum b (passes (sums b_clear b_sum) 256 refl b h) (eq-eqb (b / 2 % 2) 0 e)

-- UCSR0C

record CBits (c p s z : ℕ) : Type 0 where
  upm : c / 16 % 4 ≡ p
  usbs : c / 8 % 2 ≡ s
  ucsz : c / 2 % 4 ≡ z
  ucpol : c % 2 ≡ 0

c-bits : (p s z : ℕ) → p < 4 → s ≤ 1 → z < 4 → CBits (p * 16 + s * 8 + z * 2) p s z
c-bits p s z hp hs hz = record { upm = omega arith; usbs = omega arith; ucsz = omega arith; ucpol = omega arith }

abbrev c_clear : ℕ → Bool
c_clear c = eqb (c % 2) 0

abbrev c_sum : ℕ → ℕ
c_sum c = c / 16 % 4 * 16 + c / 8 % 2 * 8 + c / 2 % 4 * 2

c-sum : (c : ℕ) → c ≤ 62 → c % 2 ≡ 0 → c_sum c ≡ c
c-sum c h e = summed c_clear c_sum c (passes (sums c_clear c_sum) 63 refl c (omega arith)) (eq-eqb (c % 2) 0 e)

-- a frame's marks

record MarkBits (m n u d f : ℕ) : Type 0 where
  ninth : m % 2 ≡ n
  upe : m / 2 % 2 ≡ u
  dor : m / 4 % 2 ≡ d
  fe : m / 8 % 2 ≡ f

mark-bits : (n u d f : ℕ) → n ≤ 1 → u ≤ 1 → d ≤ 1 → f ≤ 1 → MarkBits (n + u * 2 + d * 4 + f * 8) n u d f
mark-bits n u d f h1 h2 h3 h4 = record { ninth = omega arith; upe = omega arith; dor = omega arith; fe = omega arith }

abbrev mark_sum : ℕ → ℕ
mark_sum m = m % 2 + m / 2 % 2 * 2 + m / 4 % 2 * 4 + m / 8 % 2 * 8

mark-sum : (m : ℕ) → m ≤ 15 → mark_sum m ≡ m
mark-sum m h = summed (λ _. true) mark_sum m (passes (sums (λ _. true) mark_sum) 16 refl m (omega arith)) refl

-- the registers of a format and a control, and these again

module _ (f : Format) (k : Control) (txc : Bool) where
  a : ABits (ucsr0a f txc) (digit txc) (digit f.u2x)
  a = a-bits _ _ (digit-le txc) (digit-le f.u2x)

  b : BBits (ucsr0b f k) (digit k.rxcie) (digit k.txcie) (digit k.udrie) (digit k.rxen) (digit k.txen) (code_of f.size / 4) (digit k.txb8)
  b =
      b-bits _ _ _ _ _ _ _ (digit-le k.rxcie) (digit-le k.txcie) (digit-le k.udrie) (digit-le k.rxen) (digit-le k.txen)
      (let h = code_lt f.size in omega arith) (digit-le k.txb8)

  c : CBits (ucsr0c f) (upm_of f.parity) (digit f.usbs) (code_of f.size % 4)
  c = c-bits _ _ _ (upm-lt f.parity) (digit-le f.usbs) (omega arith)

  pub code-again : size_code (ucsr0b f k) (ucsr0c f) ≡ code_of f.size
  code-again = let z = b.ucsz2 in let y = c.ucsz in omega arith

  pub txc-again : is_set (ucsr0a f txc) 64 ≡ txc
  txc-again = set-again (ucsr0a f txc / 64 % 2) txc a.txc

  pub format-again : format_of (ucsr0a f txc) (ucsr0b f k) (ucsr0c f) ≡ f
  format-again =
      rw (
        ap known_size code-again ∙ size-again f.size,
        ap parity_of c.upm ∙ parity-again f.parity,
        set-again (ucsr0c f / 8 % 2) f.usbs c.usbs,
        set-again (ucsr0a f txc / 2 % 2) f.u2x a.u2x,
      )

  pub control-again : control_of (ucsr0b f k) ≡ k
  control-again =
      rw (
        set-again (ucsr0b f k / 128 % 2) k.rxcie b.rxcie,
        set-again (ucsr0b f k / 64 % 2) k.txcie b.txcie,
        set-again (ucsr0b f k / 32 % 2) k.udrie b.udrie,
        set-again (ucsr0b f k / 16 % 2) k.rxen b.rxen,
        set-again (ucsr0b f k / 8 % 2) k.txen b.txen,
        set-again (ucsr0b f k / 1 % 2) k.txb8 b.txb8,
      )

  -- no bits but the settings', and no reserved one
  pub none-else : (ucsr0a f txc % 2 ≡ 0) × ((ucsr0a f txc / 4 % 16 ≡ 0) × ((ucsr0b f k / 2 % 2 ≡ 0) × ((ucsr0c f % 2 ≡ 0) × (ucsr0c f / 16 % 4 ≡ upm_of f.parity))))
  none-else = (a.mpcm, (a.others, (b.rxb8, (c.ucpol, c.upm))))

-- a held frame

pub marks-lt : (x : Frame) → marks_of x ≤ 15
marks-lt x = let u = digit-le x.upe in let d = digit-le x.dor in let f = digit-le x.fe in omega arith

pub frame-again : (x : Frame) → x.«data» < 512 → frame_from (low x.«data») (marks_of x) x.splits ≡ x
frame-again x h =
    let m : MarkBits (marks_of x) (x.«data» / 256 % 2) (digit x.upe) (digit x.dor) (digit x.fe) =
    mark-bits _ _ _ _ (omega arith) (digit-le x.upe) (digit-le x.dor) (digit-le x.fe) in
    let e : low x.«data» + 256 * (marks_of x % 2) ≡ x.«data» = let n = m.ninth in omega arith in
    rw (
      e,
      set-again (marks_of x / 8 % 2) x.fe m.fe,
      set-again (marks_of x / 2 % 2) x.upe m.upe,
      set-again (marks_of x / 4 % 2) x.dor m.dor,
    )

-- and bytes again from what they say

known-code : (n : ℕ) (z : Option Size) → Codes n z → is_known z ≡ true → code_of (size_in z) ≡ n
known-code n (Some z) h k = h
known-code n None h k = clash k refl

module _ (x y z : ℕ) (known : is_known (size_of (size_code y z)) ≡ true) where
  abbrev code : ℕ
  code = code_of (known_size (size_code y z))

  code_is : code ≡ size_code y z
  code_is = known-code (size_code y z) (size_of (size_code y z)) (coded (size_code y z)) known

  pub a_again : x ≤ 66 → x % 2 ≡ 0 → x / 4 % 16 ≡ 0 → ucsr0a (format_of x y z) (is_set x 64) ≡ x
  a_again h e k = rw (digit-odd (x / 64), digit-odd (x / 2)) (a_sum_lem x h e k)

  pub b-again : y < 256 → y / 2 % 2 ≡ 0 → ucsr0b (format_of x y z) (control_of y) ≡ y
  b-again h e =
      let n : code / 4 ≡ y / 4 % 2 = let q = code_is in omega arith in
      rw (digit-odd (y / 128), digit-odd (y / 64), digit-odd (y / 32), digit-odd (y / 16), digit-odd (y / 8), digit-odd (y / 1), n) (b-sum y h e)

  pub c-again : z ≤ 62 → z % 2 ≡ 0 → eqb (z / 16 % 4) 1 ≡ false → ucsr0c (format_of x y z) ≡ z
  c-again h e k =
      let n : code % 4 ≡ z / 2 % 4 = let q = code_is in omega arith in
      rw (upm-again (z / 16 % 4) (omega arith) k, digit-odd (z / 8), n) (c-sum z h e)

pub marks-again : (l m c : ℕ) → l < 256 → m ≤ 15 → (low (frame_from l m c).«data» ≡ l) × (marks_of (frame_from l m c) ≡ m)
marks-again l m c h k =
    let n : (l + 256 * (m % 2)) / 256 % 2 ≡ m % 2 = omega arith in
    (omega arith, rw (n, digit-odd (m / 2), digit-odd (m / 4), digit-odd (m / 8)) (mark-sum m k))
