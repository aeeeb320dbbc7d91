-- The ticks of the baud clock by number: where the next one is, and that `tick_from` is the first clock from another on
-- at which the baud clock ticks.
use mathlib.Core.Path.{◌≡◌, refl, ap}
use mathlib.Core.Bool.{true, false}
use mathlib.Core.List.{[], ◌∷◌}
use Prim.Native.Nat.{ℕ, zero, suc, ◌+◌, ◌-◌, ◌*◌, ◌/◌, ◌≤◌, ◌<◌}
use native.Mathlib.Nat.{div-eq_of_lt-le, lt-mul-div-succ, div-lt_iff_lt-mul, mul-le-mul_right}
use native.Mathlib.Decide.{dec_lt}
use native.Mathlib.Omega.{arith}
use borrow.Author.Tests.{eq-eqb, ne_eqb}
use Rattle.std.proofs.Common.{None, Some}
use Rattle.frame.specs.declared.format.Size.TheVariants.{Five}
use Rattle.frame.specs.declared.format.Parity.TheVariants.{Off}
use Rattle.usart.specs.Baud.{ticks, left_of, baud_of}
use Rattle.usart.specs.Receiver.{stopped}
use Rattle.usart.specs.Sending.{taken_at, tick_from, frames_of}
use Rattle.usart.specs.declared.baud.Baud.{Baud}

module _ (b : Baud) where
  abbrev M : ℕ
  M = b.ubrr + 1

  -- with n ticks given and k in the counter before clock j the next tick is at clock j + k; after a tick the counter is
  -- not above UBRR
  pub record Phase (j k : ℕ) : Type 0 where
    pub given : ℕ
    pub next : j + k ≡ b.left.0 + given * M
    pub counter : 1 ≤ given → k ≤ b.ubrr

  -- tick n is the first from clock i on
  pub tick_is : (n i : ℕ) → i ≤ b.left.0 + n * M → (1 ≤ n → b.left.0 + n * M < i + M) → tick_from b i ≡ b.left.0 + n * M
  unfolding tick_from
  tick_is n i h g = ap (λ (q : ℕ). b.left.0 + q * M) (by n h g)
    where
      by : (n : ℕ) → i ≤ b.left.0 + n * M → (1 ≤ n → b.left.0 + n * M < i + M) → (i - b.left.0 + b.ubrr) / M ≡ n
      by zero h g = div-eq_of_lt-le M (omega arith) (omega arith)
      by (suc m) h g = let z : b.left.0 + suc m * M < i + M = g (omega arith) in div-eq_of_lt-le M (omega arith) (omega arith)

  -- until the next tick
  pub tick-next : (j k i : ℕ) → Phase j k → j ≤ i → i ≤ j + k → tick_from b i ≡ j + k
  tick-next j k i p lo hi =
      let e : tick_from b i ≡ b.left.0 + p.given * M = tick_is p.given i (omega (arith, p.next)) (λ g. omega (arith, p.next, p.counter g)) in
      omega (arith, p.next)

  -- `tick_from` is a tick, not before clock i, and the first such
  pub tick-at : (i : ℕ) → (n : ℕ) × (tick_from b i ≡ b.left.0 + n * M)
  unfolding tick_from
  tick-at i = ((i - b.left.0 + b.ubrr) / M, refl)

  pub tick-from : (i : ℕ) → i ≤ tick_from b i
  unfolding tick_from
  tick-from i =
      let h : i - b.left.0 + b.ubrr < M * ((i - b.left.0 + b.ubrr) / M + 1) = lt-mul-div-succ (i - b.left.0 + b.ubrr) (omega arith) in
      omega arith

  pub tick-first : (i n : ℕ) → i ≤ b.left.0 + n * M → tick_from b i ≤ b.left.0 + n * M
  unfolding tick_from
  tick-first i n h =
      let q : ℕ = (i - b.left.0 + b.ubrr) / M in
      let l : q < n + 1 = (div-lt_iff_lt-mul {k = M} (omega arith)).1 (omega arith) in
      let m : q * M ≤ n * M = mul-le-mul_right M (omega arith) in
      omega arith

  -- at first, after a tick and after a clock without one
  pub phase-first : Phase 0 b.left.0
  phase-first = record { given = 0; next = omega arith; counter = λ h. absurd (omega arith) }

  pub phase-tick : (j : ℕ) → Phase j 0 → Phase (suc j) b.ubrr
  phase-tick j p = record { given = suc p.given; next = omega (arith, p.next); counter = λ h. omega arith }

  pub phase-wait : (j k : ℕ) → Phase j (suc k) → Phase (suc j) k
  phase-wait j k p = record { given = p.given; next = omega (arith, p.next); counter = λ h. omega (arith, p.counter h) }

  -- the baud clock after n clocks, by its own rule
  abbrev pub after : ℕ → Baud
  after zero = b
  after (suc n) = baud_of (after n)

  -- what it says of the clock n: UBRR stays, and the counter is where the ticks have it
  record Counts (n : ℕ) (c : Baud) : Type 0 where
    rate : c.ubrr ≡ b.ubrr
    phase : Phase n c.left.0

  counts-on : (n : ℕ) (c : Baud) → Counts n c → Counts (suc n) (baud_of c)
  unfolding left_of
  counts-on n c i = by c.left.0 refl
    where
      by : (k : ℕ) → c.left.0 ≡ k → Counts (suc n) (baud_of c)
      by zero e = record { rate = i.rate; phase = rw (eq-eqb c.left.0 0 e, i.rate) (phase-tick n (rw e at i.phase)) }
      by (suc k) e =
          let one : c.left.0 - 1 ≡ k = omega arith in
          record { rate = i.rate; phase = rw (ne_eqb c.left.0 0 (λ q. omega arith), one) (phase-wait n k (rw e at i.phase)) }

  counts : (n : ℕ) → Counts n (after n)
  counts zero = record { rate = refl; phase = phase-first }
  counts (suc n) = counts-on n (after n) (counts n)

  -- `tick_from` is a clock at which it ticks, and none from clock i on is sooner
  pub ticks-then : (i : ℕ) → ticks (after (tick_from b i)) ≡ true
  ticks-then i =
      let j : ℕ = tick_from b i in
      let k : ℕ = (after j).left.0 in
      let at = tick-at i in
      let p = (counts j).phase in
      let less : p.given ≤ at.0 → k ≡ 0 = λ h. let m : p.given * M ≤ at.0 * M = mul-le-mul_right M h in omega (arith, p.next, at.1) in
      let more : at.0 + 1 ≤ p.given → k ≡ 0 =
      λ h. let m : (at.0 + 1) * M ≤ p.given * M = mul-le-mul_right M h in absurd (omega (arith, p.next, at.1, p.counter (omega arith))) in
      eq-eqb k 0 (elim (dec_lt at.0 p.given) [ yes h ↦ more (omega arith) | no h ↦ less (omega arith) ])

  pub ticks-not-before : (i j : ℕ) → i ≤ j → j < tick_from b i → ticks (after j) ≡ false
  ticks-not-before i j h g =
      ne_eqb (after j).left.0 0
      (λ e. let p = (counts j).phase in
      let f : tick_from b i ≤ b.left.0 + p.given * M = tick-first i p.given (omega (arith, p.next)) in
      omega (arith, p.next))

-- UBRR 2, and the counter 7 at first; 5 data bits, 2 stop bits and double speed, so that a frame is 192 clocks. 21 is
-- in the buffer at first, 10 is taken while it is on the line, and 3 when the shifter has been at rest
example : frames_of (record {
  baud = record { ubrr = 2; left = record { 0 = 7 } };
  format = record { size = Five; parity = Off; usbs = true; u2x = true };
  control = record { rxcie = false; txcie = false; udrie = false; rxen = false; txen = true; txb8 = false };
  sender = record { buffer = Some 21; shifter = None; txc = false };
  receiver = stopped;
}) (taken_at 8 10 ∷ taken_at 395 3 ∷ []) ≡ record { start = 7; «data» = 21 } ∷ record { start = 199; «data» = 10 } ∷ record { start = 397; «data» = 3 } ∷ []
unfolding tick_from
example = refl
