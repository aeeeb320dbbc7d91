-- Noise on the wire, as the one-tick law carries it: only voting samples are turned over, at most one of a bit's three,
-- and never the last vote of the stop bit. Each bit that is hit is a split vote. Without noise every hit is `false`.
use mathlib.Core.Path.{◌≡◌, refl}
use mathlib.Core.Bool.{Bool, true, false}
use Prim.Native.Nat.{ℕ, ◌+◌, ◌-◌, ◌≤◌, ◌<◌}
use native.Mathlib.Omega.{arith}
use lib.Dec.{eqb, ltb}
use Rattle.choice.specs.Pick.{pick, digit}
use Rattle.choice.proofs.Picks.{pick_ind}
use Rattle.frame.specs.Format.{samples, first_vote, word_bits}
use Rattle.frame.specs.Vote.{vote_of}
use Rattle.frame.specs.declared.format.Format.{Format}
use Rattle.usart.specs.declared.sampler.Reception.{Reception}
use Rattle.usart.specs.declared.sampler.Sampler.{Sampler}
use Rattle.usart.specs.declared.sampler.Sampler.TheVariants.{Idle, Receiving}

-- a level turned over where it is hit
abbrev pub turn : Bool → Bool → Bool
turn false b = b
turn true true = false
turn true false = true

-- what noise has hit of the frame under way: votes of its present bit, and bits, this one among them
pub record Hits : Type 0 where
  pub votes : ℕ
  pub bits : ℕ

abbrev pub unhit : Hits
unhit = record { votes = 0; bits = 0 }

-- one more sample, hit or not
abbrev pub hit_by : Hits → Bool → Hits
hit_by e n = record { votes = e.votes + digit n; bits = e.bits + digit n }

-- .. of the next bit on
abbrev pub next_bit : Hits → Hits
next_bit e = record { votes = 0; bits = e.bits }

-- after a tick, where e were before and n says whether this sample is hit
abbrev pub hits : Format → Sampler → Hits → Bool → Hits
hits f (Idle last) e n = unhit
hits f (Receiving r) e n = pick (ltb r.sample.0 (samples f - 1)) (hit_by e n) (next_bit e)

pub record MayHit (f : Format) (r : Reception) (e : Hits) : Type 0 where
  pub none : e.votes ≡ 0
  pub from : first_vote f ≤ r.sample.0 + 1
  pub to : r.sample.0 ≤ first_vote f + 1
  pub stop : r.bit ≡ word_bits f + 1 → r.sample.0 ≤ first_vote f

abbrev pub Allowed : Format → Sampler → Hits → Bool → Type 0
Allowed f s e false = Unit {0}
Allowed f (Idle last) e true = ⊥
Allowed f (Receiving r) e true = MayHit f r e

module _ (f : Format) (r : Reception) (e : Hits) where
  pub hit-one : (n : Bool) → Allowed f (Receiving r) e n → e.votes ≤ 1 → e.votes + digit n ≤ 1
  hit-one false al o = omega arith
  hit-one true al o = omega (arith, al.none)

  pub hit-vote : (n : Bool) → Allowed f (Receiving r) e n → r.sample.0 + 1 < first_vote f → digit n ≡ 0
  hit-vote false al o = refl
  hit-vote true al o = omega (arith, al.from)

  pub hit-decided : (n : Bool) → Allowed f (Receiving r) e n → first_vote f + 2 ≤ r.sample.0 → digit n ≡ 0
  hit-decided false al o = refl
  hit-decided true al o = omega (arith, al.to)

  pub hit-stop : (n : Bool) → Allowed f (Receiving r) e n → r.bit ≡ word_bits f + 1 → r.sample.0 ≡ first_vote f + 1 → n ≡ false
  hit-stop false al o t = refl
  hit-stop true al o t = absurd (omega (arith, al.stop o))

pub hit-idle : (f : Format) (last : Bool) (e : Hits) (n w : Bool) → Allowed f (Idle last) e n → turn n w ≡ w
hit-idle f last e false w al = refl
hit-idle f last e true w al = absurd al

-- 1 where two levels differ
abbrev pub differs : Bool → Bool → ℕ
differs true true = 0
differs true false = 1
differs false true = 1
differs false false = 0

pub differs-turn : (B n l : Bool) → l ≡ turn n B → differs B l ≡ digit n
differs-turn true true l e = rw e
differs-turn true false l e = rw e
differs-turn false true l e = rw e
differs-turn false false l e = rw e

-- without noise nothing is hit
pub quiet-bits : (f : Format) (p : Sampler) (e : Hits) → e.bits ≡ 0 → (hits f p e false).bits ≡ 0
quiet-bits f (Idle last) e h = refl
quiet-bits f (Receiving r) e h =
    pick_ind (λ (x : Hits). x.bits ≡ 0) (ltb r.sample.0 (samples f - 1)) _ _ (λ _. omega arith) (λ _. h)

-- at most one of three votes is wrong, so the majority is right, and it is unanimous where none is
pub vote-right : (B a b c : Bool) → differs B a + differs B b + differs B c ≤ 1
    → vote_of a b c ≡ record { level = B; unanimous = eqb (differs B a + differs B b + differs B c) 0 }
vote-right true true true true h = refl
vote-right true true true false h = refl
vote-right true true false true h = refl
vote-right true true false false h = absurd (omega arith)
vote-right true false true true h = refl
vote-right true false true false h = absurd (omega arith)
vote-right true false false true h = absurd (omega arith)
vote-right true false false false h = absurd (omega arith)
vote-right false true true true h = absurd (omega arith)
vote-right false true true false h = absurd (omega arith)
vote-right false true false true h = absurd (omega arith)
vote-right false true false false h = refl
vote-right false false true true h = absurd (omega arith)
vote-right false false true false h = refl
vote-right false false false true h = refl
vote-right false false false false h = refl
