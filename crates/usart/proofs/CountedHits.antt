-- The split votes of a frame under way are the bits of it that noise has hit, each from its last vote on.
use Prim.Native.Nat.{ℕ, ◌+◌, ◌≤◌, ◌<◌}
use mathlib.Core.Bool.{Bool, true, false}
use mathlib.Core.Path.{◌≡◌, ◌∙◌}
use native.Mathlib.Decide.{dec_lt}
use native.Mathlib.Omega.{arith}
use lib.Dec.{eqb}
use borrow.Author.Tests.{ne_eqb}
use Rattle.choice.specs.Pick.{digit}
use Rattle.frame.specs.Format.{first_vote, word_bits}
use Rattle.frame.specs.declared.format.Format.{Format}
use Rattle.usart.specs.Sampler.{most_votes, tally_of}
use Rattle.usart.specs.Valid.{voted_bits}
use Rattle.usart.specs.declared.sampler.Reception.{Reception}
use Rattle.usart.specs.declared.sampler.Sampler.TheVariants.{Receiving}
use Rattle.usart.proofs.TallyLaws.{tally-digit, voted-before, voted-after, below-most}
use Rattle.usart.proofs.Noise.{Hits, hit_by, next_bit, Allowed, hit-decided}

pub record Counts (f : Format) (r : Reception) (e : Hits) : Type 0 where
  pub few : r.splits ≤ voted_bits f r
  pub undecided : r.sample.0 ≤ first_vote f + 1 → r.splits + e.votes ≡ e.bits
  pub decided : first_vote f + 2 ≤ r.sample.0 → r.splits ≡ e.bits

-- a split vote for each hit, of which there is one at most
tally-hit : (n k : ℕ) → k ≤ 1 → n < most_votes → tally_of n (eqb k 0) ≡ n + k
tally-hit n k h l = elim (dec_lt 0 k) [
  | yes p ↦ let e : eqb k 0 ≡ false = ne_eqb k 0 (λ q. omega arith) in rw e (tally-digit n false l ∙ omega arith)
  | no p ↦ let e : k ≡ 0 = omega arith in rw e (tally-digit n true l)
]

-- from r to q, by one sample
module _ (f : Format) (r q : Reception) (e : Hits) (i : Counts f r e) where
  -- .. of the same bit, not its last vote
  pub counts-plain : (n : Bool) → Allowed f (Receiving r) e n → (r.sample.0 + 1 ≡ first_vote f + 2 → ⊥) → q.bit ≡ r.bit
      → q.sample.0 ≡ r.sample.0 + 1 → q.splits ≡ r.splits → Counts f q (hit_by e n)
  counts-plain n al o eb es ec = elim (dec_lt r.sample.0 (first_vote f + 2)) [
    | yes p ↦
        record {
          few = omega (arith, voted-before f q (omega arith), voted-before f r p, i.few);
          undecided = λ _. omega (arith, i.undecided (omega arith));
          decided = λ t. absurd (omega arith);
        }
    | no p ↦
        record {
          few = omega (arith, voted-after f q (omega arith), voted-after f r (omega arith), i.few);
          undecided = λ t. absurd (omega arith);
          decided = λ _. omega (arith, i.decided (omega arith), hit-decided f r e n al (omega arith));
        }
  ]

  -- .. which is its last vote, and counted
  pub counts-vote : (n : Bool) → r.bit ≤ word_bits f + 1 → r.sample.0 ≡ first_vote f + 1 → e.votes + digit n ≤ 1 → q.bit ≡ r.bit
      → q.sample.0 ≡ r.sample.0 + 1 → q.splits ≡ tally_of r.splits (eqb (e.votes + digit n) 0) → Counts f q (hit_by e n)
  counts-vote n b s one eb es ec =
      let t = ec ∙ tally-hit r.splits (e.votes + digit n) one (below-most f r b (omega arith) i.few) in
      record {
        few = omega (arith, t, voted-after f q (omega arith), voted-before f r (omega arith), i.few);
        undecided = λ t. absurd (omega arith);
        decided = λ _. omega (arith, t, i.undecided (omega arith));
      }

  -- .. to the next bit
  pub counts-next : first_vote f + 2 ≤ r.sample.0 → q.bit ≡ r.bit + 1 → q.sample.0 ≡ 0 → q.splits ≡ r.splits → Counts f q (next_bit e)
  counts-next s eb es ec =
      record {
        few = omega (arith, voted-before f q (omega arith), voted-after f r s, i.few);
        undecided = λ _. omega (arith, i.decided s);
        decided = λ t. absurd (omega arith);
      }
