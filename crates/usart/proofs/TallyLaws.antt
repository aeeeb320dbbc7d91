-- The count of split votes (document 02, M-101): each vote adds one at most, so no frame has more than bits decided.
use Prim.Native.Nat.{ℕ, ◌+◌, ◌≤◌, ◌<◌}
use mathlib.Core.Bool.{Bool, true, false, not}
use mathlib.Core.Path.{◌≡◌}
use native.Mathlib.Decide.{dec_lt}
use native.Mathlib.Omega.{arith}
use borrow.Author.Tests.{lt-ltb, le-ltb}
use Rattle.choice.specs.Pick.{digit}
use Rattle.frame.specs.Format.{first_vote, word_bits}
use Rattle.frame.specs.declared.format.Format.{Format}
use Rattle.frame.proofs.FormatLaws.{word-bits-range}
use Rattle.usart.specs.Sampler.{most_votes, tally_of}
use Rattle.usart.specs.Valid.{voted_bits}
use Rattle.usart.specs.declared.sampler.Reception.{Reception}

-- below the limit a split vote is one more
pub tally-digit : (n : ℕ) (unanimous : Bool) → n < most_votes → tally_of n unanimous ≡ n + digit (not unanimous)
unfolding tally_of
tally-digit n true h = omega arith
tally-digit n false h = rw (lt-ltb n most_votes h)

module _ (f : Format) (r : Reception) where
  pub voted-before : r.sample.0 < first_vote f + 2 → voted_bits f r ≡ r.bit
  voted-before h = rw (lt-ltb r.sample.0 (first_vote f + 2) h)

  pub voted-after : first_vote f + 2 ≤ r.sample.0 → voted_bits f r ≡ r.bit + 1
  voted-after h = rw (le-ltb r.sample.0 (first_vote f + 2) h)

  -- a sample that is not its bit's last vote decides none, nor does the step to the next bit
  pub voted-on : (q : Reception) → q.bit ≡ r.bit → q.sample.0 ≡ r.sample.0 + 1 → (r.sample.0 + 1 ≡ first_vote f + 2 → ⊥)
      → voted_bits f q ≡ voted_bits f r
  voted-on q eb es n = elim (dec_lt r.sample.0 (first_vote f + 2)) [
    | yes l ↦ rw (lt-ltb q.sample.0 (first_vote f + 2) (omega arith), lt-ltb r.sample.0 (first_vote f + 2) l) eb
    | no l ↦
        rw (le-ltb q.sample.0 (first_vote f + 2) (omega arith), le-ltb r.sample.0 (first_vote f + 2) (omega arith)) (omega arith)
  ]

  -- a vote that is still to come is counted: `tally_of` does not meet its limit
  pub below-most : r.bit ≤ word_bits f + 1 → r.sample.0 < first_vote f + 2 → r.splits ≤ voted_bits f r → r.splits < most_votes
  below-most b h l = omega (arith, voted-before h, word-bits-range f)
