-- Every sample keeps the ranges of the sampler, and a frame that completes has no more split votes than votes.
use mathlib.Core.Path.{◌≡◌, refl, sym, ◌∙◌}
use mathlib.Core.Bool.{Bool, true, false, not}
use Prim.Native.Nat.{ℕ, ◌+◌, ◌-◌, ◌%◌, ◌^◌, ◌≤◌, ◌<◌}
use native.Mathlib.Nat.{zero-mod}
use native.Mathlib.Omega.{arith}
use lib.Dec.{eqb, ltb, leb, lit≤}
use lib.Pow.{pow_pos}
use borrow.Author.Tests.{eqb-true, eqb-false, ltb-true, ltb-false, leb-true, lt-ltb, le-ltb}
use Rattle.choice.proofs.Digits.{digit-le}
use Rattle.choice.proofs.Picks.{pick_ind, split, clash}
use Rattle.frame.specs.Format.{samples, first_vote, word_bits}
use Rattle.frame.specs.Vote.{vote_of}
use Rattle.frame.specs.declared.format.Format.{Format}
use Rattle.frame.specs.declared.vote.Vote.{Vote}
use Rattle.frame.proofs.FormatLaws.{samples-half, samples-range, first-vote-range, word-bits-range}
use Rattle.usart.specs.Sampler.{still, idle_of, cast_at, cast_of, next_bit_of, with_word, most_votes, tally_of, spent_of, decided_of}
use Rattle.usart.specs.Sampler.{voted_of, sampled_of, sampler_of}
use Rattle.usart.specs.Valid.{ValidReception, ValidSampler}
use Rattle.usart.specs.declared.sample.Sample.{Sample}
use Rattle.usart.specs.declared.sampler.Reception.{Reception}
use Rattle.usart.specs.declared.sampler.Sampler.{Sampler}
use Rattle.usart.specs.declared.sampler.Sampler.TheVariants.{Idle, Receiving}
use Rattle.usart.specs.declared.sampler.Outcome.{Outcome}
use Rattle.usart.specs.declared.sampler.Outcome.TheVariants.{Nothing, Started, Complete}
use Rattle.usart.specs.declared.sampler.Sampled.{Sampled}
use Rattle.usart.proofs.ShiftLaws.{shift-digit, shift-lt, rest-start, rest-shifted}
use Rattle.usart.proofs.TallyLaws.{tally-digit, voted-before, below-most}

-- a count that goes on by one, not to v, stays below v or not
same-side : (n v : ℕ) → (n + 1 ≡ v → ⊥) → ltb (n + 1) v ≡ ltb n v
same-side n v o = split (ltb n v)
    (λ e. lt-ltb (n + 1) v (omega (arith, ltb-true n v e, o)) ∙ sym e)
    (λ e. le-ltb (n + 1) v (omega (arith, ltb-false n v e)) ∙ sym e)

-- the range of what a sample leads to
abbrev pub ValidOutcome : Outcome → Type 0
ValidOutcome Nothing = Unit {0}
ValidOutcome Started = Unit {0}
ValidOutcome (Complete word stop splits) = splits ≤ most_votes

pub record ValidSampled (f : Format) (o : Sampled) : Type 0 where
  pub sampler : ValidSampler f o.sampler
  pub outcome : ValidOutcome o.outcome

module _ (f : Format) where
  valid-still : (s : Sampler) → ValidSampler f s → ValidSampled f (still s)
  valid-still s v = record { sampler = v; outcome = tt }

  valid-idle : (last rxd : Bool) → ValidSampled f (idle_of last rxd)
  unfolding idle_of
  valid-idle true true = valid-still _ tt
  valid-idle true false = valid-still _ (record {
    word = pow_pos (word_bits f);
    bit = omega arith;
    sample = omega (arith, samples-range f);
    start = λ _. lit≤ tt;
    stop = λ z. absurd (omega arith);
    rest = zero-mod _;
    first = λ z. clash z refl;
    second = λ z. clash z refl;
    splits = omega arith;
  })
  valid-idle false rxd = valid-still _ tt

  -- the last sample of a bit is no sample of the stop bit
  valid-next : (r : Reception) → ValidReception f r → samples f ≤ r.sample.0 + 1 → ValidReception f (next_bit_of f r)
  unfolding next_bit_of
  valid-next r v h =
      let voted = le-ltb r.sample.0 (first_vote f + 2) (omega (arith, samples-half f, first-vote-range f)) in
      pick_ind (ValidReception f) (leb r.bit (word_bits f)) _ _
      (λ e. record {
        word = v.word;
        bit = omega (arith, leb-true r.bit (word_bits f) e);
        sample = omega (arith, samples-range f);
        start = λ z. absurd (omega arith);
        stop = λ _. omega arith;
        rest = rw (lt-ltb 0 (first_vote f + 2) (omega arith)) (rw voted at v.rest);
        first = λ z. clash z refl;
        second = λ z. clash z refl;
        splits = rw (lt-ltb 0 (first_vote f + 2) (omega arith)) (rw voted at v.splits);
      })
      (λ e. v)

  -- one more sample of r, not its bit's last
  module _ (r : Reception) (v : ValidReception f r) (inner : r.sample.0 + 1 < samples f) where
    abbrev taken : Sample
    taken = record { 0 = r.sample.0 + 1 }

    -- it is not the third vote: as many bits are decided as before
    valid-plain : (a b : Bool) → (r.sample.0 + 1 ≡ first_vote f + 2 → ⊥)
        → (a ≡ true → (first_vote f ≤ r.sample.0 + 1) × (r.sample.0 + 1 < first_vote f + 2))
        → (b ≡ true → r.sample.0 + 1 ≡ first_vote f + 1) → ValidReception f (cast_at r taken a b)
    valid-plain a b o ha hb = record {
      word = v.word;
      bit = v.bit;
      sample = inner;
      start = λ _. omega arith;
      stop = λ z. omega (arith, v.stop z, o);
      rest = rw (same-side r.sample.0 (first_vote f + 2) o) v.rest;
      first = ha;
      second = hb;
      splits = rw (same-side r.sample.0 (first_vote f + 2) o) v.splits;
    }

    valid-cast : (rxd : Bool) → (r.sample.0 + 1 ≡ first_vote f + 2 → ⊥) → ValidReception f (cast_of f r taken rxd)
    unfolding cast_of
    valid-cast rxd o =
        pick_ind (ValidReception f) (eqb (r.sample.0 + 1) (first_vote f)) _ _
        (λ e.
        let one : r.sample.0 + 1 ≡ first_vote f = eqb-true (r.sample.0 + 1) (first_vote f) e in
        valid-plain rxd r.second o (λ _. omega arith) (λ z. absurd (omega (arith, v.second z))))
        (λ e. pick_ind (ValidReception f) (eqb (r.sample.0 + 1) (first_vote f + 1)) _ _
        (λ g.
        let two : r.sample.0 + 1 ≡ first_vote f + 1 = eqb-true (r.sample.0 + 1) (first_vote f + 1) g in
        valid-plain r.first rxd o (λ _. omega arith) (λ _. two))
        (λ g.
        let no_one : r.sample.0 + 1 ≡ first_vote f → ⊥ = eqb-false (r.sample.0 + 1) (first_vote f) e in
        let no-two : r.sample.0 + 1 ≡ first_vote f + 1 → ⊥ = eqb-false (r.sample.0 + 1) (first_vote f + 1) g in
        valid-plain r.first r.second o (λ z. absurd (omega (arith, v.first z))) (λ z. absurd (omega (arith, v.second z)))))

    -- it is the third vote: one bit more is decided, the word is w then, and the votes are spent
    module _ (third : r.sample.0 + 1 ≡ first_vote f + 2) where
      -- no more votes are split than bits are decided
      tally-fits : (unanimous : Bool) → tally_of r.splits unanimous ≤ r.bit + 1
      tally-fits unanimous =
          let before : r.sample.0 < first_vote f + 2 = omega arith in
          omega (
            arith,
            tally-digit r.splits unanimous (below-most f r v.bit before v.splits),
            digit-le (not unanimous),
            voted-before f r before,
            v.splits,
          )

      valid-spent : (c w : ℕ) → c ≤ r.bit + 1 → r.bit ≤ word_bits f → w < 2 ^ word_bits f → w % 2 ^ (word_bits f + 1 - (r.bit + 1)) ≡ 0
          → ValidReception f (with_word (spent_of r taken c) w)
      valid-spent c w few h l z = record {
        word = l;
        bit = v.bit;
        sample = inner;
        start = λ _. omega arith;
        stop = λ q. absurd (omega arith);
        rest = rw (le-ltb (r.sample.0 + 1) (first_vote f + 2) (omega arith)) z;
        first = λ q. clash q refl;
        second = λ q. clash q refl;
        splits = rw (le-ltb (r.sample.0 + 1) (first_vote f + 2) (omega arith)) few;
      }

      valid-decided : (c : ℕ) (rxd m : Bool) → c ≤ r.bit + 1 → ValidSampled f (decided_of f (spent_of r taken c) rxd m)
      unfolding decided_of
      valid-decided c rxd m few =
          let F : Sampled → Type 0 = ValidSampled f in
          let D : ℕ = word_bits f in
          let low : r.word % 2 ^ (D + 1 - r.bit) ≡ 0 = rw (lt-ltb r.sample.0 (first_vote f + 2) (omega arith)) at v.rest in
          pick_ind F (eqb r.bit 0) _ _
          (λ e. pick_ind F m _ _ (λ g. valid-still _ tt)
          (λ g.
          let h : r.bit ≤ D = omega (arith, eqb-true r.bit 0 e) in
          record { sampler = valid-spent c r.word few h v.word (rest-start D r.bit r.word h low); outcome = tt }))
          (λ e. pick_ind F (leb r.bit D) _ _
          (λ g.
          let h : r.bit ≤ D = leb-true r.bit D g in
          let o : r.bit ≡ 0 → ⊥ = eqb-false r.bit 0 e in
          rw (shift-digit f (spent_of r taken c) m)
          (valid-still _ (valid-spent c _ few h (shift-lt D r.word m (omega (arith, word-bits-range f)) v.word)
          (rest-shifted D r.bit r.word h low m (omega arith)))))
          (λ g. record { sampler = tt; outcome = omega (arith, few, v.bit, word-bits-range f) }))

  valid-sampled : (r : Reception) (rxd : Bool) → ValidReception f r → ValidSampled f (sampled_of f r rxd)
  unfolding sampled_of voted_of
  valid-sampled r rxd v =
      let F : Sampled → Type 0 = ValidSampled f in
      let vote : Vote = vote_of r.first r.second rxd in
      pick_ind F (ltb r.sample.0 (samples f - 1)) _ _
      (λ e.
      let inner : r.sample.0 + 1 < samples f = omega (arith, ltb-true r.sample.0 (samples f - 1) e) in
      pick_ind F (eqb (r.sample.0 + 1) (first_vote f + 2)) _ _
      (λ g.
      let third : r.sample.0 + 1 ≡ first_vote f + 2 = eqb-true (r.sample.0 + 1) (first_vote f + 2) g in
      valid-decided r v inner third _ rxd vote.level (tally-fits r v inner third vote.unanimous))
      (λ g. valid-still _ (valid-cast r v inner rxd (eqb-false (r.sample.0 + 1) (first_vote f + 2) g))))
      (λ e. valid-still _ (valid-next r v (omega (arith, ltb-false r.sample.0 (samples f - 1) e, samples-range f))))

  pub valid-sampler : (p : Sampler) (rxd : Bool) → ValidSampler f p → ValidSampled f (sampler_of f p rxd)
  unfolding sampler_of
  valid-sampler (Idle last) rxd v = valid-idle last rxd
  valid-sampler (Receiving r) rxd v = valid-sampled r rxd v
