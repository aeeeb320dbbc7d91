-- The voting samples of a line, and those that a receiver takes (document 02, M-112). `sample_clock` need not be
-- believed: over a list of events that hears the line the two are the same, each with its clock, in order.
use Rattle.std.specs.Prelude.{ℕ, zero, suc, ◌+◌, ◌-◌, ◌≤◌, Bool, true, false, not, List, [], ◌∷◌, ◌++◌, ◌⊎◌, ◌≡◌, eqb, leb}
use Rattle.choice.specs.Pick.{pick}
use Rattle.frame.specs.Format.{first_vote, word_bits}
use Rattle.frame.specs.Word.{word_of, frame_bit}
use Rattle.frame.specs.declared.format.Format.{Format}
use Rattle.usart.specs.Baud.{ticks}
use Rattle.usart.specs.Event.{Event, at_clocks}
use Rattle.usart.specs.Line.{Sent}
use Rattle.usart.specs.Noise.{Noise, vote_clock, is_turned, turn}
use Rattle.usart.specs.declared.baud.Baud.{Baud}
use Rattle.usart.specs.declared.sampler.Sampler.{Sampler}
use Rattle.usart.specs.declared.sampler.Sampler.TheVariants.{Idle, Receiving}
use Rattle.usart.specs.declared.unit.Usart.{Usart}

-- a voting sample: its clock, its bit (0 is the start bit), which of the bit's three it is, and its level
pub record Cast : Type 0 where
  pub at : ℕ
  pub bit : ℕ
  pub vote : ℕ
  pub level : Bool

-- samples first_vote, first_vote + 1 and first_vote + 2 vote
abbrev pub is_vote : Format → ℕ → Bool
is_vote f k = pick (leb (first_vote f) k) (leb k (first_vote f + 2)) false

-- what a tick at clock j samples: of a frame under way, the sample after those of its bit that are taken
abbrev pub cast_in : Format → ℕ → Sampler → Bool → List Cast
cast_in f j (Idle last) rxd = []
cast_in f j (Receiving r) rxd =
    let k : ℕ = r.sample.0 + 1 in
    pick (is_vote f k) (record { at = j; bit = r.bit; vote = k + 1 - first_vote f; level = rxd } ∷ []) []

abbrev pub cast_by : ℕ → Usart → Bool → List Cast
cast_by j u rxd = pick (ticks u.baud) (pick u.control.rxen (cast_in u.format j u.receiver.sampler rxd) []) []

-- the votes that the receiver takes, in order, the first clock of the list being j
abbrev pub votes_of : ℕ → Usart → List Event → List Cast
votes_of j u es = at_clocks cast_by j u es

-- the level of bit b of the frame s
abbrev pub bit_of : Format → Sent → ℕ → Bool
bit_of f s b = frame_bit (word_bits f) (word_of f s.«data») b

-- what vote v of it shows: the bit's level, turned over where noise hits this vote
abbrev pub shown_at : Format → Noise → Sent → ℕ → ℕ → Bool
shown_at f noise s b v = turn (eqb (noise s.start b) v) (bit_of f s b)

abbrev pub vote_on : Format → Baud → Noise → Sent → ℕ → ℕ → Cast
vote_on f c noise s b v = record { at = vote_clock f c s.start b v; bit = b; vote = v; level = shown_at f noise s b v }

-- three for each of n bits from bit b on
unfoldable pub votes_from : Format → Baud → Noise → Sent → ℕ → ℕ → List Cast
votes_from f c noise s b zero = []
votes_from f c noise s b (suc n) =
    vote_on f c noise s b 1 ∷ vote_on f c noise s b 2 ∷ vote_on f c noise s b 3 ∷ votes_from f c noise s (suc b) n

-- the votes of the line: of each frame, from the start bit to the stop bit
unfoldable pub votes_on : Format → Baud → Noise → List Sent → List Cast
votes_on f c noise [] = []
votes_on f c noise (s ∷ ss) = votes_from f c noise s 0 (word_bits f + 2) ++ votes_on f c noise ss

abbrev pub Each : {A : Type 0} → (A → Type 0) → List A → Type 0
Each F [] = Unit {0}
Each F (x ∷ xs) = F x × Each F xs

abbrev pub Some : {A : Type 0} → (A → Type 0) → List A → Type 0
Some F [] = ⊥
Some F (x ∷ xs) = F x ⊎ Some F xs

-- one way: each vote that the receiver takes comes at its clock, in a frame of the line, and shows the level of its
-- bit, turned over where noise hits this vote
abbrev pub VotesTimed : Format → Baud → Noise → List Sent → List Cast → Type 0
VotesTimed f c noise fs vs = Each (λ v. Some (λ s. v ≡ vote_on f c noise s v.bit v.vote) fs) vs

-- a vote of a bit of s that noise hits, taken at clock j: the other level than the bit's
pub record HitAt (f : Format) (noise : Noise) (s : Sent) (j : ℕ) (v : Cast) : Type 0 where
  pub at : v.at ≡ j
  pub bit : v.bit ≤ word_bits f + 1
  pub vote : v.vote ≡ noise s.start v.bit
  pub level : v.level ≡ not (bit_of f s v.bit)

-- the other: each clock that noise turns over is one at which the receiver takes that vote
abbrev pub HitsTaken : Format → Baud → Noise → List Sent → List Cast → Type 0
HitsTaken f c noise fs vs = (j : ℕ) → is_turned f c noise fs j ≡ true → Some (λ s. Some (HitAt f noise s j) vs) fs
