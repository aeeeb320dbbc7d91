-- Noise on the wire (document 02, M-112): 'only voting samples, at most one of the three in each bit, and never the
-- last vote of a stop bit'. It is given by what it hits, frame by frame and bit by bit. Which clocks these are follows
-- from the baud counter at clock 0 and the frames' starts alone; that they are the receiver's own samples is said in
-- Votes.antt, and proved.
use Rattle.std.specs.Prelude.{ℕ, zero, suc, ◌+◌, ◌-◌, ◌*◌, ◌≤◌, Bool, true, false, not, List, [], ◌∷◌, eqb}
use Rattle.choice.specs.Pick.{pick, digit}
use Rattle.frame.specs.Format.{samples, first_vote, word_bits}
use Rattle.frame.specs.declared.format.Format.{Format}
use Rattle.usart.specs.Baud.{clocks_for}
use Rattle.usart.specs.Sending.{tick_from}
use Rattle.usart.specs.Line.{Sent, line_level}
use Rattle.usart.specs.declared.baud.Baud.{Baud}

-- of the frame that starts at clock n, which vote of bit b is turned over: 1, 2 or 3, or 0 for none. Bit 0 is the start
-- bit, bit D + 1 the stop bit
abbrev pub Noise : Type 0
Noise = ℕ → ℕ → ℕ

abbrev pub no_noise : Noise
no_noise n b = 0

-- one of the three at most, and not the stop bit's last
pub record Allowed (D : ℕ) (noise : Noise) : Type 0 where
  pub votes : (n b : ℕ) → noise n b ≤ 3
  pub stop : (n : ℕ) → noise n (D + 1) ≤ 2

-- the clock of sample k of bit b, in a frame that starts at clock n: the first tick from there on is sample 1 of its
-- start bit, and each bit has S samples
abbrev pub sample_clock : Format → Baud → ℕ → ℕ → ℕ → ℕ
sample_clock f c n b k = tick_from c n + clocks_for c (b * samples f + (k - 1))

-- vote v is sample first_vote + v − 1
abbrev pub vote_clock : Format → Baud → ℕ → ℕ → ℕ → ℕ
vote_clock f c n b v = sample_clock f c n b (first_vote f + v - 1)

-- clock j is that of the vote of bit b that is turned over
abbrev pub is_hit : Format → Baud → Noise → ℕ → ℕ → ℕ → Bool
is_hit f c noise n b j = pick (eqb (noise n b) 0) false (eqb j (vote_clock f c n b (noise n b)))

-- .. of one of the bits below k
unfoldable pub is_hit_below : Format → Baud → Noise → ℕ → ℕ → ℕ → Bool
is_hit_below f c noise n zero j = false
is_hit_below f c noise n (suc b) j = pick (is_hit f c noise n b j) true (is_hit_below f c noise n b j)

-- .. of one of the bits, start to stop, of one of the line's frames
unfoldable pub is_turned : Format → Baud → Noise → List Sent → ℕ → Bool
is_turned f c noise [] j = false
is_turned f c noise (s ∷ ss) j = pick (is_hit_below f c noise s.start (word_bits f + 2) j) true (is_turned f c noise ss j)

-- a level, turned over or not
abbrev pub turn : Bool → Bool → Bool
turn t l = pick t (not l) l

-- the line's level, turned over where noise hits
abbrev pub noisy_level : Format → Baud → ℕ → ℕ → Noise → List Sent → ℕ → Bool
noisy_level f c P Q noise fs j = turn (is_turned f c noise fs j) (line_level f P Q fs j)

-- how many of a frame's bits below k are hit, `hit` being its noise
unfoldable pub bits_hit : (ℕ → ℕ) → ℕ → ℕ
bits_hit hit zero = 0
bits_hit hit (suc b) = bits_hit hit b + digit (not (eqb (hit b) 0))
