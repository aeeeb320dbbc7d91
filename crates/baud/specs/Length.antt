-- Whether a setting is within the receiver's recommended limit of the rate error at a frame length D (document 01, 'The
-- line of demand 3'). The sender keeps the rate exactly, so its bit is clock/rate of our clocks: N is T, P the clock.
use Rattle.std.specs.Prelude.{ℕ, ◌+◌, ◌*◌, Bool, leb}
use Rattle.choice.specs.Pick.{digit}
use Rattle.planner.specs.Setting.{distance}
use Rattle.usart.specs.Limit.{limit}
use Rattle.baud.specs.declared.setting.Setting.{Setting}
use Rattle.baud.specs.declared.length.FrameLength.{FrameLength}
use Rattle.baud.specs.declared.length.FrameLength.TheVariants.{Five, Six, Seven, Eight, Nine, Ten}
use Rattle.baud.specs.Setting.{total_of}

-- D
abbrev pub bits_of : FrameLength → ℕ
bits_of Five = 5
bits_of Six = 6
bits_of Seven = 7
bits_of Eight = 8
bits_of Nine = 9
bits_of Ten = 10

-- 'within limit r when |N − P|·1000 ≤ r·P'
abbrev pub is_within : ℕ → ℕ → ℕ → Bool
is_within r N P = leb (distance N P * 1000) (r * P)

unfoldable pub is_within_at : ℕ → ℕ → Setting → ℕ → Bool
is_within_at clock rate s D = is_within (limit s.u2x D) (total_of s rate) clock

-- at how many of the frame lengths from 5 to 10
abbrev pub lengths_within : ℕ → ℕ → Setting → ℕ
lengths_within clock rate s =
    digit (is_within_at clock rate s 5) + digit (is_within_at clock rate s 6) + digit (is_within_at clock rate s 7)
    + digit (is_within_at clock rate s 8) + digit (is_within_at clock rate s 9) + digit (is_within_at clock rate s 10)
