-- A setting's clocks a bit, and T (document 02, M-104: 'T = S·(UBRR+1)·rate').
use Rattle.std.specs.Prelude.{ℕ}
use Rattle.choice.specs.Pick.{digit}
use Rattle.planner.specs.Setting.{samples, divisor, total}
use Rattle.baud.specs.declared.setting.Setting.{Setting}

abbrev pub divisor_of : Setting → ℕ
divisor_of s = divisor (samples (digit s.u2x)) s.ubrr

abbrev pub total_of : Setting → ℕ → ℕ
total_of s rate = total (samples (digit s.u2x)) rate s.ubrr
