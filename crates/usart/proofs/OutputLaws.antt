-- The unit's share of the output byte is bits 0 and 4, and of the report bits 0 to 2.
use Prim.Native.Nat.{ℕ, ◌%◌, ◌≤◌, ◌<◌}
use native.Mathlib.Omega.{arith}
use lib.Dec.{lit≤}
use Rattle.choice.proofs.Digits.{digit-le}
use Rattle.choice.proofs.Picks.{pick_ind}
use Rattle.usart.specs.Sender.{txd_of}
use Rattle.usart.specs.Unit.{is_driven, output_of, rxc_requested, udre_requested, txc_requested, requests_of}
use Rattle.usart.specs.declared.unit.Usart.{Usart}

pub record Bits04 (n : ℕ) : Type 0 where
  pub most : n ≤ 17
  pub low : n % 16 ≤ 1

pub output-bits : (u : Usart) → Bits04 (output_of u)
unfolding output_of
output-bits u =
    let d = digit-le (txd_of u.format u.sender.shifter) in
    pick_ind Bits04 (is_driven u) _ _ (λ _. record { most = omega arith; low = omega arith }) (λ _. record { most = lit≤ tt; low = lit≤ tt })

pub requests-lt : (u : Usart) → requests_of u < 8
requests-lt u =
    let a = digit-le (rxc_requested u) in
    let b = digit-le (udre_requested u) in
    let c = digit-le (txc_requested u) in omega arith
