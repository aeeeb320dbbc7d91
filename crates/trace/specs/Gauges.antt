-- A means, no rule: a sink that counts down the room that is left.
use Rattle.std.specs.Prelude.{ℕ, ◌+◌, ◌≤◌, ◌≡◌, List, length}
use Rattle.std.proofs.Common.{arith, length-append}
use Rattle.trace.specs.Sinks.{SinkLaws}
use Rattle.trace.specs.declared.gauge.Gauge.{Gauge}

abbrev pub gauge_fits : Gauge → ℕ → Type 0
gauge_fits g n = n ≤ g.left

abbrev pub gauge_taken : Gauge → List ℕ → Gauge → Type 0
gauge_taken old bytes new = new.left + length bytes ≡ old.left

pub gauge_laws : SinkLaws gauge_fits gauge_taken
gauge_laws = record {
  fewer = λ a m n h. omega (arith, h);
  left = λ a b x n t h. omega (arith, t, h);
  nothing = λ a. omega arith;
  joined = λ a b c x y t u. omega (arith, t, u, length-append x y);
}
