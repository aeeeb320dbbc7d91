-- The next edge of a byte, by the edges that have passed.
use Prim.Native.Nat.{◌+◌, ◌<◌}
use mathlib.Core.Bool.{Bool}
use mathlib.Core.Path.{◌≡◌}
use native.Mathlib.Omega.{arith}
use borrow.Author.Tests.{lt-ltb}
use Rattle.shifter.specs.Edge.{edge_of}
use Rattle.shifter.specs.Exchange.{next_edge, edged_of}
use Rattle.shifter.specs.declared.Exchange.{Exchange}
use Rattle.shifter.specs.declared.Edged.TheVariants.{Onward, Complete}
use Rattle.shifter.specs.declared.Mode.{Mode}

module _ (m : Mode) (x : Exchange) (i : Bool) where
  pub edged-onward : x.edges < 15 → edged_of m x i ≡ Onward (record { register = edge_of m x.register (x.edges + 1) i; edges = x.edges + 1 })
  unfolding edged_of next_edge
  edged-onward h = rw (lt-ltb x.edges 15 h, lt-ltb (x.edges + 1) 16 (omega arith))

  pub edged-last : x.edges ≡ 15 → edged_of m x i ≡ Complete (edge_of m x.register 16 i)
  unfolding edged_of next_edge
  edged-last h = rw h
