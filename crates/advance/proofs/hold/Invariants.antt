use Rattle.std.proofs.Common.{◌≡◌}
use Rattle.choice.specs.Times.{times}
use Rattle.advance.proofs.hold.Given as goal

abbrev pub invariant-loop-left : goal.invariant-loop-left
invariant-loop-left g l = let step = g.S.Steps.step in times step l.left l.state ≡ times step l.fn.n l.fn.start

abbrev pub decreases-loop-left : goal.decreases-loop-left
decreases-loop-left g l = l.left
