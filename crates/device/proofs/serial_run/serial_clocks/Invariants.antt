use Rattle.std.proofs.Common.{length, ◌-◌}
use Rattle.device.proofs.LoopLaws.{SerialPart}
use Rattle.device.proofs.serial_run.serial_clocks.Given as goal

abbrev pub invariant-loop-i : goal.invariant-loop-i
invariant-loop-i l = SerialPart l.levels l.outputs l.initial.state l.state l.i

abbrev pub decreases-loop-i : goal.decreases-loop-i
decreases-loop-i l = length l.levels - l.i
