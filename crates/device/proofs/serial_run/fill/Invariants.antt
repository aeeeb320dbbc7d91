use Rattle.std.proofs.Common.{◌≡◌, ◌≤◌, take, replicate}
use Rattle.device.proofs.serial_run.fill.Given as goal

abbrev pub invariant-loop-i : goal.invariant-loop-i
invariant-loop-i l = (l.i ≤ l.n) × (take l.i l.outputs ≡ replicate l.i l.output)
