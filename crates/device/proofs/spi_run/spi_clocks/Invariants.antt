use Rattle.std.proofs.Common.{drop}
use Rattle.device.specs.ByUnit.{ClocksAll}
use Rattle.device.proofs.LoopLaws.{SpiPart}
use Rattle.device.proofs.spi_run.spi_clocks.Given as goal

abbrev pub invariant-loop-i : goal.invariant-loop-i
invariant-loop-i g l =
    SpiPart l.levels l.initial.outputs l.initial.state l.outputs l.state l.i
    × ClocksAll (goal.F-post g l.clock) l.state (drop l.i l.levels)
