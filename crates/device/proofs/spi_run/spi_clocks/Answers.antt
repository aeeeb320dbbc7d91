use Rattle.std.proofs.Common.{refl, arith}
use Rattle.device.proofs.LoopLaws.{clocks-on, spi-turn, spi-done}
use Rattle.device.proofs.spi_run.spi_clocks.Goals as goal

pub loop-i-preserved : goal.loop-i-preserved
loop-i-preserved g c =
    let at = c.loop-i in
    let k = clocks-on (goal.F-post g c.args.clock) c.args.levels.now at.i at.invariant.1 (omega arith) c.pin_levels-l.ensures c.clock-state.ensures in
    (spi-turn at.invariant.0 (omega arith) c.pin_levels-l.ensures k.0 c.output.ensures refl, k.1)

pub returns-clause-value : goal.returns-clause-value
returns-clause-value g c = (spi-done c.loop-i.invariant.0 (omega arith)).0

pub returns-clause-outputs_after : goal.returns-clause-outputs_after
returns-clause-outputs_after g c = (spi-done c.loop-i.invariant.0 (omega arith)).1
