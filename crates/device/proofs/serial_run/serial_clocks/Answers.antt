use Rattle.std.proofs.Common.{ap, ◌∙◌, arith, length, length-drop}
use Rattle.std.proofs.lemmas.Slice.{between_to_end}
use Rattle.device.proofs.LoopLaws.{serial-turn, serial-done}
use Rattle.device.proofs.serial_run.serial_clocks.Goals as goal

pub loop-i-preserved : goal.loop-i-preserved
loop-i-preserved c =
    let at = c.loop-i in
    let p = c.pass-passed in
    let long = p.auto.outputs ∙ ap length (between_to_end at.outputs at.i _ (omega arith)) ∙ length-drop at.i at.outputs in
    serial-turn at.invariant _ _ _ _ (between_to_end c.args.levels.now at.i _ (omega arith)) p.ensures.some_passed.1 long p.ensures.ran p.ensures.shown

pub returns-clause-value : goal.returns-clause-value
returns-clause-value c = (serial-done c.loop-i.invariant (omega arith)).0

pub returns-clause-outputs_after : goal.returns-clause-outputs_after
returns-clause-outputs_after c = (serial-done c.loop-i.invariant (omega arith)).1
