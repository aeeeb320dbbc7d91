use Rattle.std.proofs.Common.{ap, ◌∙◌, arith, length, replicate}
use Rattle.device.proofs.LoopLaws.{first-ran, first-shown, skipped-few, skip-ran, skip-shown}
use Rattle.device.proofs.serial_run.pass.Goals as goal

pub fill-requires : goal.fill-requires
fill-requires c =
    let few = skipped-few c.args.u (length c.args.levels.now) c.skip-many.ensures in omega (arith, few.1)

pub returns-then-many-gt0-clause-some_passed : goal.returns-then-many-gt0-clause-some_passed
returns-then-many-gt0-clause-some_passed c =
    let few = skipped-few c.args.u (length c.args.levels.now) c.skip-many.ensures in (omega arith, few.1)

pub returns-then-many-gt0-clause-ran : goal.returns-then-many-gt0-clause-ran
returns-then-many-gt0-clause-ran c = skip-ran c.args.u c.args.levels.now c.skip-many.ensures

pub returns-then-many-gt0-clause-shown : goal.returns-then-many-gt0-clause-shown
returns-then-many-gt0-clause-shown c =
    skip-shown c.args.u c.args.levels.now c.skip-many.ensures c.fill.new.outputs
    (c.fill.ensures ∙ ap (replicate c.skip-many.result.steps.0) c.output.ensures)

pub returns-clause-ran : goal.returns-clause-ran
returns-clause-ran c = first-ran c.args.u c.args.levels.now c.requires.some_levels c.clock-v.ensures

pub returns-clause-shown : goal.returns-clause-shown
returns-clause-shown c =
    let a = c.args in
    first-shown a.u a.levels.now a.outputs.now c.requires.some_levels c.requires.outputs_len c.clock-v.ensures
    c.output-2.ensures
