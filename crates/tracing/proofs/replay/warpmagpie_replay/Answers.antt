use Rattle.tracing.proofs.Cases.{replay-done, replay-stopped}
use Rattle.tracing.proofs.replay.warpmagpie_replay.Goals as goal

pub returns-in-Ok-clause-image_after : goal.returns-in-Ok-clause-image_after
returns-in-Ok-clause-image_after c =
    (replay-done c.args.image.now c.args.text.now c.if-image-ne-LENGTH.false c.replay-got.ensures c.store.ensures
    c.in-Ok.is).1.1

pub returns-in-Err-clause-image_after : goal.returns-in-Err-clause-image_after
returns-in-Err-clause-image_after c =
    (replay-stopped c.args.image.now c.args.text.now c.if-image-ne-LENGTH.false c.replay-got.ensures c.store.ensures
    c.in-Err.is c.number-in-Err.ensures).1.1
