use Rattle.device.proofs.LoopLaws.{one-clock}
use Rattle.device.proofs.unit.Device.clock.Goals as goal

pub returns : goal.returns
returns c = one-clock c.args.self c.args.level c.clocks-d.ensures.value c.clocks-d.ensures.outputs_after
