use Rattle.device.proofs.OutputLaws.{output-fits}
use Rattle.device.proofs.unit.Device.output.Goals as goal

pub overflow_add-result : goal.overflow_add-result
overflow_add-result c = record { fits = output-fits _ _ _ c.output.ensures c.output-2.ensures }
