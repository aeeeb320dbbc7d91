use Rattle.device.proofs.OutputLaws.{output-fits}
use Rattle.record.proofs.in_place.output_at.Goals as goal

pub overflow_add-result : goal.overflow_add-result
overflow_add-result c = record { fits = output-fits _ _ _ c.serial_output.ensures c.output.ensures }
