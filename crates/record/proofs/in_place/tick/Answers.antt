use Rattle.std.proofs.Common.{arith}
use Rattle.std.proofs.lemmas.Grind.{common_steps}
use Rattle.record.proofs.InPlaceLaws.{sum_fits}
use Rattle.record.proofs.in_place.tick.Goals as goal

pub overflow_add-b-3 : goal.overflow_add-b-3
overflow_add-b-3 c = let h = sum_fits _ c.requires 15 11 (omega arith) (omega arith) (omega arith) in record { fits = grind (arith, common_steps, h) }

pub overflow_add-b-4 : goal.overflow_add-b-4
overflow_add-b-4 c = let h = sum_fits _ c.requires 19 16 (omega arith) (omega arith) (omega arith) in record { fits = grind (arith, common_steps, h) }
