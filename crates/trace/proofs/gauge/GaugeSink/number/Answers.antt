use Rattle.std.proofs.Common.{arith}
use Rattle.decimal.proofs.CountLaws.{count_most}
use Rattle.trace.proofs.gauge.GaugeSink.number.Goals as goal

pub overflow_add-digit_count : goal.overflow_add-digit_count
overflow_add-digit_count c = omega (arith, count_most c.args.n (omega arith))
