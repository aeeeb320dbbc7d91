use Rattle.std.proofs.Common.{◌/◌, sym, arith}
use Rattle.decimal.proofs.CountLaws.{count-one, count-last, count_most}
use Rattle.decimal.proofs.digits.+digit_count.Goals as goal

pub overflow_add-result : goal.overflow_add-result
overflow_add-result t c = omega (arith, c.digit_count.ensures, count_most (c.args.n / 10) (omega arith))

pub returns-then-n-lt10 : goal.returns-then-n-lt10
returns-then-n-lt10 t c = sym (count-one c.args.n c.if-n-lt10.true)

pub returns-else-n-lt10 : goal.returns-else-n-lt10
returns-else-n-lt10 t c = omega (arith, c.digit_count.ensures, count-last c.args.n c.if-n-lt10.false)
