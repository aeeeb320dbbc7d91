use Rattle.std.proofs.Common.{arith}
use Rattle.decimal.proofs.CountLaws.{count-one, count-last}
use Rattle.decimal.proofs.PutLaws.{put_one, put-more}
use Rattle.decimal.proofs.digits.+put_digits.Goals as goal

pub bounds-buffer-at : goal.bounds-buffer-at
bounds-buffer-at t c = omega (arith, c.requires, count-one c.args.n c.if-n-lt10.true)

pub put_digits-last-requires : goal.put_digits-last-requires
put_digits-last-requires t c =
    (omega (arith, c.decreases), omega (arith, c.requires, count-last c.args.n c.if-n-lt10.false))

pub bounds-buffer-last : goal.bounds-buffer-last
bounds-buffer-last t c =
    omega (
      arith,
      c.put_digits-last.auto.buffer,
      c.put_digits-last.ensures.value,
      c.requires,
      count-last c.args.n c.if-n-lt10.false,
    )

pub overflow_add-result-else-n-lt10 : goal.overflow_add-result-else-n-lt10
overflow_add-result-else-n-lt10 t c =
    omega (arith, c.put_digits-last.ensures.value, c.requires, count-last c.args.n c.if-n-lt10.false, c.well_formed)

pub returns-then-n-lt10-clause-value : goal.returns-then-n-lt10-clause-value
returns-then-n-lt10-clause-value t c = omega (arith, count-one c.args.n c.if-n-lt10.true)

pub returns-then-n-lt10-clause-buffer_after : goal.returns-then-n-lt10-clause-buffer_after
returns-then-n-lt10-clause-buffer_after t c = put_one c.args.buffer.now c.args.at c.args.n c.if-n-lt10.true

pub returns-else-n-lt10-clause-value : goal.returns-else-n-lt10-clause-value
returns-else-n-lt10-clause-value t c =
    omega (arith, c.put_digits-last.ensures.value, count-last c.args.n c.if-n-lt10.false)

pub returns-else-n-lt10-clause-buffer_after : goal.returns-else-n-lt10-clause-buffer_after
returns-else-n-lt10-clause-buffer_after t c =
    put-more c.args.buffer.now c.put_digits-last.new.buffer c.args.at c.put_digits-last.result c.args.n
    c.if-n-lt10.false c.put_digits-last.ensures.value c.put_digits-last.ensures.buffer_after
