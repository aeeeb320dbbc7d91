use Rattle.std.proofs.Common.{◌+◌, ◌<◌, ◌≤◌, length, arith, sym, ◌∙◌}
use Rattle.decimal.specs.Digits.{digits_of}
use Rattle.decimal.proofs.CountLaws.{count-some}
use Rattle.decimal.proofs.PutLaws.{put-there, put-not}
use Rattle.decimal.proofs.digits.put_number.Goals as goal
use Rattle.decimal.proofs.digits.put_number.Goals.{Then-saturating_sub-digit_count, Else-saturating_sub-digit_count}

no-room : (c : Then-saturating_sub-digit_count) → length c.args.buffer.now < c.args.at + length (digits_of c.args.n)
no-room c =
    omega (
      arith,
      c.if-saturating_sub-digit_count.true,
      c.saturating_sub.ensures,
      c.digit_count.ensures,
      count-some c.args.n,
    )

room : (c : Else-saturating_sub-digit_count) → c.args.at + length (digits_of c.args.n) ≤ length c.args.buffer.now
room c =
    omega (
      arith,
      c.if-saturating_sub-digit_count.false,
      c.saturating_sub.ensures,
      c.digit_count.ensures,
      count-some c.args.n,
    )

pub returns-then-saturating_sub-digit_count-clause-value : goal.returns-then-saturating_sub-digit_count-clause-value
returns-then-saturating_sub-digit_count-clause-value c = (put-not c.args.buffer.now c.args.at c.args.n (no-room c)).0

pub returns-then-saturating_sub-digit_count-clause-buffer_after :
    goal.returns-then-saturating_sub-digit_count-clause-buffer_after
returns-then-saturating_sub-digit_count-clause-buffer_after c =
    (put-not c.args.buffer.now c.args.at c.args.n (no-room c)).1

pub put_digits-requires : goal.put_digits-requires
put_digits-requires c = room (goal.at.put_digits-requires c).Else-saturating_sub-digit_count

pub returns-clause-value : goal.returns-clause-value
returns-clause-value c =
    c.put_digits.ensures.value
    ∙ sym (put-there c.args.buffer.now c.args.at c.args.n
    (room (goal.at.returns-clause-value c).Else-saturating_sub-digit_count)).0

pub returns-clause-buffer_after : goal.returns-clause-buffer_after
returns-clause-buffer_after c =
    c.put_digits.ensures.buffer_after
    ∙ sym (put-there c.args.buffer.now c.args.at c.args.n
    (room (goal.at.returns-clause-buffer_after c).Else-saturating_sub-digit_count)).1
