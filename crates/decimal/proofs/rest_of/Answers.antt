use Rattle.std.proofs.Common.{arith, sym, ◌∙◌}
use Rattle.decimal.proofs.FieldLaws.{turn-large, turn_end, turn-zero, turn-other, turn-digit, turn-past}
use Rattle.decimal.proofs.rest_of.Goals.{then-value-eq0-via-then-value-eq0, then-value-eq0-via-else-value-eq0+then-not-is_digit}
use Rattle.decimal.proofs.rest_of.Goals as goal

pub returns-then-limit-value : goal.returns-then-limit-value
returns-then-limit-value c =
    turn-large _ _ _ c.loop-at.value c.loop-at.at _ c.loop-at-test.true c.loop-at.invariant c.if-limit-value.true

pub returns-then-byte-end : goal.returns-then-byte-end
returns-then-byte-end c =
    turn_end _ _ _ c.loop-at.value c.loop-at.at _ c.loop-at-test.true c.loop-at.invariant (omega arith)
    c.if-byte-end.true

pub returns-then-value-eq0 : goal.returns-then-value-eq0
returns-then-value-eq0 c =
    elim c.then-value-eq0.branch [
      | then-value-eq0-via-then-value-eq0 w ↦
          turn-zero _ _ _ c.loop-at.value c.loop-at.at _ c.loop-at-test.true c.loop-at.invariant (omega arith)
          c.if-byte-end.false w.if-value-eq0.true
      | then-value-eq0-via-else-value-eq0+then-not-is_digit w ↦
          turn-other _ _ _ c.loop-at.value c.loop-at.at _ c.loop-at-test.true c.loop-at.invariant (omega arith)
          c.if-byte-end.false w.if-value-eq0.false (sym w.is_digit.ensures ∙ w.if-not-is_digit.true)
    ]

pub loop-at-preserved : goal.loop-at-preserved
loop-at-preserved c =
    rw c.with_digit-value.ensures
    (turn-digit _ _ _ c.loop-at.value c.loop-at.at _ c.loop-at-test.true c.loop-at.invariant (omega arith)
    c.if-byte-end.false c.if-value-eq0.false (sym c.is_digit.ensures ∙ c.if-not-is_digit.false))

pub returns : goal.returns
returns c = turn-past _ _ _ _ _ _ c.loop-at-test.false c.loop-at.invariant
