use Rattle.std.proofs.Common.{◌∙◌, sym}
use Rattle.baud.proofs.DecimalLaws.{some_read, read_more, read_all, nothing_read}
use Rattle.baud.proofs.argument.number_in.Goals as goal

pub returns-in_err-value : goal.returns-in_err-value
returns-in_err-value c =
    let text = c.args.text.now in
    let none = sym c.in_err-value.was ∙ c.digit_read.ensures in
    c.from_residual.ensures
    ∙ sym (nothing_read _)
    ∙ read_more text c.loop-byte.byte-index _ _ c.loop-byte-test.true none
    ∙ c.loop-byte.invariant
    ∙ some_read text (sym c.is_empty.ensures ∙ c.if-is_empty.false)

pub loop-byte-preserved : goal.loop-byte-preserved
loop-byte-preserved c =
    read_more _ _ _ _ c.loop-byte-test.true (sym c.in_ok-value.was ∙ c.digit_read.ensures) ∙ c.loop-byte.invariant

pub returns : goal.returns
returns c =
    let text = c.args.text.now in
    read_all text c.loop-byte.byte-index _ c.loop-byte-test.false
    ∙ c.loop-byte.invariant
    ∙ some_read text (sym c.is_empty.ensures ∙ c.if-is_empty.false)
