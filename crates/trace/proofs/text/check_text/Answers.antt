use Rattle.std.proofs.Common.{arith, ap, sym, ◌∙◌}
use Rattle.trace.specs.Lines.{lines_from}
use Rattle.trace.proofs.ContentsLaws.{counted, checked, fewer, behind_first}
use Rattle.trace.proofs.LinesLaws.{lines-most}
use Rattle.trace.proofs.text.check_text.Goals as goal

pub overflow_add-result : goal.overflow_add-result
overflow_add-result c =
    let lines = lines_from c.args.text.now 8 in
    omega (arith, fewer c.in-Some.n lines c.in-Some.ensures, lines-most c.args.text.now 8)

pub returns-in-Some : goal.returns-in-Some
returns-in-Some c =
    ap (counted 2) c.in-Some.ensures ∙ sym (checked 2 (lines_from c.args.text.now 8))
    ∙ behind_first c.args.text.now (sym c.begins.ensures ∙ c.if-not-begins.false)

pub returns-in-None : goal.returns-in-None
returns-in-None c =
    ap (counted 2) c.in-None.ensures ∙ sym (checked 2 (lines_from c.args.text.now 8))
    ∙ behind_first c.args.text.now (sym c.begins.ensures ∙ c.if-not-begins.false)
