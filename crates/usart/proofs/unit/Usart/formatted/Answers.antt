use Rattle.std.proofs.Common.{Ok, ap, ◌∙◌}
use Rattle.usart.proofs.FormatLaws.{format-refused, format-same, format-set}
use Rattle.usart.proofs.unit.Usart.formatted.Goals as goal
use Rattle.usart.proofs.unit.Usart.formatted.Goals.{else-busy-via-then-busy+else-ne, else-busy-via-else-busy}

pub returns-then-ne : goal.returns-then-ne
returns-then-ne c = let a = c.args in format-refused a.self a.busy a.f c.if-busy.true c.if-ne.ensures

pub returns : goal.returns
returns c =
    let a = c.args in
    ap Ok c.with_format.ensures
    ∙ elim c.else-busy.branch [
      | else-busy-via-then-busy+else-ne w ↦ format-same a.self a.busy a.f w.if-busy.true w.if-ne.ensures
      | else-busy-via-else-busy w ↦ format-set a.self a.busy a.f w.if-busy.false
    ]
