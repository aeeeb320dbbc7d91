use Rattle.usart.proofs.HoldingLaws.{closed-early, closed-late}
use Rattle.usart.proofs.baud.Baud.passed.Goals as goal

pub returns-then-left-n : goal.returns-then-left-n
returns-then-left-n c = (closed-late _ _ _ c.if-left-n.true).baud

pub returns-else-left-n : goal.returns-else-left-n
returns-else-left-n c = (closed-early _ _ _ c.if-left-n.false).baud
