use Rattle.usart.proofs.HoldingLaws.{closed-late, closed-early}
use Rattle.usart.proofs.baud.Baud.ticks_in.Goals as goal

pub returns-then-left-n : goal.returns-then-left-n
returns-then-left-n c = (closed-late _ _ _ c.if-left-n.true).ticks

pub returns-else-left-n : goal.returns-else-left-n
returns-else-left-n c = (closed-early _ _ _ c.if-left-n.false).ticks
