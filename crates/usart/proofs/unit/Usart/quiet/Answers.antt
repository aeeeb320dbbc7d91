use mathlib.Core.Path.{sym, ◌∙◌}
use borrow.Author.Tests.{eq-eqb}
use Rattle.choice.proofs.Picks.{pick_true}
use Rattle.usart.specs.Counting.{quiet_of}
use Rattle.usart.proofs.CountingLaws.{every-tick, least-ticks}
use Rattle.usart.proofs.unit.Usart.quiet.Goals as goal

pub returns-then-self-eq0 : goal.returns-then-self-eq0
unfolding quiet_of
returns-then-self-eq0 c =
    pick_true _ _ _ _ (sym (c.if-not-ticks.ensures))
    (pick_true _ _ _ _ (eq-eqb _ _ c.if-self-eq0.true)
    (every-tick _ c.if-self-eq0.true c.ticks_as_clocks.ensures
    ∙ rw (← c.quiet-sender.ensures, ← c.quiet-receiver.ensures)
    (least-ticks c.quiet-sender.result c.quiet-receiver.result c.min.ensures)))
