use Rattle.std.proofs.Common.{Some, ap, lt-ltb}
use Rattle.choice.proofs.Picks.{picks}
use Rattle.trace.specs.Line.{line_at}
use Rattle.trace.proofs.line.line_at.Goals as goal

pub returns-then-text-at : goal.returns-then-text-at
unfolding line_at
returns-then-text-at c = search picks

pub returns : goal.returns
unfolding line_at
returns c = rw (lt-ltb _ _ c.if-text-at.false, ← c.fields_at.ensures) (ap Some c.ok_or.ensures.value)
