use Rattle.std.proofs.Common.{arith, sym}
use Rattle.trace.proofs.LineMeaning.{pair_is}
use Rattle.trace.proofs.line.vector_at.Goals as goal

pub overflow_cast-item : goal.overflow_cast-item
overflow_cast-item c = omega (arith, (pair_is c.args.text.now _ _ _ _ _ _ (sym c.in_ok-p.ensures)).low₁)

pub overflow_cast-item-2 : goal.overflow_cast-item-2
overflow_cast-item-2 c = omega (arith, (pair_is c.args.text.now _ _ _ _ _ _ (sym c.in_ok-p.ensures)).low₂)
