use Rattle.std.proofs.Common.{ap, ◌∙◌}
use Rattle.trace.specs.Line.{pair_by, pair_from, pair_at}
use Rattle.trace.proofs.line.pair_at.Goals as goal

pub returns-in_err-x : goal.returns-in_err-x
unfolding pair_at
returns-in_err-x c = c.from_residual.ensures ∙ ap (pair_from _ _) c.in_err-x.ensures

pub returns-in_err-y : goal.returns-in_err-y
unfolding pair_at
returns-in_err-y c =
    c.from_residual-in_err-y.ensures ∙ ap (pair_by _) c.in_err-y.ensures ∙ ap (pair_from _ _) c.in_ok-x.ensures

pub returns : goal.returns
unfolding pair_at
returns c = ap (pair_by _) c.in_ok-y.ensures ∙ ap (pair_from _ _) c.in_ok-x.ensures
