use Rattle.std.proofs.Common.{arith, ap, sym, ◌∙◌}
use Rattle.decimal.proofs.FieldMeaning.{field_is}
use Rattle.trace.proofs.LineMeaning.{pair_is}
use Rattle.trace.specs.Line.{triple_by, triple_from, triple_at}
use Rattle.trace.proofs.line.triple_at.Goals as goal

pub overflow_cast-result : goal.overflow_cast-result
overflow_cast-result c = omega (arith, (field_is c.args.text.now _ _ _ _ _ (sym c.in_ok-x.ensures)).low)

pub overflow_cast-result-2 : goal.overflow_cast-result-2
overflow_cast-result-2 c = omega (arith, (pair_is c.args.text.now _ _ _ _ _ _ (sym c.in_ok-others.ensures)).low₁)

pub overflow_cast-result-3 : goal.overflow_cast-result-3
overflow_cast-result-3 c = omega (arith, (pair_is c.args.text.now _ _ _ _ _ _ (sym c.in_ok-others.ensures)).low₂)

pub returns-in_err-x : goal.returns-in_err-x
unfolding triple_at
returns-in_err-x c = c.from_residual.ensures ∙ ap (triple_from _) c.in_err-x.ensures

pub returns-in_err-others : goal.returns-in_err-others
unfolding triple_at
returns-in_err-others c =
    c.from_residual-in_err-others.ensures ∙ ap (triple_by _) c.in_err-others.ensures
    ∙ ap (triple_from _) c.in_ok-x.ensures

pub returns : goal.returns
unfolding triple_at
returns c = ap (triple_by _) c.in_ok-others.ensures ∙ ap (triple_from _) c.in_ok-x.ensures
