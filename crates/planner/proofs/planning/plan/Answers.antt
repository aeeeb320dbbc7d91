use Rattle.std.proofs.Common.{sym}
use Rattle.planner.proofs.PlanningLaws.{plan-done}
use Rattle.planner.proofs.planning.plan.Goals as goal

pub returns : goal.returns
returns c =
    let t = c.in_ok-target.ensures in
    plan-done _ _ _ (sym t.in_range) t.ok.0 t.ok.1 c.best_ubrr-ubrr.ensures.value _ c.tenths.ensures c.tenths.type_inv
