use Rattle.std.proofs.Common.{Ok, ap, ◌∙◌}
use Rattle.warpmagpie.proofs.Cases.{counted, due, none}
use Rattle.warpmagpie.proofs.calls.clocked.Goals as goal

pub returns-in_err-output : goal.returns-in_err-output
returns-in_err-output c =
    let k = c.count.ensures in
    let h = none c.args.image.now c.args.level k.value k.s_after c.in_err-output.was c.from_residual.ensures.1 in
    record { value = h.0; image_after = h.1 }

pub returns-in-Counted : goal.returns-in-Counted
returns-in-Counted c =
    let k = c.count.ensures in
    let h = counted c.args.image.now c.args.level k.value k.s_after (c.in_ok-output.was ∙ ap Ok c.in-Counted.is) in
    record { value = h.0; image_after = h.1 }

pub returns-in-Due : goal.returns-in-Due
returns-in-Due c =
    let k = c.count.ensures in
    let h =
    due c.args.image.now c.args.level k.value k.s_after (c.in_ok-output.was ∙ ap Ok c.in-Due.is) c.clock-next.ensures
    c.store.ensures in
    record { value = h.0; image_after = h.1 }
