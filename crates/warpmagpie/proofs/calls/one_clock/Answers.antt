use Rattle.std.proofs.Common.{sym, ap, ◌∙◌}
use Rattle.answer.specs.Number.{number_in, value_or}
use Rattle.warpmagpie.proofs.Cases.{one-clock}
use Rattle.warpmagpie.proofs.calls.one_clock.Goals as goal

pub returns-in-Ok : goal.returns-in-Ok
returns-in-Ok c =
    let k = c.clocked.ensures in
    let a = c.args in
    let e = sym c.in-Ok.is in
    let h = one-clock a.image.now a.level a.output.now c.requires (k.value, k.image_after) (ap number_in e) (ap (value_or a.output.now) e) in
    record { value = h.0; image_after = h.1.0; output_after = h.1.1 }

pub returns-in-Err : goal.returns-in-Err
returns-in-Err c =
    let k = c.clocked.ensures in
    let a = c.args in
    let e = sym c.in-Err.is in
    let h =
    one-clock a.image.now a.level a.output.now c.requires (k.value, k.image_after) (c.number.ensures ∙ ap number_in e)
    (ap (value_or a.output.now) e) in
    record { value = h.0; image_after = h.1.0; output_after = h.1.1 }
