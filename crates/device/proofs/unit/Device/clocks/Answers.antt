use Rattle.std.proofs.Common.{sym, ◌∙◌}
use Rattle.device.proofs.LoopLaws.{units-ran, units-outputs, serial-alone}
use Rattle.device.proofs.unit.Device.clocks.Goals as goal

pub returns-then-enabled : goal.returns-then-enabled
returns-then-enabled c =
    let d = c.args.self in
    let l = c.args.levels.now in
    let u = c.serial_clocks-u.ensures in
    let s = c.enabled_clocks.ensures in
    record { value = units-ran d l u.value s.value c.after.ensures; outputs_after = units-outputs d l u.outputs_after s.outputs_after }

pub returns : goal.returns
returns c =
    let d = c.args.self in
    let l = c.args.levels.now in
    let u = c.serial_clocks-u.ensures in
    record {
      value = units-ran d l u.value c.off_clocks.ensures c.after-2.ensures;
      outputs_after = serial-alone d l u.outputs_after (sym c.enabled.ensures ∙ c.if-enabled.false);
    }
