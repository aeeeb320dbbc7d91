use Rattle.std.proofs.Common.{ap, ◌∙◌}
use Rattle.device.specs.Outcome.{read_answer_of, value_of}
use Rattle.record.specs.Kept.{kept_by_read}
use Rattle.warpmagpie.proofs.Cases.{read, not-read}
use Rattle.warpmagpie.proofs.calls.warpmagpie_read.Goals as goal

pub returns-in-Ok : goal.returns-in-Ok
returns-in-Ok c =
    let h = read c.args.image.now c.decode.ensures c.in-Ok.is c.args.address c.read.ensures in
    let s = c.settle_read.ensures in
    record {
      value = s.value ∙ ap read_answer_of h.0;
      value_after = s.value_after ∙ ap value_of h.0;
      image_after = s.image_after ∙ h.1;
    }

pub returns-in-Err : goal.returns-in-Err
returns-in-Err c =
    let h = not-read c.args.image.now c.decode.ensures c.in-Err.is c.args.address in
    record {
      value = c.number.ensures ∙ ap read_answer_of h;
      value_after = ap value_of h;
      image_after = ap (kept_by_read c.args.image.now) h;
    }
