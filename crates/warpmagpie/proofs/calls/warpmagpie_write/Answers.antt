use Rattle.std.proofs.Common.{rules, ap, ◌∙◌}
use Rattle.device.specs.Outcome.{answer_of}
use Rattle.warpmagpie.proofs.Cases.{written}
use Rattle.warpmagpie.proofs.calls.warpmagpie_write.Goals as goal

pub returns : goal.returns
returns c =
    let h = written c.args.image.now c.decode.ensures c.args.address c.args.value c.and_then-written.ensures (λ d p. search rules) in
    let s = c.settle.ensures in
    record { value = s.value ∙ ap answer_of h.0; image_after = s.image_after ∙ h.1 }
