use Rattle.std.proofs.Common.{refl}
use Rattle.warpmagpie.proofs.Cases.{reset-refused, reset-done}
use Rattle.warpmagpie.proofs.calls.warpmagpie_reset.Goals as goal

pub returns-then-image-ne-LENGTH : goal.returns-then-image-ne-LENGTH
returns-then-image-ne-LENGTH c =
    let h = reset-refused c.args.image.now c.if-image-ne-LENGTH.true refl c.number.ensures in
    record { value = h.0; image_after = h.1 }

pub returns : goal.returns
returns c =
    let h = reset-done c.args.image.now c.if-image-ne-LENGTH.false refl c.reset.ensures c.store.ensures in
    record { value = h.0; image_after = h.1 }
