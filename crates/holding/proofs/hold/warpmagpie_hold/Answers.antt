use Rattle.std.proofs.Common.{rules}
use Rattle.holding.proofs.Cases.{Came, held}
use Rattle.holding.proofs.hold.warpmagpie_hold.Goals as goal

pub returns : goal.returns
returns c =
    let a = c.args in
    let s = c.settle_read.ensures in
    let m : Came a.image.now a.level a.clocks c.decode.result c.and_then-got.result = search rules in
    let h = held a.image.now a.level a.clocks c.decode.result c.and_then-got.result c.decode.ensures m s.value s.value_after s.image_after in
    record { value = h.0; output_after = h.1.0; image_after = h.1.1 }
