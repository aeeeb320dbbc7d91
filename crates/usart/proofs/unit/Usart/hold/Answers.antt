use Rattle.std.proofs.Common.{sym}
use Rattle.usart.proofs.HoldingLaws.{held-parts}
use Rattle.usart.proofs.unit.Usart.hold.Goals as goal

pub returns : goal.returns
returns c =
    let a = c.args in
    rw (c.hold-2.ensures, c.hold.ensures, c.passed.ensures, c.ticks_in-ticks.ensures)
    (sym (held-parts a.n.0 a.self a.rxd))
