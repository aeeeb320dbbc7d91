use Rattle.std.proofs.Common.{◌≡◌, true, refl, sym}
use Rattle.usart.specs.Holding.{receiver_rests}
use Rattle.usart.proofs.HoldingLaws.{listening-held, receiver-stays}
use Rattle.usart.proofs.receiver.Receiver.hold.Goals as goal

pub returns-then-not-rxen : goal.returns-then-not-rxen
unfolding receiver_rests
returns-then-not-rxen c =
    let a = c.args in
    let off : receiver_rests a.rxen a.self a.rxd ≡ true = rw c.if-not-rxen.true refl in
    sym (receiver-stays a.rxen a.format a.self a.rxd a.n.0 off)

pub returns : goal.returns
returns c =
    let a = c.args in
    listening-held (record { receiver = a.self; rxen = a.rxen; format = a.format; rxd = a.rxd }) _ c.hold.ensures
