use Rattle.usart.proofs.HoldingLaws.{sending-held}
use Rattle.usart.proofs.sender.Sender.hold.Goals as goal

pub returns : goal.returns
returns c = sending-held (record { sender = c.args.self; format = c.args.format }) _ c.hold.ensures
