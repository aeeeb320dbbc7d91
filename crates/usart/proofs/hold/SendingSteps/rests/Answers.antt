use Rattle.usart.proofs.HoldingLaws.{sending-rests}
use Rattle.usart.proofs.hold.SendingSteps.rests.Goals as goal

pub returns-clause-stays : goal.returns-clause-stays
returns-clause-stays c = sending-rests c.args.self c.rests.ensures
