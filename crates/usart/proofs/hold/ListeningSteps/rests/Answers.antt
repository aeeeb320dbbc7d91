use Rattle.usart.proofs.HoldingLaws.{listening-rests}
use Rattle.usart.proofs.hold.ListeningSteps.rests.Goals as goal

pub returns-clause-stays : goal.returns-clause-stays
returns-clause-stays c = listening-rests c.args.self c.rests.ensures
