use Rattle.usart.proofs.CountingLaws.{every-clock}
use Rattle.usart.proofs.baud.Baud.clocks_as_ticks.Goals as goal

pub returns : goal.returns
returns c = every-clock _ _ c.requires.ubrr_value c.requires.left_value
