use Rattle.frame.specs.Format.{data_bits}
use Rattle.frame.proofs.ParityLaws.{ones-masked}
use Rattle.frame.proofs.format.Format.even.Goals as goal

pub returns-clause-value : goal.returns-clause-value
returns-clause-value c =
    ones-masked (data_bits c.args.self.size) c.args.x c.masked-bits.result c.masked-bits.ensures.value
