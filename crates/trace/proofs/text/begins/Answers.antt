use Rattle.std.proofs.Common.{◌∙◌}
use Rattle.trace.specs.Text.{first_line}
use Rattle.trace.proofs.ContentsLaws.{begins-same}
use Rattle.trace.proofs.text.begins.Goals as goal

pub returns : goal.returns
returns c = c.starts_with.ensures.value ∙ begins-same first_line c.args.text.now
