use Rattle.std.proofs.Common.{◌≡◌, drop}
use Rattle.decimal.specs.Field.{rest_of}
use Rattle.decimal.proofs.rest_of.Given as goal

abbrev pub invariant-loop-at : goal.invariant-loop-at
invariant-loop-at l =
    rest_of l.limit l.end l.value l.at (drop l.at l.text)
    ≡ rest_of l.limit l.end l.initial.value l.initial.at (drop l.initial.at l.text)
