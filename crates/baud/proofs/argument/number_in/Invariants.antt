use Rattle.std.proofs.Common.{◌≡◌, Some, drop}
use Rattle.baud.specs.Decimal.{read_from}
use Rattle.baud.proofs.argument.number_in.Given as goal

abbrev pub invariant-loop-byte : goal.invariant-loop-byte
invariant-loop-byte l = read_from (Some l.value) (drop l.byte-index l.text) ≡ read_from (Some 0) l.text
