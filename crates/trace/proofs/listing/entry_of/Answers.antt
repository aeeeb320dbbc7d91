use Rattle.std.proofs.Common.{◌≡◌, arith}
use Rattle.trace.specs.Listing.{short_at, long_at}
use Rattle.trace.proofs.EntryLaws.{entry-short, entry-there}
use Rattle.trace.proofs.listing.entry_of.Goals as goal

pub returns-then-entry-lt8 : goal.returns-then-entry-lt8
returns-then-entry-lt8 c = entry-short c.args.entry.now 0 (omega (arith, c.if-entry-lt8.true))

pub returns : goal.returns
returns c =
    let place : c.from_le_bytes-place.result ≡ short_at c.args.entry.now 0 =
    omega (arith, c.from_le_bytes-place.ensures) in
    let amount : c.from_le_bytes-amount.result ≡ long_at c.args.entry.now 0 =
    omega (arith, c.from_le_bytes-amount.ensures) in
    entry-there c.args.entry.now 0 c.entry_from.result (omega (arith, c.if-entry-lt8.false))
    (rw (← place, ← amount) c.entry_from.ensures)
