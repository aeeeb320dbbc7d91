-- Closed cases, which the premises of the laws hold of: the request's example written from its list into 40 bytes, and
-- shrunk into as many bytes as it has.
use mathlib.Core.Path.{◌≡◌, refl}
use lib.ListN.{replicate}
use Rattle.decimal.specs.Digits.{digits_of, digits_from}
use Rattle.decimal.specs.Field.{rest_of, field_from}
use Rattle.trace.specs.Contents.{items_in, check_in, starts_with}
use Rattle.trace.specs.Filling.{filled_of}
use Rattle.trace.specs.Line.{line_at, fields_at, item_at, triple_at, pair_at}
use Rattle.trace.specs.Lines.{lines_from, lines_by}
use Rattle.trace.specs.Listing.{clocks_from, call_from, entry_at, listing_by, listing_at}
use Rattle.trace.specs.Shrinking.{merged_of, parts_of, cut_of, shrunk_of}
use Rattle.trace.proofs.Examples.{example, list}
use Rattle.recording.specs.Calls.{trace_write_answer, trace_shrink_answer}
use Rattle.recording.specs.Meaning.{WritesBack, ShrinksTo}
use Rattle.recording.proofs.CallLaws.{writes-back, shrinks-to}

written : trace_write_answer list (replicate 40 0) ≡ 0
unfolding filled_of listing_at listing_by entry_at call_from clocks_from digits_of digits_from
written = refl

pub example-written : WritesBack list (replicate 40 0)
example-written = writes-back list (replicate 40 0) refl written

shrunk : trace_shrink_answer example (replicate 38 0) ≡ 0
unfolding filled_of items_in check_in lines_from lines_by starts_with line_at fields_at item_at triple_at pair_at rest_of field_from shrunk_of cut_of merged_of parts_of digits_of digits_from
shrunk = refl

pub example-shrunk : ShrinksTo example (replicate 38 0)
example-shrunk = shrinks-to example (replicate 38 0) shrunk
