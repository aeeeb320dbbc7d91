use Rattle.std.proofs.Common.{◌≡◌}
use Rattle.std.specs.Slice.Iter.{chunks_rest, chunks_size}
use Rattle.trace.specs.Listing.{listing_of}
use Rattle.trace.specs.Text.{lines_of, text_of}
use Rattle.trace.proofs.FillLaws.{Sending}
use Rattle.trace.proofs.writing.send_list.Given as goal

abbrev pub invariant-loop-entry : goal.invariant-loop-entry
invariant-loop-entry g l = record {
  size : chunks_size l.entry-iterator ≡ 8;
  sending :
      Sending g.S.Sink.taken (text_of (listing_of l.list).items)
      (lines_of (listing_of (chunks_rest l.entry-iterator)).items) l.fn.sink l.sink;
}
