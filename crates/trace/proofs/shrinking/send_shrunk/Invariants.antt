use Rattle.std.proofs.Common.{◌≤◌, length}
use Rattle.trace.specs.Contents.{contents_at}
use Rattle.trace.specs.Lines.{lines_from}
use Rattle.trace.specs.Shrinking.{most, shrunk_of}
use Rattle.trace.specs.Text.{lines_of, text_of}
use Rattle.trace.proofs.FillLaws.{Sending}
use Rattle.trace.proofs.PassLaws.{passed_of}
use Rattle.trace.proofs.shrinking.send_shrunk.Given as goal

abbrev pub invariant-loop-line : goal.invariant-loop-line
invariant-loop-line g l = record {
  held : l.held.clocks ≤ most;
  sending :
      Sending g.S.Sink.taken (text_of (shrunk_of (contents_at l.text 8 2).items))
      (lines_of (passed_of (lines_from l.line-iterator.text.now l.line-iterator.at) l.held)) l.fn.sink l.sink;
}

abbrev pub decreases-loop-line : goal.decreases-loop-line
decreases-loop-line g l = length (lines_from l.line-iterator.text.now l.line-iterator.at)
