use Rattle.std.proofs.Common.{rules}
use Rattle.trace.specs.Text.{line_of, lines_of}
use Rattle.trace.specs.Turning.{run_items, call_of}
use Rattle.trace.proofs.FillLaws.{sent_short, sent_then}
use Rattle.trace.proofs.PutLaws.{lines-append}
use Rattle.trace.proofs.TurnLaws.{out-clocks, out-call}
use Rattle.trace.proofs.turn.send_out.Goals as goal

pub returns-in_err-send_run : goal.returns-in_err-send_run
returns-in_err-send_run g c =
    rw (lines-append (run_items c.args.out) (call_of c.args.i))
    (sent_short g.met.S.Sink.laws _ _ (lines_of (run_items c.args.out)) (lines_of (call_of c.args.i)) _ _
    c.in_err-send_run.ensures (search rules))

pub returns-in-Clocks : goal.returns-in-Clocks
returns-in-Clocks g c = rw (out-clocks c.args.out c.args.i _ _ c.in-Clocks.is) c.in_ok-send_run.ensures

pub returns-in_default : goal.returns-in_default
returns-in_default g c =
    rw (out-call c.args.out c.args.i c.in_default.not-Clocks)
    (sent_then g.met.S.Sink.laws _ _ _ (lines_of (run_items c.args.out)) (line_of c.args.i) _ c.in_ok-send_run.ensures
    c.send_line.ensures)
