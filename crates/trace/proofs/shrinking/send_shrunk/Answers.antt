use Rattle.std.proofs.Common.{rules, arith, sym, ap, subst, ◌≡◌, ◌++◌, List, ℕ}
use Rattle.trace.specs.Contents.{contents_at}
use Rattle.trace.specs.Lines.{lines_from}
use Rattle.trace.specs.Shrinking.{shrunk_of}
use Rattle.trace.specs.Sinks.{Sent}
use Rattle.trace.specs.Text.{first_line, lines_of}
use Rattle.trace.specs.Turning.{run_items, out_at}
use Rattle.trace.proofs.FillLaws.{sent_short, sending_on, sending_short, sending_last}
use Rattle.trace.proofs.PassLaws.{passed_of, passed-next, passed-held, passed-malformed, passed-end, passed_start}
use Rattle.trace.proofs.Reading.{items-range}
use Rattle.trace.proofs.shrinking.send_shrunk.Goals.{in-None, in-Some+in_default}
use Rattle.trace.proofs.shrinking.send_shrunk.Goals as goal

pub returns-in_err-send_first : goal.returns-in_err-send_first
returns-in_err-send_first g c =
    sent_short g.met.S.Sink.laws _ _ first_line (lines_of (shrunk_of (contents_at c.args.text.now 8 2).items)) _ _
    c.in_err-send_first.ensures (search rules)

pub loop-line-init : goal.loop-line-init
loop-line-init g c =
    let r = c.into_iter-line-iterator.result in
    let e : lines_from r.text.now r.at ≡ lines_from c.args.text.now 8 = cc in
    let p = passed_start _ _ c.default-held.result e c.default-held.ensures.1 in
    record {
      held = omega (arith, c.default-held.ensures.1);
      sending = record {
        before = first_line;
        so_far = c.in_ok-send_first.ensures;
        parted = ap (λ s. first_line ++ lines_of s) p;
      };
    }

pub returns-in_err-send_out : goal.returns-in_err-send_out
returns-in_err-send_out g c =
    let i = c.loop-line.invariant in
    let it = c.loop-line.line-iterator in
    let to = c.next.new.self in
    sending_short g.met.S.Sink.laws _ _ _ _ i.sending (lines_of (out_at c.turned-turn.result.out c.in-Ok.item)) _
    (passed-next c.loop-line.held i.held (lines_from it.text.now it.at) (lines_from to.text.now to.at) _ _ c.in-Some.ensures.steps c.in-Ok.is _
    c.turned-turn.ensures)
    _ _ _ c.in_err-send_out.ensures (search rules)

pub loop-line-preserved : goal.loop-line-preserved
loop-line-preserved g c =
    let i = c.loop-line.invariant in
    let it = c.loop-line.line-iterator in
    let to = c.next.new.self in
    record {
      held =
          passed-held c.loop-line.held i.held (lines_from it.text.now it.at) (lines_from to.text.now to.at) _ _ c.in-Some.ensures.steps c.in-Ok.is _
          c.turned-turn.ensures (items-range it.text.now it.at);
      sending =
          sending_on g.met.S.Sink.laws _ _ _ _ i.sending (lines_of (out_at c.turned-turn.result.out c.in-Ok.item)) _
          (passed-next c.loop-line.held i.held (lines_from it.text.now it.at) (lines_from to.text.now to.at) _ _ c.in-Some.ensures.steps c.in-Ok.is _
          c.turned-turn.ensures) _ c.in_ok-send_out.ensures;
    }

pub returns : goal.returns
returns g c =
    let i = c.loop-line.invariant in
    let it = c.loop-line.line-iterator in
    let to = c.next.new.self in
    let last : passed_of (lines_from it.text.now it.at) c.loop-line.held ≡ run_items c.loop-line.held =
    elim c.match-next.branch [
      | in-None w ↦ passed-end c.loop-line.held i.held (lines_from it.text.now it.at) w.in-None.ensures.steps.0
      | in-Some+in_default w ↦ passed-malformed c.loop-line.held i.held (lines_from it.text.now it.at)
          (lines_from to.text.now to.at) _ w.in-Some.ensures.steps w.in_default.not-Ok
    ] in
    sending_last g.met.S.Sink.laws _ _ _ _ i.sending _ _
    (subst (λ (s : List ℕ). Sent g.S.Sink.fits g.S.Sink.taken c.loop-line.sink s c.send_run.result c.send_run.new.sink)
    (ap lines_of (sym last)) c.send_run.ensures)
