use Rattle.std.proofs.Common.{refl}
use Rattle.trace.proofs.PutLaws.{same-place, at_end, number-put}
use Rattle.trace.proofs.page.PageSink.number.Goals.{then-last-start-via-then-last-start, then-last-start-via-else-last-start+then-self-last}
use Rattle.trace.proofs.page.PageSink.number.Goals as goal

pub returns-then-last-start : goal.returns-then-last-start
returns-then-last-start c = (
  elim c.then-last-start.branch [
    | then-last-start-via-then-last-start w ↦ same-place _ _ _ _ _ _ c.put_number-last.ensures.value c.put_number-last.ensures.buffer_after w.if-last-start.true
    | then-last-start-via-else-last-start+then-self-last w ↦ at_end _ _ _ _ _ _ c.put_number-last.ensures.value c.put_number-last.ensures.buffer_after w.if-self-last.true
  ],
  refl,
)

pub returns : goal.returns
returns c = record {
  same = refl;
  put = number-put _ _ _ _ _ _ c.put_number-last.ensures.value c.put_number-last.ensures.buffer_after c.if-last-start.false;
}
