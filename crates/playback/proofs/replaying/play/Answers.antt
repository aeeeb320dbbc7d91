use Rattle.std.proofs.Common.{◌≡◌, length, arith, inl, ap, ◌∙◌}
use Rattle.std.specs.Iterator.Adapters.{enumerate_source, enumerate_count}
use borrow.Author.Tests.{not-true, not-false}
use Rattle.trace.specs.Lines.{lines_from}
use Rattle.trace.proofs.LinesLaws.{lines-most}
use Rattle.playback.proofs.Playing.{playing-start, playing-small, playing-on, playing-other, playing-malformed, playing-over}
use Rattle.playback.proofs.replaying.play.Goals.{After-into_iter-n-iterator, in-None, in-Some+in_default}
use Rattle.playback.proofs.replaying.play.Goals as goal

-- the loop's iterator, at the start
from_8 : (c : After-into_iter-n-iterator)
    → let lines = enumerate_source c.into_iter-n-iterator.result in
    lines_from lines.text.now lines.at ≡ lines_from c.args.text.now 8
from_8 c = cc

from_none : (c : After-into_iter-n-iterator) → enumerate_count c.into_iter-n-iterator.result ≡ 0
from_none c = cc

pub loop-n-init : goal.loop-n-init
loop-n-init c = rw (from_none c, from_8 c) (playing-start c.args.text.now c.reset-d.result c.reset-d.ensures)

pub loop-n-init-derived : goal.loop-n-init-derived
loop-n-init-derived c =
    ((tt, tt, inl (omega (arith, ap length (from_8 c), from_none c, lines-most c.args.text.now 8))), tt)

pub overflow_add-n : goal.overflow_add-n
overflow_add-n c =
    let steps = c.in-Some.ensures.steps in
    let small =
    playing-small c.args.text.now _ _ _ c.loop-n.invariant _ _ steps.0 _ c.in-Ok.is
    c.stepped-step.result c.stepped-step.ensures in
    omega (arith, small, steps.1)

pub returns-then-not-step : goal.returns-then-not-step
returns-then-not-step c =
    let steps = c.in-Some.ensures.steps in
    c.refused.ensures
    ∙ rw steps.1
    (playing-other c.args.text.now _ _ _ c.loop-n.invariant _ _ steps.0 _ c.in-Ok.is
    c.stepped-step.result c.stepped-step.ensures (not-true _ c.if-not-step.true))

pub loop-n-preserved : goal.loop-n-preserved
loop-n-preserved c =
    let steps = c.in-Some.ensures.steps in
    rw steps.2
    (playing-on c.args.text.now _ _ _ c.loop-n.invariant _ _ steps.0 _ c.in-Ok.is
    c.stepped-step.result c.stepped-step.ensures (not-false _ c.if-not-step.false))

pub returns : goal.returns
returns c =
    elim c.match-next.branch [
      | in-None w ↦ c.done.ensures ∙ playing-over c.args.text.now _ _ _ c.loop-n.invariant w.in-None.ensures.steps.0.0
      | in-Some+in_default w ↦
          c.done.ensures
          ∙ playing-malformed c.args.text.now _ _ _ c.loop-n.invariant _ _ w.in-Some.ensures.steps.0 _
          w.in_default.is
    ]
