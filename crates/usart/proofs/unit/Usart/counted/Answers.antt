use mathlib.Core.Path.{refl}
use Rattle.choice.proofs.Picks.{pick_true, flag-of}
use Rattle.usart.specs.Counting.{counted_of}
use Rattle.usart.proofs.CountingLaws.{ticking, all-ticks, waiting}
use Rattle.usart.proofs.unit.Usart.counted.Goals as goal

pub clocks_as_ticks-ticks-requires-clause-ubrr_value : goal.clocks_as_ticks-ticks-requires-clause-ubrr_value
clocks_as_ticks-ticks-requires-clause-ubrr_value c =
    let e = flag-of _ _ _ c.ticks.ensures c.if-ticks.true in
    (ticking _ _ e c.requires.n_bound).every c.requires.le_n

pub counted-requires : goal.counted-requires
counted-requires c =
    let e = flag-of _ _ _ c.ticks.ensures c.if-ticks.true in
    let p = c.requires in
    rw (all-ticks _ e p.le_n p.n_bound c.clocks_as_ticks-ticks.ensures) (ticking _ _ e p.n_bound).sender

pub counted-requires-then-ticks : goal.counted-requires-then-ticks
counted-requires-then-ticks c =
    let e = flag-of _ _ _ c.ticks.ensures c.if-ticks.true in
    let p = c.requires in
    rw (all-ticks _ e p.le_n p.n_bound c.clocks_as_ticks-ticks.ensures) (ticking _ _ e p.n_bound).receiver

pub returns-then-ticks : goal.returns-then-ticks
unfolding counted_of
returns-then-ticks c =
    let e = flag-of _ _ _ c.ticks.ensures c.if-ticks.true in
    let p = c.requires in
    rw (c.counted-then-ticks.ensures, c.counted.ensures, all-ticks _ e p.le_n p.n_bound c.clocks_as_ticks-ticks.ensures)
    (pick_true _ _ _ _ e refl)

pub counted-requires-else-ticks : goal.counted-requires-else-ticks
counted-requires-else-ticks c = waiting _ _ (flag-of _ _ _ c.ticks.ensures c.if-ticks.false) c.requires.n_bound
