use Rattle.std.proofs.Common.{ℕ, ap, sym, ◌∙◌}
use Rattle.advance.proofs.PassingLaws.{none-taken, some-taken}
use Rattle.usart.specs.Counting.{least}
use Rattle.usart.proofs.CountingLaws.{least-low, least-ticks}
use Rattle.usart.proofs.HoldingLaws.{listening-counted}
use Rattle.usart.proofs.hold.ListeningSteps.counted.Goals as goal

pub counted-requires : goal.counted-requires
counted-requires c = rw (least-ticks c.quiet.result (record { 0 = c.args.n }) c.min-ticks.ensures, c.quiet.ensures) (least-low _ _)

pub returns-then-ticks-eq0-clause-value : goal.returns-then-ticks-eq0-clause-value
returns-then-ticks-eq0-clause-value c =
    let n = c.args.n in
    let few = least-ticks c.quiet.result (record { 0 = n }) c.min-ticks.ensures ∙ ap (λ (m : ℕ). least m n) c.quiet.ensures in
    none-taken _ (sym few ∙ c.if-ticks-eq0.true)

pub returns-clause-value : goal.returns-clause-value
returns-clause-value c =
    let n = c.args.n in
    let few = least-ticks c.quiet.result (record { 0 = n }) c.min-ticks.ensures ∙ ap (λ (m : ℕ). least m n) c.quiet.ensures in
    rw (c.counted.ensures, few) (some-taken _ (λ q. c.if-ticks-eq0.false (few ∙ q)))

pub returns-clause-steps : goal.returns-clause-steps
returns-clause-steps c =
    let n = c.args.n in
    listening-counted c.args.self
    (least-ticks c.quiet.result (record { 0 = n }) c.min-ticks.ensures ∙ ap (λ (m : ℕ). least m n) c.quiet.ensures)
    c.if-ticks-eq0.false c.counted.ensures
