use mathlib.Core.Path.{◌≡◌, ap, ◌∙◌}
use Prim.Native.Nat.{ℕ}
use Rattle.usart.specs.Counting.{quiet_of, least}
use Rattle.usart.specs.declared.unit.Usart.{Usart}
use Rattle.usart.proofs.CountingLaws.{least-low, least-span, counted_none}
use Rattle.usart.proofs.unit.Usart.skip.Goals as goal

pub returns-then-clocks-eq0 : goal.returns-then-clocks-eq0
returns-then-clocks-eq0 c =
    let u = c.args.self in
    let l : c.min-clocks.result.0 ≡ least (quiet_of u) c.args.n.0 =
    least-span c.quiet.result c.args.n c.min-clocks.ensures ∙ ap (λ (m : ℕ). least m c.args.n.0) c.quiet.ensures in
    rw (← l, c.if-clocks-eq0.true, counted_none u)

pub counted-state-requires-clause-n_bound : goal.counted-state-requires-clause-n_bound
counted-state-requires-clause-n_bound c =
    rw (least-span c.quiet.result c.args.n c.min-clocks.ensures, c.quiet.ensures) (least-low _ _)

pub returns-else-clocks-eq0 : goal.returns-else-clocks-eq0
returns-else-clocks-eq0 c =
    let u : Usart = c.args.self in
    let l : c.min-clocks.result.0 ≡ least (quiet_of u) c.args.n.0 =
    least-span c.quiet.result c.args.n c.min-clocks.ensures ∙ ap (λ (m : ℕ). least m c.args.n.0) c.quiet.ensures in
    rw (← l, c.counted-state.ensures)
