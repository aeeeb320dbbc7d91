use Rattle.std.proofs.Common.{Some, length, arith, ap, sym, ◌∙◌}
use Rattle.trace.proofs.LinesLaws.{lines-found, lines-malformed, lines-over, lines-end}
use Rattle.trace.proofs.reader.ReaderIterator.next.Goals as goal

pub returns-in_err-line-clause-steps : goal.returns-in_err-line-clause-steps
returns-in_err-line-clause-steps c =
    let none = lines-end _ _ (sym c.in_err-line.ensures) in rw c.from_residual.ensures (none, none)

pub returns-in-Ok-clause-steps : goal.returns-in-Ok-clause-steps
returns-in-Ok-clause-steps c = lines-found _ _ _ _ (sym c.in_ok-line.ensures ∙ ap Some c.in-Ok.is)

pub returns-in-Ok-clause-goes : goal.returns-in-Ok-clause-goes
returns-in-Ok-clause-goes c =
    let e = ap length (lines-found _ _ _ _ (sym c.in_ok-line.ensures ∙ ap Some c.in-Ok.is)) in
    record { on = λ f. (tt, tt, omega (arith, e)); keeps = tt; rests = λ f. tt }

pub returns-in-Err-clause-steps : goal.returns-in-Err-clause-steps
returns-in-Err-clause-steps c =
    rw (lines-over c.args.self.now.text.now (length c.args.self.now.text.now) (omega arith))
    (lines-malformed _ _ (sym c.in_ok-line.ensures ∙ ap Some c.in-Err.is))

pub returns-in-Err-clause-goes : goal.returns-in-Err-clause-goes
returns-in-Err-clause-goes c =
    let e = ap length (lines-malformed _ _ (sym c.in_ok-line.ensures ∙ ap Some c.in-Err.is)) in
    let o = ap length (lines-over c.args.self.now.text.now (length c.args.self.now.text.now) (omega arith)) in
    record { on = λ f. (tt, tt, omega (arith, e, o)); keeps = tt; rests = λ f. tt }
