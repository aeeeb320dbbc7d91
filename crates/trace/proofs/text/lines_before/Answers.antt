use Rattle.std.proofs.Common.{◌≡◌, rules, tests, arith, inl, length}
use Rattle.std.specs.Result.{is_err}
use Rattle.std.proofs.lemmas.Iterator.Consumers.{YieldsList-from_first}
use Rattle.std.proofs.lemmas.Iterator.Search.{position_from_yields_List}
use Rattle.trace.specs.Lines.{lines_from}
use Rattle.trace.specs.declared.reader.Reader.{Reader}
use Rattle.trace.proofs.LinesLaws.{lines-most}
use Rattle.trace.proofs.text.lines_before.Goals as goal

pub position-requires-clause-fits : goal.position-requires-clause-fits
position-requires-clause-fits c =
    let r = c.past_first-lines.result in
    let e : length (lines_from r.text.now r.at) ≡ length (lines_from c.args.text.now 8) = cc in
    inl (omega (arith, e, lines-most c.args.text.now 8))

pub returns : goal.returns
returns c =
    position_from_yields_List is_err c.position.new.self _ _ c.position.ensures.ran
    (YieldsList-from_first (λ x. x) (λ (r : Reader). lines_from r.text.now r.at) {s = c.past_first-lines.result}
    (lines_from c.args.text.now 8) cc)
    (λ x b q k. search (rules, tests))
