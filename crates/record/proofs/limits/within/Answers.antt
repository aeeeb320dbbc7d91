use Rattle.std.proofs.Common.{rules, ℕ, bit_or, eqb, ltb, ap, ◌∙◌}
use Rattle.std.proofs.lemmas.Iterator.{YieldsList-from_slice, YieldsList-from_zip}
use Rattle.std.proofs.lemmas.Iterator.Consumers.{fold_from_yields_List}
use mir.Val.{bool_byte}
use borrow.Author.Tests.{tests}
use Rattle.record.specs.Layout.{most}
use Rattle.record.proofs.ListLaws.{within-folded}
use Rattle.record.proofs.limits.within.Goals as goal

pub returns : goal.returns
returns c =
    let over = fold_from_yields_List _ (λ (over : ℕ) (p : ℕ × ℕ). bit_or over (bool_byte (ltb p.1 p.0))) 0 c.fold.result c.fold.ensures.ran
    (YieldsList-from_zip (YieldsList-from_slice c.args.b.now cc) (YieldsList-from_slice most cc))
    (λ a x b q k. search (rules, tests)) in
    ap (λ (n : ℕ). eqb n 0) over ∙ within-folded c.args.b.now most 0
