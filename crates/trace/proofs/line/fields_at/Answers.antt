use Rattle.std.proofs.Common.{arith, ◌≡◌, ℕ, ◌+◌, ◌≤◌, None, List, length, ne_eqb, eq-eqb, ◌∙◌}
use lib.ListN.{get_or-eq_default}
use Rattle.trace.specs.Line.{fields_at}
use Rattle.trace.proofs.line.fields_at.Goals as goal

no-tab : (text : List ℕ) (at : ℕ) → length text ≤ at + 1 → None ≡ fields_at text at
unfolding fields_at
no-tab text at h = rw (get_or-eq_default text 0 h)

pub returns-in_err-letter : goal.returns-in_err-letter
returns-in_err-letter c =
    c.from_residual.ensures ∙ no-tab _ _ (let h = c.in_err-letter.ensures.lookup.3 in omega arith)

pub returns-in_err-get : goal.returns-in_err-get
returns-in_err-get c = c.from_residual-in_err-get.ensures ∙ no-tab _ _ c.in_err-get.ensures.lookup.3

pub returns-then-branch-ne9 : goal.returns-then-branch-ne9
unfolding fields_at
returns-then-branch-ne9 c =
    let byte = c.in_ok-get.ensures.lookup.3.1 0 in rw (← byte, ne_eqb _ _ c.if-branch-ne9.true)

pub returns : goal.returns
unfolding fields_at
returns c =
    let letter = c.in_ok-letter.ensures.lookup.3.1 0 in
    let byte = c.in_ok-get.ensures.lookup.3.1 0 in
    rw (← byte, eq-eqb _ _ c.if-branch-ne9.false, ← letter) c.item_at.ensures
