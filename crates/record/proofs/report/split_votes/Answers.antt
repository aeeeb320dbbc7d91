use Rattle.std.proofs.Common.{refl, ap, ◌∙◌, ℕ, ◌+◌, List, Ok}
use Rattle.choice.proofs.Picks.{pick_true}
use Rattle.record.specs.Layout.{oldest_byte, byte_at}
use Rattle.record.specs.Report.{report_of}
use Rattle.record.proofs.ReportLaws.{splits-shown}
use Rattle.record.proofs.report.split_votes.Goals as goal

pub returns : goal.returns
unfolding report_of
returns c =
    let h = c.in_ok-b.ensures in
    pick_true _ _ _ _ h.1 (ap Ok (ap (λ (b : List ℕ). byte_at b (oldest_byte + 2)) h.0 ∙ splits-shown _ refl h.1))
