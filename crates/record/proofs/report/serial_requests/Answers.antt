use Rattle.record.proofs.ReportLaws.{none-held, not_full}
use Rattle.record.proofs.report.serial_requests.Goals as goal

pub returns : goal.returns
returns c =
    rw (
      c.asked.ensures.value,
      c.asked-2.ensures.value,
      c.asked-3.ensures.value,
      c.control_at-c.ensures,
      none-held,
      not_full,
    )
