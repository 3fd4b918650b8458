use Rattle.work_check.proofs.WrittenLaws.{report-written}
use Rattle.work_check.proofs.laws.report_is_written.Goals as goal

pub returns : goal.returns
returns c = report-written
