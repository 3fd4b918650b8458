use Rattle.work_check.proofs.TextLaws.{report-read}
use Rattle.work_check.proofs.laws.report_is_read.Goals as goal

pub returns : goal.returns
returns c = report-read
