use Rattle.work_text.proofs.ReportLaws.{report_bytes-injective}
use Rattle.work_text.proofs.laws.one_report_per_text.Goals as goal

pub returns : goal.returns
returns c = report_bytes-injective
