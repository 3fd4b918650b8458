use Rattle.work_check.proofs.FaultLaws.{report-faults}
use Rattle.work_check.proofs.laws.report_faults_are.Goals as goal

pub returns : goal.returns
returns c = report-faults
