use Rattle.work_faults.proofs.CodeLaws.{workload-faults, report-faults, pair-faults}
use Rattle.work_faults.proofs.laws.codes_are_faults.Goals as goal

pub returns : goal.returns
returns c =
    record { workload = workload-faults; report = report-faults c.report_faults_are.ensures; pair = pair-faults c.report_faults_are.ensures }
