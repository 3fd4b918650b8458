use Rattle.work_script.proofs.ReportLaws.{report-replays}
use Rattle.work_script.proofs.laws.report_replays.Goals as goal

pub returns : goal.returns
returns g c = report-replays (g.K.MemRule.good c.args._rule.now)
