use Rattle.work_check.proofs.FindingLaws.{one-finding}
use Rattle.work_check.proofs.laws.one_finding_per_text.Goals as goal

pub returns : goal.returns
returns c = one-finding
