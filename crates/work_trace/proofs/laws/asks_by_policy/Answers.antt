use Rattle.work_trace.proofs.AskingLaws.{asks-by-policy}
use Rattle.work_trace.proofs.laws.asks_by_policy.Goals as goal

pub returns : goal.returns
returns c = asks-by-policy
