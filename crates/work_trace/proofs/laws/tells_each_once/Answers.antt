use Rattle.work_trace.proofs.TellLaws.{tells-each}
use Rattle.work_trace.proofs.laws.tells_each_once.Goals as goal

pub returns : goal.returns
returns c = tells-each
