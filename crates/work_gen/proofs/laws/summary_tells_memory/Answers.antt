use Rattle.work_gen.proofs.SummaryLaws.{summary-tells}
use Rattle.work_gen.proofs.laws.summary_tells_memory.Goals as goal

pub returns : goal.returns
returns c = summary-tells
