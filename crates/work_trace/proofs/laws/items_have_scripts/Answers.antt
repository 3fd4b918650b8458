use Rattle.work_trace.proofs.Standing.{scripts-items}
use Rattle.work_trace.proofs.laws.items_have_scripts.Goals as goal

pub returns : goal.returns
returns c = scripts-items
