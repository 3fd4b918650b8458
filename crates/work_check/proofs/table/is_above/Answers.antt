use Rattle.std.proofs.Common.{sym}
use Rattle.work_check.proofs.TableLaws.{above-by}
use Rattle.work_check.proofs.table.is_above.Goals as goal

pub returns-in-Some : goal.returns-in-Some
returns-in-Some c = sym (above-by c.args.memory.now c.in-Some.last.now c.args.a c.in-Some.ensures.value)
