use Rattle.draw_core.proofs.ReadLaws.{closed-none, closed-some}
use Rattle.draw_core.proofs.reading.check_closed.Goals as goal

pub returns-then-is_empty-clause-told : goal.returns-then-is_empty-clause-told
returns-then-is_empty-clause-told c = λ told. closed-none told c.args.number c.args.after.now c.is_empty.result c.is_empty.ensures c.if-is_empty.true

pub returns-clause-fault : goal.returns-clause-fault
returns-clause-fault c = λ told. closed-some told c.args.number c.args.after.now c.is_empty.result c.is_empty.ensures c.if-is_empty.false
