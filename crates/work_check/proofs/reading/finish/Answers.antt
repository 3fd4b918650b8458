use Rattle.work_check.proofs.WordsLaws.{not-empty}
use Rattle.work_check.proofs.ReadingLaws.{read-last}
use Rattle.work_check.proofs.reading.finish.Goals as goal

pub returns-then-not-is_empty : goal.returns-then-not-is_empty
returns-then-not-is_empty c = λ lacks. read-last c.args.draft c.args.number c.args.rest.now lacks (not-empty _ _ c.is_empty.ensures c.if-not-is_empty.true)
